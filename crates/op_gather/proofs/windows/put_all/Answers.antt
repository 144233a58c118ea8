use Rattle.std.proofs.Common.{◌≡◌, ◌∷◌, ◌+◌, false, drop, sym, subst, arith}
use Rattle.std.specs.List.{list_any}
use Rattle.std.proofs.lemmas.Grind.{common_steps}
use Rattle.label_set.specs.LabelEquality.{labels_eq}
use Rattle.step_batch.specs.LentWindows.{WindowsAt, names_of}
use Rattle.op_gather.proofs.LoneWindows.{fresh_at}
use Rattle.op_gather.proofs.windows.put_all.Goals as goal

pub put_one-requires-clause-fresh : goal.put_one-requires-clause-fresh
put_one-requires-clause-fresh c =
    let i = c.loop-window.window-index in
    let all = c.args.windows.now in
    let rest : drop i all ≡ c.window-item.result ∷ drop (i + 1) all = grind (arith, common_steps, c.window-item.is) in
    subst (λ (w : WindowsAt). list_any (labels_eq c.window-item.result.labels) (names_of w.rows) ≡ false) (sym c.loop-window.invariant.put) (fresh_at all i c.window-item.result (drop (i + 1) all) rest c.requires.sorted)
