use Rattle.std.proofs.Common.{◌∙◌, ◌++◌, ◌∷◌, [], Some, sym, ap}
use Rattle.std.specs.Prelude.{List}
use Rattle.step_table.specs.Groups.{Names}
use Rattle.op_window.proofs.PlacesMade.{names_next}
use Rattle.op_window.proofs.named.labels_in.Goals as goal

pub loop-i-preserved : goal.loop-i-preserved
loop-i-preserved c =
    let names : Names = c.in_ok-copy.field-0 in
    c.in_ok-push.ensures.ok ∙ ap (λ (ns : List Names). ns ++ names ∷ []) c.loop-i.invariant ∙ names_next c.args.windows.now.rows c.loop-i.i names (c.labels.ensures ∙ ap Some (sym c.in_ok-copy.ensures))
