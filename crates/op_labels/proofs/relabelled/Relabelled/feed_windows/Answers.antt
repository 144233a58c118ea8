use Rattle.std.proofs.Common.{◌≡◌, ◌∙◌, List, length, map, ap, subst}
use Rattle.std.proofs.lemmas.Result.{on_ok_weaker}
use Rattle.label_set.specs.declared.rules.Relabel.{Relabel}
use Rattle.label_set.specs.declared.rules.Relabel.TheVariants.{Filter}
use Rattle.step_batch.specs.LentWindows.{names_of}
use Rattle.step_table.specs.Groups.{Names}
use Rattle.step_table.specs.declared.windows.WindowRow.{WindowRow}
use Rattle.op_labels.specs.Rules.{AreMade, Relabelling, fate_by, relabel_of}
use Rattle.op_labels.proofs.Keeping.{made_counts, mapped_count}
use Rattle.op_labels.proofs.Passing.{filter_passes}
use Rattle.op_labels.proofs.relabelled.Relabelled.feed_windows.Goals as goal

pub pass_all-requires : goal.pass_all-requires
pass_all-requires c =
    let kept = c.renew_by_windows.new.self in
    ap length c.as_slice.ensures.value ∙ (made_counts c.args.patterns.now (relabel_of c.self.inside.change) kept.fed.items kept.made.items kept.fates.items c.renew_by_windows.ensures.made).1
    ∙ ap length c.in_ok-renew_by_windows.ensures.fed ∙ mapped_count (λ (w : WindowRow). w.labels) c.args.windows.now.rows

pub returns-clause-windows : goal.returns-clause-windows
returns-clause-windows c =
    let kept = c.renew_by_windows.new.self in
    let windows = c.args.windows.now in
    let patterns = c.args.patterns.now in
    on_ok_weaker c.pass_all.result
    (λ passed rules is.
    let rule : relabel_of c.self.inside.change ≡ Filter rules = ap (λ (k : Relabelling). k.rule) c.self.view_is ∙ is in
    let made = subst (λ (z : Relabel). AreMade patterns z kept.fed.items kept.made.items kept.fates.items) rule c.renew_by_windows.ensures.made in
    filter_passes patterns rules c.as_slice.result.now windows c.pass_all.new.passed
    (c.as_slice.ensures.value ∙ made.fates ∙ ap (λ (names : List Names). map (fate_by patterns (Filter rules)) names) c.in_ok-renew_by_windows.ensures.fed) passed)
    c.pass_all.ensures
