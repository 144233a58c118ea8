use Rattle.std.proofs.Common.{◌∙◌, ap, sym, Some}
use Rattle.std.specs.Prelude.{List}
use Rattle.std.proofs.lemmas.Option.{slice_get-get_or}
use Rattle.indexmap.specs.IndexSet.{insert_key}
use Rattle.label_set.specs.LabelEquality.{labels_eq}
use Rattle.step_table.specs.Groups.{Names}
use Rattle.plan_tree.proofs.Copies.{named_more}
use Rattle.plan_tree.proofs.copying.name_all.Goals as goal

pub loop-names-preserved : goal.loop-names-preserved
loop-names-preserved c =
    let n = c.names-item.result in
    c.in_ok-place.ensures.labels ∙ ap (λ (ls : List Names). insert_key labels_eq ls n) c.loop-names.invariant
    ∙ named_more c.args.labels.now c.loop-names.names-index n c.requires (slice_get-get_or c.args.labels.now c.loop-names.names-index n c.loop-names-test.true ∙ ap Some (sym c.names-item.is))
