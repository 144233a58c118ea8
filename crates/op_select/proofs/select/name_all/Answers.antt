use Rattle.std.proofs.Common.{◌≡◌, ◌∙◌, ap, take, ◌+◌}
use Rattle.std.specs.Prelude.{List, []}
use Rattle.indexmap.specs.IndexSet.{insert_key}
use Rattle.label_set.specs.LabelEquality.{labels_eq}
use Rattle.step_batch.specs.Lent.{Lent}
use Rattle.step_batch.specs.declared.steps.PlacedStep.{PlacedStep}
use Rattle.step_table.specs.Groups.{Names}
use Rattle.op_select.specs.Newest.{names_of}
use Rattle.op_select.proofs.Naming.{one_named}
use Rattle.op_select.proofs.select.name_all.Goals as goal

pub loop-s-preserved : goal.loop-s-preserved
loop-s-preserved c =
    let store = c.args.store.now in
    let xs = c.args.series.now in
    let i = c.loop-s.s-index in
    let names : c.place.new.self.labels ≡ names_of store (take (i + 1) xs) =
    c.in_ok-place.ensures.labels ∙ ap (λ (l : Lent). insert_key labels_eq l.labels c.labels.result.now) c.loop-s.invariant
    ∙ one_named store xs i c.labels.result.now c.requires.distinct c.requires.there c.requires.once c.loop-s-test.true c.labels.ensures.named in
    let steps : c.place.new.self.steps ≡ [] = c.in_ok-place.ensures.steps ∙ ap (λ (l : Lent). l.steps) c.loop-s.invariant in
    ap (λ (ls : List Names). record { labels = ls; steps = c.place.new.self.steps }) names ∙ ap (λ (ss : List PlacedStep). record { labels = names_of store (take (i + 1) xs); steps = ss }) steps
