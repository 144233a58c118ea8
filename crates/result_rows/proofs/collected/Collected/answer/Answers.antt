use Rattle.std.proofs.Common.{◌≡◌, ◌∙◌, ap, subst}
use Rattle.std.specs.List.{IsDistinct}
use Rattle.label_set.specs.LabelEquality.{labels_eq}
use Rattle.step_batch.specs.Lent.{Lent}
use Rattle.result_rows.specs.Taken.{names_of}
use Rattle.result_rows.proofs.Under.{front_distinct}
use Rattle.result_rows.proofs.collected.Collected.answer.Goals as goal

pub series_of-requires : goal.series_of-requires
series_of-requires c =
    let inside = c.self.inside in
    let same : c.labels.result.now ≡ inside.labels.labels = c.labels.ensures.labels ∙ ap (λ (l : Lent). l.labels) c.lend.ensures in
    front_distinct (names_of inside.found.series.items) inside.labels.labels c.self.invariant.front (subst (IsDistinct labels_eq) same c.labels.ensures.distinct)
