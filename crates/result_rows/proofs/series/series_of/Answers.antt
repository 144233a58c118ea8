use Rattle.std.proofs.Common.{◌≡◌, ◌∙◌, List, ap, subst}
use Rattle.std.specs.Prelude.{map}
use Rattle.std.specs.List.Sorted.{IsStrictlySortedBy}
use Rattle.label_set.specs.Labels.{labels_cmp}
use Rattle.promql_meaning.specs.Results.{series_of_group}
use Rattle.promql_meaning.specs.declared.answer.Point.{Point}
use Rattle.promql_meaning.specs.declared.answer.ResultSeries.{ResultSeries}
use Rattle.step_table.specs.Groups.{Names, gathered, items_of}
use Rattle.result_rows.specs.Taken.{names_of, points_under}
use Rattle.result_rows.proofs.Risen.{kept_risen}
use Rattle.result_rows.proofs.Sorted.{groups_are}
use Rattle.result_rows.proofs.Under.{of_ok}
use Rattle.result_rows.proofs.series.series_of.Goals as goal

pub returns-then-are_rising : goal.returns-then-are_rising
returns-then-are_rising c items same =
    let series = c.args.series.items in
    let risen : IsStrictlySortedBy labels_cmp (names_of series) = subst (λ (r : List ResultSeries). IsStrictlySortedBy labels_cmp (names_of r)) c.as_slice.ensures.value (c.are_rising.ensures c.if-are_rising.true) in
    c.with_points.ensures ∙ kept_risen series risen ∙ ap (map series_of_group) (groups_are items series c.requires same)

pub returns : goal.returns
returns c =
    let series = c.args.series.items in
    of_ok c.series_in.result (λ sorted. sorted ≡ map series_of_group c.in_ok-by_labels.field-0.entries)
    (λ sorted. (items : List (Names × Point)) → ((names : Names) → points_under names series ≡ items_of items names) → sorted ≡ map series_of_group (gathered items))
    (λ sorted is items same. is ∙ ap (map series_of_group) (c.in_ok-by_labels.ensures ∙ groups_are items series c.requires same)) c.series_in.ensures
