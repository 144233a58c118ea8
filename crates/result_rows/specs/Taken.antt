-- What is kept of the steps of an evaluation. (This project's own.)
use Rattle.std.specs.Prelude.{◌≡◌, ◌≤◌, ℕ, Bool, List, [], ◌∷◌, map, Option, None, Some, slice_get, if◌then◌else◌}
use Rattle.std.specs.BTreeMap.{insert_entry, is_at}
use Rattle.label_set.specs.Labels.{labels_cmp}
use Rattle.promql_meaning.specs.declared.answer.Answer.{Answer}
use Rattle.promql_meaning.specs.declared.answer.Point.{Point}
use Rattle.promql_meaning.specs.declared.answer.ResultSeries.{ResultSeries}
use Rattle.promql_meaning.specs.Givens.{no_marks}
use Rattle.promql_meaning.specs.Orders.{ByValue, in_order}
use Rattle.promql_meaning.specs.ResultLaws.{rows_in}
use Rattle.promql_meaning.specs.Results.{all_marks, all_points, first_stop, most_rows, series_of}
use Rattle.result_rows.specs.declared.found.Found.{Found}
use Rattle.step_batch.specs.Lent.{Lent}
use Rattle.step_put.specs.Placed.{IsPlaced, Naming}
use Rattle.step_put.specs.declared.labels_left.Left.TheVariants as kind
use Rattle.step_table.specs.Groups.{Names, items_of}
use Rattle.step_table.specs.Timed.{StepAt}
use Rattle.step_table.specs.declared.marks.Marks.{Marks}
use Rattle.ticks.specs.declared.moment.Ms.{Ms}
use Rattle.xfrac.specs.declared.value.XFrac.{XFrac}

-- series in the order in which their labels came, the marks and notes, and how many rows there are
pub record Kept : Type 0 where
  pub series : List ResultSeries
  pub marks : Marks
  pub rows : ℕ

abbrev pub kept_of : Found → Kept
kept_of found = record { series = found.series.items; marks = found.marks; rows = found.rows }

abbrev pub names_of : List ResultSeries → List Names
names_of series = map (λ (s : ResultSeries). s.labels) series

-- the points of the series with some labels, none where there is no such series
abbrev pub points_under : Names → List ResultSeries → List Point
points_under names [] = []
points_under names (s ∷ series) = if is_at (labels_cmp names) s.labels then s.points else points_under names series

-- what is kept of steps, none of which ends the evaluation: their points by labels, their marks and notes, and their rows counted
pub record HasTaken (kept : Kept) (steps : List StepAt) : Type 0 where
  pub goes_on : first_stop 0 steps ≡ None
  pub points : (names : Names) → points_under names kept.series ≡ items_of (all_points steps) names
  pub marks : kept.marks ≡ all_marks no_marks steps
  pub rows : kept.rows ≡ rows_in steps

-- the answer of steps, in an order
abbrev pub ordered_answer : Bool → Option ByValue → List StepAt → Answer
ordered_answer scalar order steps = record { scalar = scalar; series = in_order order (series_of steps); notes = (all_marks no_marks steps).notes }

-- ---- how it is kept

-- labels stand at their places in a list that may have more
abbrev pub AreFront : List Names → List Names → Type 0
AreFront front labels = (place : ℕ) (names : Names) → slice_get front place ≡ Some names → slice_get labels place ≡ Some names

-- all labels that were fed stand at their places, so do those of the series, and the rows are within the limit
pub record IsReady (lent : Lent) (naming : Naming) (found : Found) : Type 0 where
  pub left : naming.left ≡ kind.All
  pub placed : IsPlaced lent naming
  pub front : AreFront (names_of found.series.items) lent.labels
  pub few : found.rows ≤ most_rows

-- values at an instant as points under their labels
abbrev pub points_of : Ms → List (Names × XFrac) → List (Names × Point)
points_of at entries = map (λ (e : Names × XFrac). (e.0, record { at = at; value = e.1 })) entries

-- with the points of a series, if it has some, under its labels
abbrev pub with_series : List (Names × List Point) → ResultSeries → List (Names × List Point)
with_series groups series = with_some series.points
  where
    with_some : List Point → List (Names × List Point)
    with_some [] = groups
    with_some (point ∷ points) = insert_entry labels_cmp groups series.labels (point ∷ points)
