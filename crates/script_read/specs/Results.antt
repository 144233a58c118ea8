-- The lines of a result: a scalar, or a series with one number in an instant, with items in a range. (The promqltest format.)
use Rattle.std.specs.Prelude.{◌≡◌, ◌≤◌, ℕ, zero, suc, ◌+◌, ◌-◌, Bool, true, false, ◌==◌, ◌&&◌, ◌||◌, not, nat_le, nat_lt, if◌then◌else◌, List, [], ◌∷◌, ◌++◌, codes, map, Result, Ok, Err}
use Rattle.std.specs.List.{list_any}
use Rattle.std.specs.Ordering.{is_eq}
use Rattle.label_set.specs.Labels.{labels_cmp}
use Rattle.xfrac.specs.Arithmetic.{arithmetic}
use Rattle.xfrac.specs.declared.value.NumFault.{NumFault}
use Rattle.xfrac.specs.declared.value.ArithOp.TheVariants.{Add}
use Rattle.xfrac.specs.declared.value.XFrac.{XFrac}
use Rattle.promql_meaning.specs.declared.answer.Point.{Point}
use Rattle.promql_meaning.specs.declared.answer.ResultSeries.{ResultSeries}
use Rattle.script_read.specs.Items.{item_spelled}
use Rattle.script_read.specs.Lines.{is_empty, words_behind, words_of}
use Rattle.script_read.specs.Moments.{point_at}
use Rattle.ticks.specs.Moments.{Moments, places}
use Rattle.script_read.specs.Outcomes.{Fails, in_front, joined, then_give, then_try}
use Rattle.script_read.specs.Series.{LabelList, Series, name_front, series_at}
use Rattle.script_read.specs.Words.{is_word, number_spelled, starts_name}
use Rattle.script_read.specs.declared.fault.LineFault.{LineFault}
use Rattle.script_read.specs.declared.fault.LineFault.TheVariants.{Malformed, NumberRange}
use Rattle.script_read.specs.declared.script.Expectations.{Expectations}
use Rattle.script_read.specs.declared.script.Expected.{Expected}
use Rattle.script_read.specs.declared.script.Expected.TheVariants.{Scalar, Rows}
use Rattle.script_read.specs.declared.script.SeriesItem.{SeriesItem}
use Rattle.script_read.specs.declared.script.SeriesItem.TheVariants.{Gap, Stale, Run}

-- a line begins with a series, and not with a number: `Inf` and `NaN` are numbers
abbrev pub begins_series : List ℕ → Bool
begins_series [] = false
begins_series (first ∷ rest) =
    first == 123 || (starts_name first && (not (is_word (name_front (first ∷ rest)) (codes "inf")) && not (is_word (name_front (first ∷ rest)) (codes "nan"))))

-- one number, and no more
abbrev pub number_alone : List (List ℕ) → Result XFrac LineFault
number_alone [] = Err Malformed
number_alone (word ∷ []) = number_spelled word
number_alone (word ∷ (next ∷ words)) = then_try (number_spelled word) (λ _. Err Malformed)

-- ---- an instant

-- one number, at the instant
abbrev pub instant_points : Moments → List ℕ → Result (List Point) LineFault
instant_points m behind = then_give (number_alone (words_behind behind)) (λ value. record { at = m.start; value = value } ∷ [])

-- ---- a range

-- how many places are left behind an item; a marker of staleness stands in no result
abbrev pub room_after : ℕ → SeriesItem → Result ℕ LineFault
room_after room Stale = Err Malformed
room_after room (Gap gap) = if nat_le gap room then Ok (room - gap) else Err Malformed
room_after room (Run first by more) = if nat_lt more room then Ok (room - more - 1) else Err Malformed

-- an item, and how many places are left behind it
abbrev pub cell_spelled : ℕ → List ℕ → Result (SeriesItem × ℕ) LineFault
cell_spelled room word = then_try (item_spelled word) (λ item. then_give (room_after room item) (λ left. (item, left)))

-- items that take no more places than are left
abbrev pub cells_from : ℕ → List (List ℕ) → Result (List SeriesItem) LineFault
cells_from room [] = Ok []
cells_from room (word ∷ words) = then_try (cell_spelled room word) (λ cell. in_front (cell.0 ∷ []) (cells_from cell.1 words))

-- one item or more
abbrev pub cells_spelled : ℕ → List (List ℕ) → Result (List SeriesItem) LineFault
cells_spelled room [] = Err Malformed
cells_spelled room (word ∷ words) = cells_from room (word ∷ words)

-- the value behind one of a run
abbrev pub if_number : Result XFrac NumFault → Result XFrac LineFault
if_number (Ok value) = Ok value
if_number (Err fault) = Err NumberRange

abbrev pub next_value : XFrac → XFrac → Result XFrac LineFault
next_value value by = if_number (arithmetic Add value by)

-- the points of a run from a place on
abbrev pub run_points : Moments → ℕ → ℕ → XFrac → XFrac → Result (List Point) LineFault
run_points m place zero value by = Ok (record { at = point_at m place; value = value } ∷ [])
run_points m place (suc more) value by =
    in_front (record { at = point_at m place; value = value } ∷ []) (then_try (next_value value by) (λ next. run_points m (place + 1) more next by))

-- the points of items from a place on; nothing stands in gaps
abbrev pub points_from : Moments → ℕ → List SeriesItem → Result (List Point) LineFault
points_from m place [] = Ok []
points_from m place (Gap gap ∷ items) = points_from m (place + gap) items
points_from m place (Stale ∷ items) = Err Malformed
points_from m place (Run first by more ∷ items) = joined (run_points m place more first by) (points_from m (place + more + 1) items)

abbrev pub points_of : Moments → List SeriesItem → Result (List Point) LineFault
points_of m items = points_from m 0 items

-- how many places an item takes, and items take
abbrev pub places_of : SeriesItem → ℕ
places_of (Gap gap) = gap
places_of Stale = 1
places_of (Run first by more) = more + 1

abbrev pub total_places : List SeriesItem → ℕ
total_places [] = 0
total_places (item ∷ items) = places_of item + total_places items

-- an item from a place on is within the grid
abbrev pub TakesPlaces : Moments → ℕ → SeriesItem → Type 0
TakesPlaces m place item = place + places_of item ≤ places m

-- points of an item were added, and others stand behind them from the next place on; or they are refused
abbrev pub AddsPoints : Moments → ℕ → SeriesItem → List Point → List Point → Result ℕ LineFault → Type 0
AddsPoints m place item before now (Ok next) =
    (rest : List SeriesItem) → in_front before (points_from m place (item ∷ rest)) ≡ in_front now (points_from m next rest)
AddsPoints m place item before now (Err fault) = (rest : List SeriesItem) → Fails fault (points_from m place (item ∷ rest))

-- items on the grid; that they are too many is told before their values are formed
abbrev pub range_points : Moments → List ℕ → Result (List Point) LineFault
range_points m behind = then_try (cells_spelled (places m) (words_behind behind)) (points_of m)

-- ---- a line beside the earlier ones

-- whether labels stand in a list
abbrev pub stands_in : List LabelList → LabelList → Bool
stands_in all labels = list_any (λ other. is_eq (labels_cmp other labels)) all

abbrev pub labels_in : List ResultSeries → List LabelList
labels_in rows = map (λ row. row.labels) rows

abbrev pub points_behind : Moments → List ℕ → Result (List Point) LineFault
points_behind m behind = if m.instant then instant_points m behind else range_points m behind

-- a series stands once
abbrev pub row_beside : Moments → List ResultSeries → Series → Result (List ResultSeries) LineFault
row_beside m rows series =
    if stands_in (labels_in rows) series.0 then Err Malformed
    else then_give (points_behind m series.1) (λ points. rows ++ record { labels = series.0; points = points } ∷ [])

abbrev pub rows_with : Moments → List ResultSeries → List ℕ → Result (List ResultSeries) LineFault
rows_with m rows text = then_try (series_at text) (row_beside m rows)

abbrev pub row_added : Moments → Expected → List ℕ → Result Expected LineFault
row_added m (Scalar value) text = Err Malformed
row_added m (Rows rows) text = then_give (rows_with m rows text) Rows

-- a scalar is the only line of an instant's result
abbrev pub scalar_added : Bool → Expected → List ℕ → Result Expected LineFault
scalar_added true (Rows []) text = then_give (number_alone (words_of text)) Scalar
scalar_added _ _ text = Err Malformed

-- a line of a result
abbrev pub line_added : Moments → Expected → List ℕ → Result Expected LineFault
line_added m result text = if begins_series text then row_added m result text else scalar_added m.instant result text

-- the rows whose labels are seen
abbrev pub rows_in : Expected → List ResultSeries
rows_in (Scalar value) = []
rows_in (Rows rows) = rows

abbrev pub AreSeen : (LabelList → Bool) → List ResultSeries → Type 0
AreSeen is_seen rows = (labels : LabelList) → is_seen labels ≡ stands_in (labels_in rows) labels

-- no result stands beside an expected failure
abbrev pub result_added : Moments → Expectations → List ℕ → Result Expectations LineFault
result_added m e text = if is_empty e.fail then then_give (line_added m e.result text) (λ result. record e { result = result }) else Err Malformed
