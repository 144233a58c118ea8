-- Functions of windows. (Prometheus querying, "Functions": those over range vectors. The text of the note is this project's own.)
use Rattle.std.specs.Prelude.{ℕ, Bool, true, false, ◌==◌, List, [], ◌∷◌, map, codes, ◌&&◌, ℤ, Option, None, Some, Result, Ok, if◌then◌else◌}
use Rattle.std.specs.List.{ends_with, filter_map, list_any}
use Rattle.func_table.specs.declared.table.Window.{Window}
use Rattle.func_table.specs.declared.table.Window.TheVariants.{Rate, Increase, LastOver, QuantileOver}
use Rattle.label_set.specs.Labels.{metric_name, value_of}
use Rattle.window_fn.specs.Windows.{over_of}
use Rattle.window_fn.specs.declared.frame.WindowFrame.{WindowFrame}
use Rattle.xfrac.specs.declared.value.NumFault.{NumFault}
use Rattle.xfrac.specs.declared.value.XFrac.{XFrac}
use Rattle.step_table.specs.Groups.{Names}
use Rattle.step_table.specs.Outcomes.{taken, settled}
use Rattle.step_table.specs.declared.marks.Note.{Note}
use Rattle.step_table.specs.declared.marks.Note.TheVariants.{NotCounter}
use Rattle.step_table.specs.declared.outcomes.Outcome.{Outcome}
use Rattle.step_table.specs.declared.step.Step.{Step}
use Rattle.step_table.specs.declared.windows.WindowRow.{WindowRow}
use Rattle.ticks.specs.declared.moment.Ms.{Ms}
use Rattle.promql_meaning.specs.declared.given.Windows.{Windows}
use Rattle.promql_meaning.specs.Elements.{nameless}
use Rattle.promql_meaning.specs.Outcomes.{range_notes_of, with_notes}

-- all functions of windows but last_over_time drop the metric's name
abbrev pub window_labels : Window → Names → Names
window_labels LastOver names = names
window_labels _ names = nameless names

-- the window that a function is asked over
abbrev pub frame_of : ℤ → Windows → WindowFrame
frame_of t windows = record { eval = record { 0 = t }; moment = windows.moment; range = windows.range }

-- what a function gives of the times and values of a window; of none it gives no row
abbrev pub window_value : Window → WindowFrame → XFrac → List Ms → List XFrac → Result (Option XFrac) NumFault
window_value f frame arg times [] = Ok None
window_value f frame arg times (value ∷ values) = over_of f times (value ∷ values) frame arg

abbrev pub window_outcome : Window → ℤ → XFrac → Windows → WindowRow → Outcome
window_outcome f t arg windows row =
    record { labels = window_labels f row.labels; value = window_value f (frame_of t windows) arg row.times row.values }

-- ---- notes

-- the endings of the names of counters
abbrev pub counter_endings : List (List ℕ)
counter_endings = codes "_total" ∷ codes "_sum" ∷ codes "_count" ∷ codes "_bucket" ∷ []

abbrev pub is_counter_name : List ℕ → Bool
is_counter_name name = list_any (λ (ending : List ℕ). ends_with (λ (a b : ℕ). a == b) name ending) counter_endings

-- a name that isn't empty and isn't that of a counter
abbrev pub name_note : List ℕ → Option Note
name_note [] = None
name_note (b ∷ name) = if is_counter_name (b ∷ name) then None else Some (NotCounter (b ∷ name))

-- the functions that are asked of counters alone, with a note where they give a row
abbrev pub asks_counters : Window → Bool
asks_counters Rate = true
asks_counters Increase = true
asks_counters _ = false

abbrev pub has_value : Result (Option XFrac) NumFault → Bool
has_value (Ok (Some value)) = true
has_value _ = false

-- where rate or increase gives a row, the note of the series' name
abbrev pub counter_note : Window → ℤ → XFrac → Windows → WindowRow → Option Note
counter_note f t arg windows row =
    if asks_counters f && has_value (window_value f (frame_of t windows) arg row.times row.values) then name_note (value_of row.labels metric_name) else None

-- a quantile outside 0 to 1 has a note, where a window is there
abbrev pub window_notes : Window → ℤ → XFrac → Windows → List Note
window_notes QuantileOver t arg windows = range_notes_of arg windows.rows
window_notes f t arg windows = filter_map (counter_note f t arg windows) windows.rows

-- a function of each window at an instant; `arg` is what predict_linear and quantile_over_time take
abbrev pub windowed : Window → ℤ → XFrac → Windows → Step
windowed f t arg windows =
    settled (taken (with_notes windows.marks (window_notes f t arg windows)) (map (window_outcome f t arg windows) windows.rows))
