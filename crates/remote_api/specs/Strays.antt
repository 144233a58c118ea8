-- What makes a delivery a stray. (This project's own.)
use Rattle.std.specs.Prelude.{◌≡◌, ◌==◌, ◌&&◌, ◌^◌, ◌-ℤ◌, ℤ, Bool, true, false, not, nat_lt, int_lt, int_le, List, [], ◌∷◌, length, map, Option, None, Some, Result, Ok, Err, if◌then◌else◌, ⊤}
use Rattle.std.specs.List.{list_all}
use Rattle.std.specs.Ordering.{int_eq}
use Rattle.func_table.specs.declared.table.Aggregate.{Aggregate}
use Rattle.func_table.specs.declared.table.Aggregate.TheVariants.{Sum, Avg, Min, Max, Count, Group}
use Rattle.step_table.specs.Groups.{Names, shared_names}
use Rattle.step_table.specs.declared.cells.Cell.{Cell}
use Rattle.step_table.specs.declared.cells.Cell.TheVariants as cell
use Rattle.step_table.specs.declared.cells.CellRow.{CellRow}
use Rattle.step_table.specs.declared.cells.PartKind.{PartKind}
use Rattle.step_table.specs.declared.cells.PartKind.TheVariants as part
use Rattle.step_table.specs.declared.cells.StepCells.{StepCells}
use Rattle.ticks.specs.Edges.{is_from}
use Rattle.ticks.specs.Walks.{HasTimes, IsInstant, LeadsToTimes, moment_at}
use Rattle.ticks.specs.declared.moment.Ms.{Ms}
use Rattle.ticks.specs.declared.walk.WalkMoment.{WalkMoment}
use Rattle.xfrac.specs.declared.value.XFrac.{XFrac}
use Rattle.remote_api.specs.declared.asks.Ask.{Ask}
use Rattle.remote_api.specs.declared.checking.CheckFault.{CheckFault}
use Rattle.remote_api.specs.declared.checking.CheckFault.TheVariants as fault
use Rattle.remote_api.specs.declared.frame.Stray.{Stray}
use Rattle.remote_api.specs.declared.frame.Stray.TheVariants.{OutOfStep, WrongCell}

-- ---- what an ask leads to

-- the moment of an instant, and the window that ends there, lie within the times
abbrev pub HasWindow : Ask → Ms → Type 0
HasWindow ask at = HasTimes (moment_at ask.moment at.0) ask.range.0

-- its walk leads to times, and where windows are asked so do its windows
pub record AsksInTimes (ask : Ask) : Type 0 where
  pub walk : LeadsToTimes ask.walk
  pub windows : ask.kind ≡ part.Windows → (at : Ms) → IsInstant ask.walk at.0 → HasWindow ask at

-- ---- cells of a kind

-- a time is earlier than the first of others, and each of these earlier than the next one
abbrev pub rise_from : Ms → List Ms → Bool
rise_from t [] = true
rise_from t (u ∷ times) = int_lt t.0 u.0 && rise_from u times

abbrev pub do_rise : List Ms → Bool
do_rise [] = true
do_rise (t ∷ times) = rise_from t times

-- a time in the window that ends at a moment
abbrev pub is_in_window : Bool → ℤ → ℤ → Ms → Bool
is_in_window closed edge moment t = is_from closed edge t.0 && int_le t.0 moment

abbrev pub is_empty : {T : Type 0} → List T → Bool
is_empty [] = true
is_empty (x ∷ xs) = false

-- a window at an instant: as many values as times, at least one, whose times rise within the window that ends at the moment
abbrev pub is_window : WalkMoment → Ms → Ms → List Ms → List XFrac → Bool
is_window moment range at times values =
    length times == length values
    && (not (is_empty times)
    && (do_rise times
    && list_all (is_in_window moment.closed (moment_at moment at.0 -ℤ range.0) (moment_at moment at.0)) times))

abbrev pub is_window_cell : Ask → Ms → Cell → Bool
is_window_cell ask at (cell.Window times values) = is_window ask.moment ask.range at times values
is_window_cell ask at c = false

abbrev pub is_value_cell : Cell → Bool
is_value_cell (cell.Value value) = true
is_value_cell c = false

-- a sum of one value at least, and of fewer than 2^63
abbrev pub is_sum_cell : Cell → Bool
is_sum_cell (cell.Sum sum) = nat_lt 0 sum.count && nat_lt sum.count (2 ^ 63)
is_sum_cell c = false

abbrev pub is_count_cell : Cell → Bool
is_count_cell (cell.Count n) = true
is_count_cell c = false

-- a cell of the groups of an aggregation that engines are asked for
abbrev pub is_group_cell : Aggregate → Cell → Bool
is_group_cell Sum c = is_sum_cell c
is_group_cell Avg c = is_sum_cell c
is_group_cell Min c = is_value_cell c
is_group_cell Max c = is_value_cell c
is_group_cell Count c = is_count_cell c
is_group_cell Group c = is_count_cell c
is_group_cell f c = false

abbrev pub is_cell_of : PartKind → Ask → Ms → Cell → Bool
is_cell_of part.Rows ask at c = is_value_cell c
is_cell_of part.Windows ask at c = is_window_cell ask at c
is_cell_of (part.Partial f by) ask at c = is_group_cell f c

-- a cell at an instant is of the kind that is asked
abbrev pub has_kind : Ask → Ms → Cell → Bool
has_kind ask at c = is_cell_of ask.kind ask at c

-- ---- steps

-- the labels of rows, each beside nothing
abbrev pub named : List CellRow → List (Names × Bool)
named rows = map (λ (row : CellRow). (row.labels, true)) rows

-- no labels stand twice
abbrev pub is_distinct : List CellRow → Bool
is_distinct rows = is_empty (shared_names (named rows))

-- all cells are of the kind that is asked, under labels of their own
abbrev pub is_well : Ask → StepCells → Bool
is_well ask step = list_all (λ (row : CellRow). has_kind ask step.at row.cell) step.rows && is_distinct step.rows

-- the first step that isn't
abbrev pub wrong_cell : Ask → List StepCells → Option Stray
wrong_cell ask [] = None
wrong_cell ask (step ∷ steps) = if is_well ask step then wrong_cell ask steps else Some (WrongCell step.at)

-- the first step that doesn't stand at the instant that is to come
abbrev pub out_of_step : List Ms → List StepCells → Option Stray
out_of_step times [] = None
out_of_step [] (step ∷ steps) = Some (OutOfStep None (Some step.at))
out_of_step (t ∷ times) (step ∷ steps) = if int_eq t.0 step.at.0 then out_of_step times steps else Some (OutOfStep (Some t) (Some step.at))

abbrev pub first_of : List Ms → Option Ms
first_of [] = None
first_of (t ∷ times) = Some t

abbrev pub or_wrong_cell : Ask → List StepCells → Option Stray → Option Stray
or_wrong_cell ask steps (Some stray) = Some stray
or_wrong_cell ask steps None = wrong_cell ask steps

-- why steps are a stray where these instants are to come: there is no step, or one isn't at the instant that is to come; or else one
-- has a cell of another kind, or labels that stand twice
abbrev pub stray_of : Ask → List Ms → List StepCells → Option Stray
stray_of ask times [] = Some (OutOfStep (first_of times) None)
stray_of ask times (step ∷ steps) = or_wrong_cell ask (step ∷ steps) (out_of_step times (step ∷ steps))

-- why the end of what an engine gives is a stray: an instant is still to come
abbrev pub early_end : List Ms → Option Stray
early_end [] = None
early_end (t ∷ times) = Some (OutOfStep (Some t) None)

-- a check answers the stray that there is, or that there is none; want of memory may stand in place of either
abbrev pub Answers : {T : Type 0} → Option Stray → Result T CheckFault → Type 0
Answers stray (Err fault.Memory) = ⊤
Answers None (Ok x) = ⊤
Answers (Some stray) (Err (fault.Strayed found)) = found ≡ stray
Answers _ _ = ⊥

-- the instant behind steps that follow what is to come, or the stray that they are
abbrev pub followed_as : Option Stray → Option Ms → Result (Option Ms) Stray
followed_as (Some stray) behind = Err stray
followed_as None behind = Ok behind
