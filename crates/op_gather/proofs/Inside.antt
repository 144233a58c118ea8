-- Samples of windows that are lent lie in the window that is asked over.
use Rattle.std.proofs.Common.{◌≡◌, ◌∙◌, ℕ, zero, suc, ◌<◌, Bool, true, false, List, [], ◌∷◌, length, map, take, slice_get, refl, sym, subst, Some, None, arith}
use Rattle.std.specs.Prelude.{Option, IfSome, ℤ, ◌≤ℤ◌, ◌-ℤ◌, int_le, int_lt, not, ◌==◌}
use Rattle.std.specs.List.{All, AllByRecursion, AllZip, cons_option, list_all}
use Rattle.std.proofs.lemmas.Bool.{false≢true}
use Rattle.std.proofs.lemmas.Int.{ints}
use Rattle.step_batch.specs.LentWindows.{WindowsAt}
use Rattle.step_cells.specs.Joined.{window_under, windows_in}
use Rattle.step_table.specs.Groups.{Names}
use Rattle.step_table.specs.declared.cells.Cell.{Cell}
use Rattle.step_table.specs.declared.cells.Cell.TheVariants as cell
use Rattle.step_table.specs.declared.cells.CellRow.{CellRow}
use Rattle.step_table.specs.declared.cells.PartKind.{PartKind}
use Rattle.step_table.specs.declared.cells.PartKind.TheVariants.{Windows}
use Rattle.step_table.specs.declared.cells.StepCells.{StepCells}
use Rattle.step_table.specs.declared.windows.WindowRow.{WindowRow}
use Rattle.ticks.specs.Edges.{is_from}
use Rattle.ticks.specs.Walks.{moment_at}
use Rattle.ticks.specs.declared.moment.Ms.{Ms}
use Rattle.window_fn.specs.Windows.{IsInFrame}
use Rattle.remote_api.specs.Strays.{do_rise, has_kind, is_cell_of, is_distinct, is_empty, is_in_window}
use Rattle.remote_api.specs.declared.asks.Ask.{Ask}
use Rattle.op_gather.specs.Histories.{AreWell, QueueStands, steps_at}
use Rattle.op_gather.specs.Joined.{AreInside, frame_of}
use Rattle.op_gather.specs.Joins.{windows_joined, with_sets}
use Rattle.op_gather.specs.declared.queue.Queue.{Queue}
use Rattle.op_gather.proofs.LoneWindows.{HasRow, all_alone, sets_hold, windows_hold}
use Rattle.op_gather.proofs.Standing.{both_true}

-- ---- one window

from_edge : (closed : Bool) (edge t : ℤ) → is_from closed edge t ≡ true → edge ≤ℤ t
from_edge false edge t e = omega (arith, ints, e)
from_edge true edge t e = omega (arith, ints, e)

to_moment : (t moment : ℤ) → int_le t moment ≡ true → t ≤ℤ moment
to_moment t moment e = omega (arith, ints, e)

module _ (ask : Ask) (at : Ms) where
  abbrev lies_inside : Ms → Bool
  lies_inside = is_in_window ask.moment.closed (moment_at ask.moment at.0 -ℤ ask.range.0) (moment_at ask.moment at.0)

  abbrev pub IsRowInside : WindowRow → Type 0
  IsRowInside row = All (IsInFrame (frame_of ask at)) row.times

  time_inside : (t : Ms) → lies_inside t ≡ true → IsInFrame (frame_of ask at) t
  time_inside t e =
      let both = both_true (is_from ask.moment.closed (moment_at ask.moment at.0 -ℤ ask.range.0) t.0) (int_le t.0 (moment_at ask.moment at.0)) e in
      record { from_start = from_edge ask.moment.closed (moment_at ask.moment at.0 -ℤ ask.range.0) t.0 both.0; to_end = to_moment t.0 (moment_at ask.moment at.0) both.1 }

  times_inside : (times : List Ms) → list_all lies_inside times ≡ true → All (IsInFrame (frame_of ask at)) times
  times_inside [] e k d l = absurd (omega (arith, l))
  times_inside (t ∷ times) e zero d l = time_inside t (both_true (lies_inside t) (list_all lies_inside times) e).0
  times_inside (t ∷ times) e (suc k) d l = times_inside times (both_true (lies_inside t) (list_all lies_inside times) e).1 k d (omega (arith, l))

  window_inside : (labels : Names) (c : Cell) → is_cell_of Windows ask at c ≡ true → IfSome (window_under labels c) IsRowInside
  window_inside labels (cell.Value v) e = tt
  window_inside labels (cell.Sum s) e = tt
  window_inside labels (cell.Count n) e = tt
  window_inside labels (cell.Window times values) e =
      let a = both_true (length times == length values) _ e in
      let b = both_true (not (is_empty times)) _ a.1 in
      let d = both_true (do_rise times) _ b.1 in
      times_inside times d.1

  rows_inside : (rows : List CellRow) → list_all (λ (row : CellRow). is_cell_of Windows ask at row.cell) rows ≡ true → AllByRecursion (HasRow IsRowInside) rows
  rows_inside [] e = tt
  rows_inside (row ∷ rows) e =
      let both = both_true (is_cell_of Windows ask at row.cell) (list_all (λ (row : CellRow). is_cell_of Windows ask at row.cell) rows) e in
      (window_inside row.labels row.cell both.0, rows_inside rows both.1)

-- ---- the windows of all engines at an instant

module _ (t : Ms) where
  -- steps that stand at an instant
  abbrev pub StandAt : List StepCells → Type 0
  StandAt steps = AllByRecursion (λ (step : StepCells). step.at ≡ t) steps

  steps_inside : (ask : Ask) → ask.kind ≡ Windows → (steps : List StepCells) → AreWell ask steps → StandAt steps → AllByRecursion (λ (step : StepCells). AllByRecursion (HasRow (IsRowInside ask t)) step.rows) steps
  steps_inside ask e [] a s = tt
  steps_inside ask e (step ∷ steps) a s =
      let both = both_true (list_all (λ (row : CellRow). has_kind ask step.at row.cell) step.rows) (is_distinct step.rows) a.0 in
      let own = subst (λ (k : PartKind). list_all (λ (row : CellRow). is_cell_of k ask step.at row.cell) step.rows ≡ true) e both.0 in
      (rows_inside ask t step.rows (subst (λ (u : Ms). list_all (λ (row : CellRow). is_cell_of Windows ask u row.cell) step.rows ≡ true) s.0 own), steps_inside ask e steps a.1 s.1)

  pub lent_inside : (ask : Ask) (steps : List StepCells) (windows : WindowsAt) → ask.kind ≡ Windows → AreWell ask steps → StandAt steps → windows ≡ windows_joined t steps → AreInside ask windows
  lent_inside ask steps windows kind well s e =
      let held = sets_hold (IsRowInside ask t) steps (steps_inside ask kind steps well s) in
      subst (AreInside ask) (sym e) (all_alone (windows_in (map with_sets steps)) (IsRowInside ask t) (windows_hold (IsRowInside ask t) (map with_sets steps) held))

  -- ---- the steps that are taken stand at the next instant

  stands_at : (steps : List StepCells) (times : List Ms) (k : ℕ) → map (λ (step : StepCells). step.at) steps ≡ take (length steps) times → slice_get times k ≡ Some t → IfSome (slice_get steps k) (λ (step : StepCells). step.at ≡ t)
  stands_at [] times k e h = tt
  stands_at (step ∷ steps) [] k e h = absurd (cc)
  stands_at (step ∷ steps) (u ∷ times) zero e h =
      let one : step.at ≡ u = cc in
      let two : u ≡ t = cc in
      one ∙ two
  stands_at (step ∷ steps) (u ∷ times) (suc k) e h = let rest : map (λ (step : StepCells). step.at) steps ≡ take (length steps) times = cc in stands_at steps times k rest h

  one_more : (o : Option StepCells) (steps : List StepCells) → IfSome o (λ (step : StepCells). step.at ≡ t) → StandAt steps → StandAt (cons_option o steps)
  one_more None steps h a = a
  one_more (Some step) steps h a = (h, a)

  pub taken_stand : (all : List Ms) (taken : ℕ) → slice_get all taken ≡ Some t → (dones : List (List StepCells)) (qs : List Queue) → AllZip (QueueStands all taken) dones qs → StandAt (steps_at taken dones)
  taken_stand all taken h [] qs a = tt
  taken_stand all taken h (done ∷ dones) [] a = absurd a
  taken_stand all taken h (done ∷ dones) (q ∷ qs) a = one_more (slice_get done taken) (steps_at taken dones) (stands_at done all taken a.0.times h) (taken_stand all taken h dones qs a.1)
