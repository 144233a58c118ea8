-- What users of a gather rely on. (This project's own.)
use Rattle.std.specs.Prelude.{◌≡◌, ℕ, List, [], ◌∷◌, Some, true, false, slice_get}
use Rattle.std.specs.List.{list_any}
use Rattle.promql_meaning.specs.Givens.{no_marks}
use Rattle.step_batch.specs.Lent.{Lent, stages}
use Rattle.step_batch.specs.LentWindows.{WindowsAt}
use Rattle.step_table.specs.Sets.{step_of_rows}
use Rattle.step_table.specs.declared.cells.PartKind.{PartKind}
use Rattle.step_table.specs.declared.cells.PartKind.TheVariants as part
use Rattle.step_table.specs.declared.cells.StepCells.{StepCells}
use Rattle.ticks.specs.declared.moment.Ms.{Ms}
use Rattle.op_gather.specs.Histories.{Gathering, Stands, is_ready, steps_at}
use Rattle.op_gather.specs.Joined.{LendsJoined}
use Rattle.op_gather.specs.Queues.{has_room}

-- while an instant is left whose step isn't kept of each engine, some engine has room
abbrev pub RoomIsLeft : Type 0
RoomIsLeft =
    (g : Gathering) (all : List Ms) (dones : List (List StepCells)) (taken : ℕ) (t : Ms)
    → Stands g all dones taken → g.next ≡ Some t → is_ready g ≡ false → list_any has_room g.queues ≡ true

-- nothing is lent at an instant: no row or window, no mark and no note
abbrev pub LendsNothing : PartKind → Ms → Lent → WindowsAt → Type 0
LendsNothing part.Rows t lent windows = stages lent ≡ record { at = t; step = step_of_rows [] no_marks } ∷ []
LendsNothing part.Windows t lent windows = windows ≡ record { at = t; rows = []; marks = no_marks }
LendsNothing (part.Partial f by) t lent windows = stages lent ≡ record { at = t; step = step_of_rows [] no_marks } ∷ []

-- where no engine is asked, each instant that is left is ready, and what is joined there is nothing
abbrev pub NoEngineGivesNothing : Type 0
NoEngineGivesNothing =
    (g : Gathering) (all : List Ms) (taken : ℕ) (t : Ms) → Stands g all [] taken → slice_get all taken ≡ Some t
    → (is_ready g ≡ true) × ((lent : Lent) (windows : WindowsAt) → LendsJoined g.ask.kind t (steps_at taken []) lent windows → LendsNothing g.ask.kind t lent windows)
