-- What the calls on a gather have come to: the steps that each engine has delivered, and how many were taken. (This project's own.)
use Rattle.std.specs.Prelude.{◌≡◌, ◌<◌, ◌^◌, ℕ, ◌≤◌, ◌&&◌, Bool, true, List, map, take, drop, length, is_some, slice_get, Option, None, Some, Result, Ok, Err, IfSome, ⊤}
use Rattle.std.specs.List.{AllByRecursion, AllZip, filter_map, list_all}
use Rattle.step_batch.specs.Lent.{Lent}
use Rattle.step_batch.specs.LentWindows.{WindowsAt}
use Rattle.step_table.specs.declared.cells.StepCells.{StepCells}
use Rattle.ticks.specs.Listed.{IsListed}
use Rattle.ticks.specs.Walks.{IsInstant}
use Rattle.ticks.specs.declared.moment.Ms.{Ms}
use Rattle.remote_api.specs.Strays.{AsksInTimes, is_well}
use Rattle.remote_api.specs.declared.asks.Ask.{Ask}
use Rattle.remote_api.specs.declared.checking.CheckFault.{CheckFault}
use Rattle.remote_api.specs.declared.checking.CheckFault.TheVariants as fault
use Rattle.remote_api.specs.declared.frame.Stray.{Stray}
use Rattle.remote_api.specs.declared.frame.Stray.TheVariants as stray
use Rattle.op_gather.specs.declared.gather.GatherRefusal.{GatherRefusal}
use Rattle.op_gather.specs.declared.gather.GatherRefusal.TheVariants.{OutOfStep, WrongCell, Memory}
use Rattle.op_gather.specs.declared.queue.Queue.{Queue}
use Rattle.op_gather.specs.Queues.{head_of, steps_in}

-- what is asked of the engines; the instant whose step is taken next, if one is left; what is kept of each engine; the step and the
-- windows that are lent; and whether an error has spent it
pub record Gathering : Type 0 where
  pub ask : Ask
  pub next : Option Ms
  pub queues : List Queue
  pub lent : Lent
  pub windows : WindowsAt
  pub spent : Bool

-- ---- what is always true

-- all cells of steps are of the kind that is asked, and no labels stand twice in one
abbrev pub AreWell : Ask → List StepCells → Type 0
AreWell ask steps = AllByRecursion (λ (step : StepCells). is_well ask step ≡ true) steps

-- what is kept of an engine is what was asked, and its next step stands at an instant of the walk
pub record IsQueueOf (ask : Ask) (q : Queue) : Type 0 where
  pub coming : IfSome q.next (λ (t : Ms). IsInstant ask.walk t.0)
  pub well : AllByRecursion (AreWell ask) q.frames

-- what is asked lies within the times, fewer than 2^32 engines are asked, and of each only what was asked is kept
pub record IsSound (ask : Ask) (queues : List Queue) : Type 0 where
  pub times : AsksInTimes ask
  pub few : length queues < 2 ^ 32
  pub each : AllByRecursion (IsQueueOf ask) queues

-- ---- histories

abbrev pub IsFilled : List StepCells → Type 0
IsFilled frame = 1 ≤ length frame

-- what is kept of an engine that has delivered some steps, where so many were taken of each engine: the others, in at most four frames,
-- none of which is empty. They stand at the first instants of the walk, the next one is that behind them, and an engine has ended only
-- behind the last one.
pub record QueueStands (all : List Ms) (taken : ℕ) (done : List StepCells) (q : Queue) : Type 0 where
  pub kept : steps_in q.frames ≡ drop taken done
  pub filled : AllByRecursion IsFilled q.frames
  pub few : length q.frames ≤ 4
  pub coming : q.next ≡ slice_get all (length done)
  pub times : map (λ (step : StepCells). step.at) done ≡ take (length done) all
  pub behind : taken ≤ length done
  pub ended : q.ended ≡ true → q.next ≡ None

-- each engine has delivered some steps of a walk with these instants, and so many were taken of each
pub record Stands (g : Gathering) (all : List Ms) (dones : List (List StepCells)) (taken : ℕ) : Type 0 where
  pub listed : IsListed g.ask.walk all
  pub next : g.next ≡ slice_get all taken
  pub queues : AllZip (QueueStands all taken) dones g.queues

-- the steps of all engines at a place, counted from 0
abbrev pub steps_at : ℕ → List (List StepCells) → List StepCells
steps_at k dones = filter_map (λ (done : List StepCells). slice_get done k) dones

-- an instant of the walk is left, and each engine's next step is kept
abbrev pub is_ready : Gathering → Bool
is_ready g = is_some g.next && list_all (λ (q : Queue). is_some (head_of q)) g.queues

-- ---- refusals

abbrev pub refusal_of : Stray → GatherRefusal
refusal_of (stray.OutOfStep expected got) = OutOfStep expected got
refusal_of (stray.WrongCell at) = WrongCell at

abbrev pub refusal_of_fault : CheckFault → GatherRefusal
refusal_of_fault (fault.Strayed one) = refusal_of one
refusal_of_fault fault.Memory = Memory

-- a delivery is refused as the stray that it is, and taken where it is none; want of memory may stand in place of either
abbrev pub Refuses : Option Stray → Result ⊤ GatherRefusal → Type 0
Refuses found (Err Memory) = ⊤
Refuses None (Ok x) = ⊤
Refuses (Some one) (Err refusal) = refusal ≡ refusal_of one
Refuses _ _ = ⊥
