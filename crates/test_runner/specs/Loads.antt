-- The samples that the commands of a script put into the store, or into the engines that have declared labels, and the
-- first refusal of its loads. (The promqltest format; the engines, the limits and the order of the refusals are this
-- project's own.)
--
-- Commands are judged in order, their lines in order, and the items of a line from left to right. Where engines are
-- declared, a line is refused whose series is that of none of them. A sample is refused for its value or its time, for
-- another value at its time, for a series too many and for a sample too many, in this order.
use Rattle.std.specs.Prelude.{◌≡◌, slice_get, ℕ, zero, suc, ◌+◌, ◌^◌, Bool, true, if◌then◌else◌, List, [], ◌∷◌, nat_lt, Option, None, Some, is_some, position, Result, Ok, Err, ℤ, pos, ◌*ℤ◌, unsigned_abs, replicate}
use Rattle.std.specs.List.{flat_map}
use Rattle.parting_laws.specs.Parted.{has_declared}
use Rattle.sample_store.specs.Samples.{AllSeries, held_in, refusal_of, samples_of, with_sample}
use Rattle.sample_store.specs.declared.refusal.StoreRefusal.{StoreRefusal}
use Rattle.sample_store.specs.declared.refusal.StoreRefusal.TheVariants.{Conflict as Differing, TooManySeries as SeriesFull}
use Rattle.ticks.specs.declared.moment.Ms.{Ms}
use Rattle.xfrac.specs.Arithmetic.{arithmetic}
use Rattle.xfrac.specs.declared.value.ArithOp.TheVariants.{Add}
use Rattle.xfrac.specs.declared.value.NumFault.{NumFault}
use Rattle.xfrac.specs.declared.value.Held.{Held}
use Rattle.xfrac.specs.declared.value.Held.TheVariants.{Value, Stale as Marker}
use Rattle.xfrac.specs.declared.value.XFrac.{XFrac}
use Rattle.script_read.specs.Outcomes.{then_try}
use Rattle.script_read.specs.Series.{LabelList}
use Rattle.script_read.specs.declared.script.Command.{Command}
use Rattle.script_read.specs.declared.script.Script.{Script}
use Rattle.test_runner.specs.declared.fault.LoadRefusal.{LoadRefusal}
use Rattle.test_runner.specs.declared.fault.LoadRefusal.TheVariants.{Conflict, TooManySamples, TooManySeries, Unplaced}
use Rattle.test_runner.specs.declared.fault.RunnerFault.{RunnerFault}
use Rattle.test_runner.specs.declared.fault.RunnerFault.TheVariants.{Range, Refused}
use Rattle.script_read.specs.declared.script.SeriesItem.{SeriesItem}
use Rattle.script_read.specs.declared.script.SeriesItem.TheVariants.{Gap, Stale, Run}
use Rattle.script_read.specs.declared.script.SeriesLine.{SeriesLine}
use Rattle.script_read.specs.declared.script.What.{What}
use Rattle.script_read.specs.declared.script.What.TheVariants.{Clear, Load, Eval}

-- what stands at a place of a series: nothing, a sample, or a value outside the limits
pub data Slot : Type 0 where
  Empty : Slot
  Filled : Held → Slot
  Outside : Slot

-- the slots behind a value of a run: those from the next value on, or none behind one outside the limits
abbrev pub slots_from : (XFrac → List Slot) → Result XFrac NumFault → List Slot
slots_from later (Err fault) = Outside ∷ []
slots_from later (Ok next) = later next

-- a value, and so many more, each the step more than the one before it
abbrev pub run_slots : ℕ → XFrac → XFrac → List Slot
run_slots zero value by = Filled (Value value) ∷ []
run_slots (suc more) value by = Filled (Value value) ∷ slots_from (λ next. run_slots more next by) (arithmetic Add value by)

-- the slots of an item, and of the items of a line
abbrev pub slots_of : SeriesItem → List Slot
slots_of (Gap places) = replicate places Empty
slots_of Stale = Filled Marker ∷ []
slots_of (Run first by more) = run_slots more first by

abbrev pub line_slots : List SeriesItem → List Slot
line_slots items = flat_map slots_of items

-- no sample's time is further from 0 than 10^14 milliseconds
abbrev pub is_beyond : ℤ → Bool
is_beyond at = nat_lt (10 ^ 14) (unsigned_abs at)

-- why a line is refused, where the store refuses a sample
abbrev pub refused_for : ℕ → StoreRefusal → LoadRefusal
refused_for line (Differing kept given) = Conflict line kept given
refused_for line SeriesFull = TooManySeries line
refused_for line _ = TooManySamples line

abbrev pub unless_refused : ℕ → Option StoreRefusal → AllSeries → Result AllSeries RunnerFault
unless_refused line None series = Ok series
unless_refused line (Some refusal) series = Err (Refused (refused_for line refusal))

-- the store with the sample of a slot
abbrev pub sample_put : ℕ → LabelList → Ms → Held → AllSeries → Result AllSeries RunnerFault
sample_put line labels at held series = unless_refused line (refusal_of series labels at held) (with_sample series labels at held)

abbrev pub slot_put : ℕ → LabelList → ℤ → Slot → AllSeries → Result AllSeries RunnerFault
slot_put line labels at Empty series = Ok series
slot_put line labels at (Filled held) series = if is_beyond at then Err (Range line) else sample_put line labels (record { 0 = at }) held series
slot_put line labels at Outside series = Err (Range line)

-- the store with the samples of slots from a place on: place i stands at i times the interval
abbrev pub slots_put : ℕ → LabelList → Ms → ℕ → List Slot → AllSeries → Result AllSeries RunnerFault
slots_put line labels interval place [] series = Ok series
slots_put line labels interval place (slot ∷ slots) series =
    then_try (slot_put line labels (pos place *ℤ interval.0) slot series) (slots_put line labels interval (place + 1) slots)

-- the first of some declared labels that a series has, counted from 0
abbrev pub engine_of : List LabelList → LabelList → Option ℕ
engine_of declared labels = position (λ (names : LabelList). has_declared names labels) declared

-- whether a series has its place: in the store, where no engine is declared, or at one of the engines
abbrev pub is_placed : List LabelList → LabelList → Bool
is_placed [] labels = true
is_placed (names ∷ declared) labels = is_some (engine_of (names ∷ declared) labels)

-- the store with the samples of a line
abbrev pub items_put : Ms → SeriesLine → AllSeries → Result AllSeries RunnerFault
items_put interval line series = slots_put line.line line.labels interval 0 (line_slots line.items) series

-- the same, unless the line's series has no place
abbrev pub line_put : List LabelList → Ms → SeriesLine → AllSeries → Result AllSeries RunnerFault
line_put declared interval line series =
    if is_placed declared line.labels then items_put interval line series else Err (Refused (Unplaced line.line))

-- the store with the samples of the lines of a load
abbrev pub lines_put : List LabelList → Ms → List SeriesLine → AllSeries → Result AllSeries RunnerFault
lines_put declared interval [] series = Ok series
lines_put declared interval (line ∷ lines) series = then_try (line_put declared interval line series) (lines_put declared interval lines)

-- a sample stands in the store
abbrev pub Stands : AllSeries → LabelList → Ms → Held → Type 0
Stands series labels at held = held_in (samples_of series labels) at ≡ Some held

-- a line says that a sample stands at a time: at one of its places, which has that time
pub record IsSaid (interval : Ms) (line : SeriesLine) (labels : LabelList) (at : Ms) (held : Held) : Type 0 where
  pub labels_are : labels ≡ line.labels
  pub place : ℕ
  pub filled : slice_get (line_slots line.items) place ≡ Some (Filled held)
  pub time : at.0 ≡ pos place *ℤ interval.0

-- what a command leaves in the store
abbrev pub left_by : List LabelList → What → AllSeries → Result AllSeries RunnerFault
left_by declared Clear series = Ok []
left_by declared (Load interval lines) series = lines_put declared interval lines series
left_by declared (Eval grid instant text expected) series = Ok series

abbrev pub left_by_all : List LabelList → List Command → AllSeries → Result AllSeries RunnerFault
left_by_all declared [] series = Ok series
left_by_all declared (command ∷ commands) series = then_try (left_by declared command.what series) (left_by_all declared commands)

-- the samples that the loads of a script leave, none standing as it begins, or why they are refused, where engines have declared
-- these labels: nothing else than `Range` and `Refused` comes
abbrev pub samples_left : List LabelList → Script → Result AllSeries RunnerFault
samples_left declared script = left_by_all declared script.commands []
