-- Engines that a script is run over, and what becomes of their boxes. (This project's own.)
use Rattle.std.specs.Prelude.{◌≡◌, ◌≤◌, ◌<◌, ◌^◌, ◌++◌, ℕ, Bool, true, List, [], Option, None, Some, Result, Ok, Err, IfSome, IsOk, is_some, length, remove, slice_get, take, ⊤}
use Rattle.std.specs.Option.{option_map}
use Rattle.edge_io.specs.Written.{appended}
use Rattle.exchange.specs.Calls.{Each}
use Rattle.exchange.specs.Standing.{Tells}
use Rattle.exchange.specs.declared.fault.RunFault.{RunFault}
use Rattle.exchange.specs.declared.fault.RunFault.TheVariants as run
use Rattle.parting_laws.specs.Parted.{MayBeDeclared}
use Rattle.query_engine.specs.Engines.{FaultedLast, moved_last, named_by}
use Rattle.remote_api.specs.Seen.{EngineSeen, Holding}
use Rattle.sample_store.specs.Samples.{AllSeries}
use Rattle.script_check.specs.Verdicts.{PatternList}
use Rattle.script_read.specs.Series.{LabelList}
use Rattle.script_read.specs.declared.script.Command.{Command}
use Rattle.script_read.specs.declared.script.Script.{Script}
use Rattle.test_runner.specs.Lines.{lines_text}
use Rattle.test_runner.specs.Parts.{AreDeclaredTo, HoldParts}
use Rattle.test_runner.specs.Verdicts.{AreVerdicts, Judged}
use Rattle.test_runner.specs.declared.fault.RunnerFault.{RunnerFault}
use Rattle.test_runner.specs.declared.fault.RunnerFault.TheVariants.{Memory, Range, Refused, Run, Write}

-- ---- engines that are handed in

-- each of the first so many engines tells what it holds
abbrev pub AllTell : ℕ → List EngineSeen → Type 0
AllTell n es = (i : ℕ) (e : EngineSeen) → slice_get (take n es) i ≡ Some e → Tells e

-- each of some engines is sound
abbrev pub AreSound : List EngineSeen → Type 0
AreSound es = (i : ℕ) (e : EngineSeen) → slice_get es i ≡ Some e → e.sound ≡ true

-- Labels are declared to the first boxes: they may be, there are as many boxes, and the k-th box, where it tells what it holds, has the k-th
-- labels.
pub record AreReady (declared : List LabelList) (es : List EngineSeen) : Type 0 where
  pub boxes : length declared ≤ length es
  pub few : length es < 2 ^ 32
  pub sets : 0 < length declared → MayBeDeclared declared
  pub theirs : AreDeclaredTo declared es

-- ---- what becomes of them

-- whether an engine tells what it holds hasn't changed, nor what is declared to it; its faults haven't fallen, and it is sound if it was
pub record Serves (e f : EngineSeen) : Type 0 where
  pub tells : is_some f.holding ≡ is_some e.holding
  pub declared : option_map (λ (h : Holding). h.declared) f.holding ≡ option_map (λ (h : Holding). h.declared) e.holding
  pub faults : e.faults ≤ f.faults
  pub sound : e.sound ≡ true → f.sound ≡ true

-- an engine was lost: its labels went, and its box stands behind all others, which stay in their order
pub record LosesServing (i : ℕ) (declared_before declared_now : List LabelList) (es fs : List EngineSeen) : Type 0 where
  pub one : i < length declared_before
  pub labels : declared_now ≡ remove declared_before i
  pub many : length fs ≡ length es
  pub boxes : Each Serves (moved_last i es) fs

-- none was lost: labels and boxes stand in their order
pub record KeepsServing (declared_before declared_now : List LabelList) (es fs : List EngineSeen) : Type 0 where
  pub labels : declared_now ≡ declared_before
  pub many : length fs ≡ length es
  pub boxes : Each Serves es fs

abbrev pub ServesBut : Option ℕ → (declared_before declared_now : List LabelList) → (es fs : List EngineSeen) → Type 0
ServesBut None before now es fs = KeepsServing before now es fs
ServesBut (Some i) before now es fs = LosesServing i before now es fs

-- the engine that a fault names
abbrev pub lost_by : RunnerFault → Option ℕ
lost_by (Run fault) = named_by fault
lost_by fault = None

-- the engine that an answer names was lost; where it names none, none was
abbrev pub LeavesServing : {T : Type 0} → Result T RunnerFault → (declared_before declared_now : List LabelList) → (es fs : List EngineSeen) → Type 0
LeavesServing (Ok x) before now es fs = KeepsServing before now es fs
LeavesServing (Err fault) before now es fs = ServesBut (lost_by fault) before now es fs

-- the engine that a fault names, whose box stands last now, has failed, or has strayed just so
abbrev pub FaultedBy : RunnerFault → (es fs : List EngineSeen) → Type 0
FaultedBy (Run run.Memory) es fs = ⊥
FaultedBy (Run fault) es fs = FaultedLast {T = ⊤} (Err fault) es fs
FaultedBy fault es fs = ⊤

-- a fault of an engine is answered only where the engine that it names, whose box stands last now, has failed, or has strayed just so;
-- want of memory is no such fault
abbrev pub RunFaulted : {T : Type 0} → Result T RunnerFault → (es fs : List EngineSeen) → Type 0
RunFaulted (Ok x) es fs = ⊤
RunFaulted (Err fault) es fs = FaultedBy fault es fs

-- what comes of a fault of engines: want of memory is no such fault
abbrev pub ran_into : RunFault → RunnerFault
ran_into run.Memory = Memory
ran_into fault = Run fault

-- a fault of an engine, or want of memory
abbrev pub IsOwnFault : RunnerFault → Type 0
IsOwnFault (Run fault) = ⊤
IsOwnFault Memory = ⊤
IsOwnFault fault = ⊥

-- a fault that isn't one of loads
abbrev pub IsNoLoadFault : RunnerFault → Type 0
IsNoLoadFault (Refused refusal) = ⊥
IsNoLoadFault (Range line) = ⊥
IsNoLoadFault fault = ⊤

-- a write that failed, or want of memory
abbrev pub IsCutFault : RunnerFault → Type 0
IsCutFault Write = ⊤
IsCutFault Memory = ⊤
IsCutFault fault = ⊥

-- where a fault is one of an engine
abbrev pub IfOfEngines : RunnerFault → Type 0 → Type 0
IfOfEngines (Run fault) Stopped = Stopped
IfOfEngines fault Stopped = Unit {0}

-- where a fault of an engine is answered
abbrev pub IfRun : {T : Type 0} → Result T RunnerFault → Type 0 → Type 0
IfRun (Ok x) Stopped = Unit {0}
IfRun (Err fault) Stopped = IfOfEngines fault Stopped

-- no fault of an engine is answered
abbrev pub IsNoRun : {T : Type 0} → Result T RunnerFault → Type 0
IsNoRun result = IfRun result ⊥

-- ---- what stands of a run

-- An engine stopped commands: the first of them have these verdicts, whose lines were written whole.
pub record StoodBy (closed : Bool) (declared : List LabelList) (kept : PatternList) (path : List ℕ) (commands : List Command) (before now : Option (List ℕ)) : Type 0 where
  pub done : List Command
  pub left : List Command
  pub parts : done ++ left ≡ commands
  pub verdicts : List Judged
  pub are : AreVerdicts closed declared kept [] done verdicts
  pub written : now ≡ appended before (lines_text path verdicts)

-- an engine stopped the run of a script
abbrev pub StoppedAt : Bool → PatternList → List ℕ → List LabelList → Script → Option (List ℕ) → Option (List ℕ) → Type 0
StoppedAt closed kept path declared script before now = StoodBy closed declared kept path script.commands before now

-- the engines that held some series hold now what is left of these
abbrev pub Carry : List LabelList → (es fs : List EngineSeen) → (AllSeries → Result AllSeries RunnerFault) → Type 0
Carry declared es fs put = (series : AllSeries) → HoldParts declared es series → IsOk (put series) → (now : AllSeries) × HoldParts declared fs now × (put series ≡ Ok now)
