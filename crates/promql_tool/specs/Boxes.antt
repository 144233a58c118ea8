-- Boxes of engines over a run, of which at most one is lost. (This project's own.)
use Rattle.std.specs.Prelude.{◌≡◌, ◌≤◌, ◌<◌, ◌⊎◌, ℕ, true, List, [], length, take, is_some, slice_get, Option, None, Some, Result, Ok, Err, IfSome, ⊤}
use Rattle.edge_io.specs.Written.{appended, WroteFront}
use Rattle.edge_io.specs.declared.sink.SinkFail.{SinkFail}
use Rattle.edge_io.specs.declared.sink.SinkFail.TheVariants as sinks
use Rattle.exchange.specs.Calls.{Each}
use Rattle.exchange.specs.Faults.{HasFailed, HasStrayed}
use Rattle.exchange.specs.declared.fault.RunFault.{RunFault}
use Rattle.exchange.specs.declared.fault.RunFault.TheVariants as run
use Rattle.query_engine.specs.Engines.{last_place, moved_last}
use Rattle.remote_api.specs.Seen.{EngineSeen, KeepsStrays}
use Rattle.remote_api.specs.declared.frame.Stray.{Stray}
use Rattle.remote_api.specs.declared.frame.Stray.TheVariants as stray
use Rattle.test_runner.specs.Boxes.{AreSound}
use Rattle.promql_tool.specs.Chosen.{declared_of}
use Rattle.promql_tool.specs.Ended.{EndWith}
use Rattle.promql_tool.specs.Texts.{lost_text}
use Rattle.promql_tool.specs.declared.fault.Cut.{Cut}
use Rattle.promql_tool.specs.declared.fault.Cut.TheVariants as cut
use Rattle.promql_tool.specs.declared.fault.Lost.{Lost}
use Rattle.promql_tool.specs.declared.print.Status.{Status}

-- ---- handed boxes

-- nothing was done to a box: it has no fault and no stray, and where it tells what it holds, no labels are declared to it and it is empty
pub record IsFresh (e : EngineSeen) : Type 0 where
  pub faults : e.faults ≡ 0
  pub strays : e.strays ≡ 0
  pub undeclared : IfSome e.holding (λ h. h.declared ≡ None)
  pub empty : IfSome e.holding (λ h. h.samples ≡ [])

-- nothing was done to any of some boxes
abbrev pub AreFresh : List EngineSeen → Type 0
AreFresh es = (i : ℕ) (e : EngineSeen) → slice_get es i ≡ Some e → IsFresh e

-- each box to which words declare labels is sound
abbrev pub DeclaredSound : ℕ → List (List ℕ) → List EngineSeen → Type 0
DeclaredSound boxes words es = AreSound (take (length (declared_of boxes words)) es)

-- ---- what becomes of them

-- whether a box tells what it holds hasn't changed, its faults haven't fallen, and it is sound if it was
pub record Lasts (e f : EngineSeen) : Type 0 where
  pub tells : is_some f.holding ≡ is_some e.holding
  pub faults : e.faults ≤ f.faults
  pub sound : e.sound ≡ true → f.sound ≡ true

-- all boxes stand in their order
pub record KeepsBoxes (es fs : List EngineSeen) : Type 0 where
  pub many : length fs ≡ length es
  pub boxes : Each Lasts es fs

-- all boxes stand in their order, and none has strayed
pub record KeepsCalm (es fs : List EngineSeen) : Type 0 where
  pub kept : KeepsBoxes es fs
  pub calm : Each KeepsStrays es fs

-- the box at the last place has failed, or has strayed, and this was the last time
abbrev pub IsToBlame : Option Stray → List EngineSeen → List EngineSeen → Type 0
IsToBlame None es fs = HasFailed (last_place es) es fs
IsToBlame (Some one) es fs = HasStrayed (last_place es) one es fs

-- a box was lost: it stands behind all others, which stay in their order, and it has failed, or strayed just so
pub record HasLost (lost : Lost) (es fs : List EngineSeen) : Type 0 where
  pub one : lost.engine < length es
  pub many : length fs ≡ length es
  pub boxes : Each Lasts (moved_last lost.engine es) fs
  pub blamed : IsToBlame lost.stray (moved_last lost.engine es) fs

-- some box was lost
abbrev pub HasLostOne : List EngineSeen → List EngineSeen → Type 0
HasLostOne es fs = (lost : Lost) × HasLost lost es fs

-- what cuts a run off leaves all boxes in their order, but one that was lost
abbrev pub LeavesBut : Cut → List EngineSeen → List EngineSeen → Type 0
LeavesBut cut.Write es fs = KeepsBoxes es fs
LeavesBut cut.Memory es fs = KeepsBoxes es fs
LeavesBut (cut.Lost lost) es fs = HasLost lost es fs

-- the box that an answer names was lost; where it names none, all stand in their order, and where it is no error, none has strayed
abbrev pub LeavesBoxes : {T : Type 0} → Result T Cut → List EngineSeen → List EngineSeen → Type 0
LeavesBoxes (Ok x) es fs = KeepsCalm es fs
LeavesBoxes (Err why) es fs = LeavesBut why es fs

-- ---- which one is lost

-- an engine that was lost
abbrev pub lost_with : ℕ → Option Stray → Cut
lost_with i last = cut.Lost (record { engine = i; stray = last })

-- what an engine's fault cuts off
abbrev pub cut_of : RunFault → Cut
cut_of (run.EngineFault i) = lost_with i None
cut_of (run.OutOfStep i expected got) = lost_with i (Some (stray.OutOfStep expected got))
cut_of (run.WrongCell i at) = lost_with i (Some (stray.WrongCell at))
cut_of run.Memory = cut.Memory

-- what a write cuts off
abbrev pub cut_by : SinkFail → Cut
cut_by sinks.Failed = cut.Write
cut_by sinks.Memory = cut.Memory

-- what was printed, where a write that fails cuts the run off
abbrev pub or_cut : Result Status SinkFail → Result Status Cut
or_cut (Ok status) = Ok status
or_cut (Err cause) = Err (cut_by cause)

-- where what cuts a run off names an engine
abbrev pub IfNames : Cut → (Lost → Type 0) → Type 0
IfNames (cut.Lost lost) IsSuch = IsSuch lost
IfNames _ IsSuch = ⊤

-- where an answer names an engine
abbrev pub IfLost : {T : Type 0} → Result T Cut → (Lost → Type 0) → Type 0
IfLost (Ok x) IsSuch = ⊤
IfLost (Err why) IsSuch = IfNames why IsSuch

-- an answer names no engine
abbrev pub LosesNone : {T : Type 0} → Result T Cut → Type 0
LosesNone r = IfLost r (λ _. ⊥)

-- How a run ends that was cut off. An engine that was lost is told in a line, which is written last; that write may fail, or memory may
-- run out.
abbrev pub EndsCut : Cut → (before now : Option (List ℕ)) → ℕ → Type 0
EndsCut cut.Write before now status = (status ≡ 4) × (now ≡ before)
EndsCut cut.Memory before now status = (status ≡ 7) × (now ≡ before)
EndsCut (cut.Lost lost) before now status =
    ((status ≡ 5) × (now ≡ appended before (lost_text lost))) ⊎ (((status ≡ 4) ⊎ (status ≡ 7)) × WroteFront before now (lost_text lost))

-- An engine was lost, whose line was written last.
abbrev pub IsLostLast : List EngineSeen → List EngineSeen → Option (List ℕ) → Type 0
IsLostLast es fs now = (lost : Lost) × HasLost lost es fs × EndWith (lost_text lost) now

-- a fact of the write that tells which engine was lost
abbrev pub IfWritten : Cut → Type 0 → Type 0
IfWritten (cut.Lost lost) Fact = Fact
IfWritten _ Fact = ⊥
