-- What engines hold of the samples that are loaded. (This project's own.)
use Rattle.std.specs.List.{AllByRecursion}
use Rattle.std.specs.Prelude.{◌≡◌, ◌<◌, ◌≤◌, ◌^◌, ℕ, ⊤, true, List, [], Some, Result, Ok, Err, IfSome, is_some, length, slice_get}
use Rattle.std.specs.Option.{option_map}
use Rattle.exchange.specs.Calls.{Each}
use Rattle.exchange.specs.Faults.{HasFailed}
use Rattle.exchange.specs.declared.fault.RunFault.TheVariants.{EngineFault}
use Rattle.label_set.specs.Labels.{IsLabelSet}
use Rattle.parting_laws.specs.Parted.{Engine, MayBeDeclared, Parted, declared_to}
use Rattle.remote_api.specs.Seen.{EngineSeen, Holding, KeepsStrays}
use Rattle.sample_store.specs.Samples.{AllSeries, Samples, sample_count}
use Rattle.script_read.specs.Series.{LabelList}
use Rattle.test_runner.specs.declared.fault.RunnerFault.{RunnerFault}
use Rattle.test_runner.specs.declared.fault.RunnerFault.TheVariants.{Run}

-- there are engines with declared labels, each with its box
pub record HaveBoxes (declared : List LabelList) (es : List EngineSeen) : Type 0 where
  pub some : 0 < length declared
  pub many : length declared ≤ length es
  pub few : length declared < 2 ^ 32

-- these labels are declared to the engines that tell
abbrev pub AreDeclaredTo : List LabelList → List EngineSeen → Type 0
AreDeclaredTo declared es =
    (k : ℕ) (names : LabelList) (e : EngineSeen) → slice_get declared k ≡ Some names → slice_get es k ≡ Some e → IfSome e.holding (λ h. h.declared ≡ Some names)

-- no engine with declared labels was asked
abbrev pub AreUnasked : List LabelList → List EngineSeen → Type 0
AreUnasked declared es = (k : ℕ) (e : EngineSeen) → k < length declared → slice_get es k ≡ Some e → e.asks ≡ []

-- an engine that tells has these labels declared and holds these samples
abbrev pub IsHeldBy : Engine → EngineSeen → Type 0
IsHeldBy one e = IfSome e.holding (λ h. (h.declared ≡ Some one.declared) × (h.samples ≡ one.samples))

-- some series, with their samples, are no more than others
pub record AreNoMore (some all : AllSeries) : Type 0 where
  pub series : length some ≤ length all
  pub samples : sample_count some ≤ sample_count all

-- series, whose labels are label sets, are parted by declared labels, and each engine that tells holds its part
pub record HoldParts (declared : List LabelList) (es : List EngineSeen) (series : AllSeries) : Type 0 where
  pub sets : AllByRecursion (λ (s : LabelList × Samples). IsLabelSet s.0) series
  pub boxes : HaveBoxes declared es
  pub engines : List Engine
  pub are : declared_to engines ≡ declared
  pub parted : Parted engines series
  pub fits : (k : ℕ) (one : Engine) → slice_get engines k ≡ Some one → AreNoMore one.samples series
  pub held : (k : ℕ) (one : Engine) (e : EngineSeen) → slice_get engines k ≡ Some one → slice_get es k ≡ Some e → IsHeldBy one e

-- the same where none was asked, so that they may be loaded
pub record MayBeLoaded (declared : List LabelList) (es : List EngineSeen) (series : AllSeries) : Type 0 where
  pub unasked : AreUnasked declared es
  pub parts : HoldParts declared es series

-- the engines at the first places were called, each once, and the others weren't
pub record AreCalled (count : ℕ) (R : EngineSeen → EngineSeen → Type 0) (es fs : List EngineSeen) : Type 0 where
  pub one : (k : ℕ) (e : EngineSeen) → k < count → slice_get es k ≡ Some e → (f : EngineSeen) × (slice_get fs k ≡ Some f) × R e f
  pub others : (k : ℕ) → count ≤ k → slice_get fs k ≡ slice_get es k
  pub many : length fs ≡ length es

-- an engine has strayed no more; whether it tells hasn't changed, nor what is declared to it, its faults haven't fallen, and it is sound
-- if it was
pub record Stays (e f : EngineSeen) : Type 0 where
  pub strays : KeepsStrays e f
  pub tells : is_some f.holding ≡ is_some e.holding
  pub declared : option_map (λ (h : Holding). h.declared) f.holding ≡ option_map (λ (h : Holding). h.declared) e.holding
  pub faults : e.faults ≤ f.faults
  pub sound : e.sound ≡ true → f.sound ≡ true

-- a fault of an engine is answered only where that engine, one of the first so many, has failed, and no other of a run
abbrev pub FaultsBy : {X : Type 0} → ℕ → Result X RunnerFault → List EngineSeen → List EngineSeen → Type 0
FaultsBy n (Err (Run (EngineFault i))) es fs = (i < n) × HasFailed i es fs
FaultsBy n (Err (Run fault)) es fs = ⊥
FaultsBy n result es fs = Unit {0}

-- engines were loaded and cleared, or one of the first so many failed
pub record HasGone {X : Type 0} (n : ℕ) (result : Result X RunnerFault) (es fs : List EngineSeen) : Type 0 where
  pub many : length fs ≡ length es
  pub each : Each Stays es fs
  pub fault : FaultsBy n result es fs

-- engines were loaded and cleared, and none has failed
abbrev pub AreServed : ℕ → List EngineSeen → List EngineSeen → Type 0
AreServed n es fs = HasGone {X = ⊤} n (Ok tt) es fs
