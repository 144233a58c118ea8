-- Engines that hold the samples of a query, and what an evaluation makes of them. (This project's own; the engines are those of
-- thanos-io/promql-engine's distributed queries.)
use Rattle.std.specs.Prelude.{◌≡◌, ◌++◌, ◌-◌, ◌<◌, ◌≤◌, ℕ, true, List, [], ◌∷◌, drop, length, remove, slice_get, take, Option, None, Some, Result, Ok, Err, ⊤}
use Rattle.std.specs.List.{AllByRecursion}
use Rattle.std.specs.Option.{option_map}
use Rattle.exchange.specs.Calls.{Each, Grows}
use Rattle.exchange.specs.Faults.{HasFailed, HasStrayed}
use Rattle.exchange.specs.Standing.{Tells}
use Rattle.exchange.specs.declared.fault.RunFault.{RunFault}
use Rattle.exchange.specs.declared.fault.RunFault.TheVariants as run
use Rattle.label_set.specs.Labels.{IsLabelSet}
use Rattle.parting_laws.specs.Parted.{Engine, Parted}
use Rattle.promql_meaning.specs.Selecting.{AllSeries, Samples}
use Rattle.remote_api.specs.Seen.{EngineSeen, Holding}
use Rattle.remote_api.specs.declared.frame.Stray.TheVariants as stray
use Rattle.step_table.specs.Groups.{Names}
use Rattle.ticks.specs.Works.{Counts}

-- ---- where samples stand

-- a box tells that it holds what an engine does, which has these labels declared
pub record IsHeldBy (labels : Names) (e : EngineSeen) (engine : Engine) : Type 0 where
  pub declared : engine.declared ≡ labels
  pub tells : option_map (λ (h : Holding). h.samples) e.holding ≡ Some engine.samples

-- each declared engine tells what it holds: the k-th labels and the k-th box make the k-th engine
abbrev pub AreHeldBy : List Names → List EngineSeen → List Engine → Type 0
AreHeldBy [] es [] = ⊤
AreHeldBy [] es (engine ∷ engines) = ⊥
AreHeldBy (labels ∷ declared) [] engines = ⊥
AreHeldBy (labels ∷ declared) (e ∷ es) [] = ⊥
AreHeldBy (labels ∷ declared) (e ∷ es) (engine ∷ engines) = IsHeldBy labels e engine × AreHeldBy declared es engines

-- samples, whose labels are label sets, stand at the declared engines: these tell what they hold, and the samples are parted over them
pub record StandAt (declared : List Names) (es : List EngineSeen) (samples : AllSeries) : Type 0 where
  pub sets : AllByRecursion (λ (s : Names × Samples). IsLabelSet s.0) samples
  pub engines : List Engine
  pub held : AreHeldBy declared es engines
  pub parted : Parted engines samples

-- no counter has risen
pub record DoNotRise (before after : Counts) : Type 0 where
  pub fetched : after.fetched ≤ before.fetched
  pub probed : after.probed ≤ before.probed
  pub tested : after.tested ≤ before.tested

-- ---- what is left

-- the one at a place stands last, and the others before it, in their order
abbrev pub moved_last : {X : Type 0} → ℕ → List X → List X
moved_last i xs = remove xs i ++ take 1 (drop i xs)

-- an engine was lost: its labels went, its box stands last, and each box holds what it held
pub record Loses (i : ℕ) (declared_before declared_now : List Names) (es fs : List EngineSeen) : Type 0 where
  pub one : i < length declared_before
  pub labels : declared_now ≡ remove declared_before i
  pub many : length fs ≡ length es
  pub boxes : Each Grows (moved_last i es) fs

-- none was lost: labels and boxes stand in their order, and each box holds what it held
pub record LosesNone (declared_before declared_now : List Names) (es fs : List EngineSeen) : Type 0 where
  pub labels : declared_now ≡ declared_before
  pub many : length fs ≡ length es
  pub boxes : Each Grows es fs

-- the engine that a fault names
abbrev pub named_by : RunFault → Option ℕ
named_by (run.EngineFault i) = Some i
named_by (run.OutOfStep i expected got) = Some i
named_by (run.WrongCell i at) = Some i
named_by run.Memory = None

abbrev pub LosesNamed : Option ℕ → (declared_before declared_now : List Names) → (es fs : List EngineSeen) → Type 0
LosesNamed None before now es fs = LosesNone before now es fs
LosesNamed (Some i) before now es fs = Loses i before now es fs

-- the engine that an answer names was lost; where it names none, none was
abbrev pub Leaves : {T : Type 0} → Result T RunFault → (declared_before declared_now : List Names) → (es fs : List EngineSeen) → Type 0
Leaves (Ok x) before now es fs = LosesNone before now es fs
Leaves (Err fault) before now es fs = LosesNamed (named_by fault) before now es fs

-- the last place of a list
abbrev pub last_place : {X : Type 0} → List X → ℕ
last_place xs = length xs - 1

-- a fault is answered only where the engine that it names, whose box stands last now, has failed, or has strayed just so
abbrev pub FaultedLast : {T : Type 0} → Result T RunFault → (es fs : List EngineSeen) → Type 0
FaultedLast (Ok x) es fs = ⊤
FaultedLast (Err (run.EngineFault i)) es fs = HasFailed (last_place es) (moved_last i es) fs
FaultedLast (Err (run.OutOfStep i expected got)) es fs = HasStrayed (last_place es) (stray.OutOfStep expected got) (moved_last i es) fs
FaultedLast (Err (run.WrongCell i at)) es fs = HasStrayed (last_place es) (stray.WrongCell at) (moved_last i es) fs
FaultedLast (Err run.Memory) es fs = ⊤

-- ---- engines that neither fail nor stray

-- each of some engines is sound, and tells what it holds
abbrev pub AreSoundAndTell : List EngineSeen → Type 0
AreSoundAndTell es = (i : ℕ) (e : EngineSeen) → slice_get es i ≡ Some e → (e.sound ≡ true) × Tells e

-- no engine is told to have failed or strayed
abbrev pub IsNoFault : {T : Type 0} → Result T RunFault → Type 0
IsNoFault (Ok x) = ⊤
IsNoFault (Err run.Memory) = ⊤
IsNoFault (Err fault) = ⊥
