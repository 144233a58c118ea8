-- Queries whose samples stand at engines. (This project's own; the engines are those of thanos-io/promql-engine's distributed queries.)
use Rattle.std.specs.Prelude.{◌≡◌, ℕ, ℤ, List, length, map}
use Rattle.promql_meaning.specs.Selecting.{AllSeries, Asked}
use Rattle.logical_plan.specs.PlanMeaning.{plan_meaning}
use Rattle.logical_plan.specs.declared.nodes.Plan.{Plan}
use Rattle.parting_laws.specs.Parted.{Engine, Parted}

-- what each of some engines holds
abbrev pub held_by : List Engine → List AllSeries
held_by engines = map (λ (engine : Engine). engine.samples) engines

-- the samples of a query are parted over engines by the labels that are declared to them, and these are the engines of the query, so many
pub record ArePartedOver (count : ℕ) (asked : Asked) : Type 0 where
  pub engines : List Engine
  pub parted : Parted engines asked.samples
  pub held : asked.engines ≡ held_by engines
  pub all : length asked.engines ≡ count

-- two plans give the same rows, notes and marks at every instant, on all samples that are parted over so many engines
abbrev pub MeanTheSameOver : ℕ → Plan → Plan → Type 0
MeanTheSameOver count p q = (asked : Asked) (t : ℤ) → ArePartedOver count asked → plan_meaning asked p t ≡ plan_meaning asked q t
