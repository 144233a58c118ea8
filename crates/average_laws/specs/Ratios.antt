-- What is divided by what in a plan, and plans whose ratios are averages. (thanos-io/promql-engine, the optimiser of averages.)
use Rattle.std.specs.Prelude.{◌≡◌, ℕ, ◌++◌, List, [], ◌∷◌}
use Rattle.std.specs.List.{AllByRecursion}
use Rattle.func_table.specs.declared.table.Aggregate.TheVariants.{Count, Sum}
use Rattle.label_set.specs.declared.rules.Grouping.{Grouping}
use Rattle.logical_plan.specs.Lowering.{planned}
use Rattle.logical_plan.specs.Onces.{node_over}
use Rattle.logical_plan.specs.Validity.{children}
use Rattle.logical_plan.specs.declared.nodes.Plan.{Plan}
use Rattle.logical_plan.specs.declared.nodes.PlanNode.TheVariants.{Group}
use Rattle.logical_plan.specs.declared.nodes.PlanNode.TheOpen.{PlanNode-F}
use Rattle.logical_plan.specs.declared.nodes.PlanNode.TheFolds.{fold-Plan}

-- a plan, and what is divided by what in it
pub record Divisions : Type 0 where
  pub plan : Plan
  pub ratios : List (Plan × Plan)

abbrev pub all_ratios : List Divisions → List (Plan × Plan)
all_ratios [] = []
all_ratios (d ∷ ds) = d.ratios ++ all_ratios ds

abbrev pub own_ratios : {A : Type 0} → PlanNode-F A Divisions → List (Plan × Plan)
own_ratios (PlanNode-F.Ratio sum count) = (sum.plan, count.plan) ∷ []
own_ratios y = []

abbrev pub node_divisions : PlanNode-F (ℕ → Divisions) Divisions → ℕ → Divisions
node_divisions y at = record { plan = planned at (node_over (λ (d : Divisions). d.plan) y); ratios = own_ratios y ++ all_ratios (children y) }

abbrev pub divisions : Plan → Divisions
divisions = fold-Plan (ℕ → Divisions) Divisions node_divisions (λ p. p.node p.at)

-- what is divided by what in a plan
abbrev pub ratios_in : Plan → List (Plan × Plan)
ratios_in p = (divisions p).ratios

-- a sum is divided by the count of the same arguments by the same grouping, which is their average
pub record IsAverage (ratio : Plan × Plan) : Type 0 where
  pub sum_at : ℕ
  pub count_at : ℕ
  pub grouping : Grouping
  pub arguments : List Plan
  pub label : List ℕ
  pub sum : ratio.0 ≡ planned sum_at (Group Sum grouping arguments label)
  pub count : ratio.1 ≡ planned count_at (Group Count grouping arguments label)

-- each ratio of a plan is an average, as those are that averages were split into
abbrev pub HasAverages : Plan → Type 0
HasAverages p = AllByRecursion IsAverage (ratios_in p)
