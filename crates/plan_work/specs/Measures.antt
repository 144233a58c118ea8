-- Sums over the selectors of a plan. (This project's own.)
use Rattle.std.specs.Prelude.{ℤ, List, [], ◌∷◌, map}
use Rattle.label_set.specs.declared.rules.Rule.{Rule}
use Rattle.logical_plan.specs.declared.nodes.Plan.{Plan}
use Rattle.logical_plan.specs.declared.nodes.PlanNode.TheOpen.{PlanNode-F}
use Rattle.logical_plan.specs.declared.nodes.PlanNode.TheFolds.{fold-Plan}
use Rattle.promql_ast.specs.declared.tree.Moment.{Moment}
use Rattle.promql_meaning.specs.Selecting.{lookback}
use Rattle.ticks.specs.declared.moment.Ms.{Ms}

-- what is added up over a plan: what a part without selectors has, what two parts have together, what a selector has whose windows reach
-- back by a length, and what a subquery and a part that is computed once make of what stands below them
pub record Measure (X : Type 0) : Type 0 where
  pub none : X
  pub beside : X → X → X
  pub selector : ℤ → List Rule → Moment → X
  pub inside : Moment → (range step : Ms) → X → X
  pub once : X → X

module _ {X : Type 0} (m : Measure X) where
  -- all of some parts
  abbrev pub all_of : List X → X
  all_of [] = m.none
  all_of (part ∷ parts) = m.beside part (all_of parts)

  -- a node, by its children; what engines are asked for is theirs to add up
  abbrev pub node_measure : PlanNode-F X X → X
  node_measure (PlanNode-F.Number value) = m.none
  node_measure PlanNode-F.Time = m.none
  node_measure (PlanNode-F.Select rules moment stamped) = m.selector lookback rules moment
  node_measure (PlanNode-F.Range rules moment range) = m.selector range.0 rules moment
  node_measure (PlanNode-F.Subquery inner range step moment) = m.inside moment range step inner
  node_measure (PlanNode-F.Element f inner arguments) = all_of (inner ∷ arguments)
  node_measure (PlanNode-F.Stamp inner) = inner
  node_measure (PlanNode-F.Window f inner arguments) = all_of (inner ∷ arguments)
  node_measure (PlanNode-F.Absent labels inner) = inner
  node_measure (PlanNode-F.Buckets quantile inner) = m.beside quantile inner
  node_measure (PlanNode-F.Relabel rule inner) = inner
  node_measure (PlanNode-F.Sort down inner) = inner
  node_measure (PlanNode-F.ScalarOf inner) = inner
  node_measure (PlanNode-F.VectorOf inner) = inner
  node_measure (PlanNode-F.Group f by arguments label) = all_of arguments
  node_measure (PlanNode-F.Pair op left right pairing) = m.beside left right
  node_measure (PlanNode-F.Set op left right pairing) = m.beside left right
  node_measure (PlanNode-F.Filter base rules) = base
  node_measure (PlanNode-F.Ratio sum count) = m.beside sum count
  node_measure (PlanNode-F.Once inner) = m.once inner
  node_measure (PlanNode-F.Gather expr kind engines) = m.none

  -- a plan
  abbrev pub plan_measure : Plan → X
  plan_measure p = fold-Plan X X node_measure (λ p. p.node) p

  -- all arguments of a function
  abbrev pub arguments_measure : List Plan → X
  arguments_measure arguments = all_of (map plan_measure arguments)
