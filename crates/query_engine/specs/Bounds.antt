-- What an evaluation spends at most: what the plan costs that it goes by, which a reader can work out by hand for a query. (This
-- project's own.)
use Rattle.std.specs.Prelude.{◌≡◌, ◌+◌, ◌≤◌, ℕ, Bool, List}
use Rattle.logical_plan.specs.declared.nodes.Plan.{Plan}
use Rattle.plan_rewrites.specs.Rewriting.{evaluating}
use Rattle.plan_rewrites.specs.declared.choosing.Choices.{Choices}
use Rattle.plan_bases.specs.Looks.{plan_looks}
use Rattle.plan_work.specs.PlanBounds.{plan_bound}
use Rattle.promql_ast.specs.Edged.{edged}
use Rattle.promql_ast.specs.declared.tree.Expr.{Expr}
use Rattle.promql_meaning.specs.Results.{grid_times}
use Rattle.promql_meaning.specs.Selecting.{AllSeries, Asked, asked_over}
use Rattle.promql_type.specs.Judging.{judged}
use Rattle.promql_type.specs.Replacements.{AreKept, Kept}
use Rattle.promql_type.specs.declared.replace.Placed.{Placed}
use Rattle.query_engine.specs.Evaluating.{StandsFor}
use Rattle.query_engine.specs.Planning.{plan_of}
use Rattle.ticks.specs.Works.{Counts}
use Rattle.ticks.specs.declared.grid.Grid.{Grid}

-- the plan that a typed tree is evaluated by: behind the rewrites that are chosen, but that no average is split
abbrev pub evaluated_plan : Choices → Kept → List Placed → Expr → Plan
evaluated_plan choices kept placed e = plan_of (evaluating choices) kept placed e

-- counters rise by at most what a plan costs at the instants of a grid, and by the series that its distinct selectors look at and its
-- filters test
pub record SpendsAtMost (asked : Asked) (grid : Grid) (p : Plan) (before after : Counts) : Type 0 where
  pub fetched : after.fetched ≤ before.fetched + (plan_bound asked p (grid_times grid)).fetched
  pub probed : after.probed ≤ before.probed + (plan_bound asked p (grid_times grid)).probed
  pub tested : after.tested ≤ before.tested + plan_looks asked.kept asked.samples p

-- The evaluation of a text spends nothing, as where the text is refused, or at most what the plan costs of the typed tree that the text
-- stands for.
pub data Spends (text : List ℕ) (samples : AllSeries) (grid : Grid) (choices : Choices) (closed : Bool) (before after : Counts) : Type 0 where
  nothing : after ≡ before → Spends text samples grid choices closed before after
  at_most : (kept : Kept) (e : Expr) (placed : List Placed) → StandsFor text kept e → AreKept kept (judged (edged closed e)).replacements placed
      → SpendsAtMost (asked_over samples kept grid) grid (evaluated_plan choices kept placed (edged closed e)) before after → Spends text samples grid choices closed before after
