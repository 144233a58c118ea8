-- What the steps of a tree come to over its walk. (Prometheus' instant and range queries.)
use Rattle.std.specs.Prelude.{◌≡◌, ◌↔◌, ℤ, Bool, List}
use Rattle.promql_ast.specs.declared.tree.Expr.{Expr}
use Rattle.promql_meaning.specs.Results.{grid_times, judged}
use Rattle.result_rows.specs.Taken.{HasTaken}
use Rattle.step_table.specs.Timed.{StepAt}
use Rattle.ticks.specs.Grids.{IsInRange, IsNumbered, IsOnGrid}
use Rattle.ticks.specs.Listed.{IsListed}
use Rattle.ticks.specs.declared.grid.Grid.{Grid}
use Rattle.ticks.specs.declared.walk.Walk.{Grid as GridWalk}
use Rattle.tree_results.specs.declared.draining.Drained.{Drained}
use Rattle.tree_results.specs.declared.draining.Drained.TheVariants.{Stopped, Done}

-- the outcome of the first instant that ends the evaluation early, which is what any expression of these steps comes to, or else what
-- is kept of all of them
abbrev pub IsDrained : List StepAt → Drained → Type 0
IsDrained steps (Stopped outcome) = (instant : Bool) (e : Expr) → outcome ≡ judged instant e steps
IsDrained steps (Done kept) = HasTaken kept steps

-- the instants of a grid are its start and so many steps
abbrev pub GridsAreNumbered : Type 0
GridsAreNumbered = (start end step : ℤ) → IsInRange start end step → (t : ℤ) → IsOnGrid start end step t ↔ IsNumbered start end step t

-- the instants of a grid, as the result of a query has them, are those of its walk
abbrev pub GridsAreListed : Type 0
GridsAreListed = (grid : Grid) → IsListed (GridWalk grid) (grid_times grid)
