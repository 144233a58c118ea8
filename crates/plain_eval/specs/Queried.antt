-- A typed query with what it is asked over. (Our own.)
use Rattle.std.specs.Prelude.{ℕ, ℤ, Bool, List, []}
use Rattle.promql_ast.specs.declared.tree.Moment.{Moment}
use Rattle.ticks.specs.declared.grid.Grid.{Grid}
use Rattle.promql_meaning.specs.Selecting.{AllSeries, Asked, asked_over, moment_of}

-- the samples, and the grid that it is asked over
pub record Queried : Type 0 where
  pub samples : AllSeries
  pub span : Grid

-- with the patterns that are kept
abbrev pub asked_of : Queried → List (Bool × List ℕ) → Asked
asked_of query kept = asked_over query.samples kept query.span

-- the moment that belongs to an instant
abbrev pub moment_in : Queried → Moment → ℤ → ℤ
moment_in query moment t = moment_of (asked_of query []) moment t
