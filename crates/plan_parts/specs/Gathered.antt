-- What engines hold of a query, and parts of it that have no marks of their own. (This project's own.)
use Rattle.std.specs.Prelude.{◌≡◌, ℕ, ℤ, List, [], slice_get, Option, None, Some}
use Rattle.std.specs.Option.{option_map}
use Rattle.logical_plan.specs.Gathers.{owed_over}
use Rattle.promql_ast.specs.declared.tree.Expr.{Expr}
use Rattle.promql_meaning.specs.Givens.{no_marks}
use Rattle.promql_meaning.specs.Selecting.{AllSeries, Asked}
use Rattle.op_labels.specs.Rules.{Kept}
use Rattle.remote_api.specs.Seen.{EngineSeen, Holding}
use Rattle.step_table.specs.declared.cells.PartKind.{PartKind}
use Rattle.ticks.specs.declared.grid.Grid.{Grid}

-- the samples that an engine holds, where it tells
abbrev pub held_by : Option EngineSeen → Option AllSeries
held_by None = None
held_by (Some e) = option_map (λ (h : Holding). h.samples) e.holding

-- by its number, each engine holds what the query says that it holds
abbrev pub AreHeld : List EngineSeen → Asked → Type 0
AreHeld es asked = (i : ℕ) → held_by (slice_get es i) ≡ slice_get asked.engines i

-- a query over a grid, with these patterns kept
pub record IsQueryOver (span : Grid) (kept : Kept) (asked : Asked) : Type 0 where
  pub kept_are : asked.kept ≡ kept
  pub starts : asked.start ≡ span.start.0
  pub ends : asked.end ≡ span.end.0

-- over no samples a part has no notes and no marks
abbrev pub IsUnmarked : Asked → Expr → PartKind → Type 0
IsUnmarked asked expr kind = (t : ℤ) → (owed_over asked expr kind t []).marks ≡ no_marks
