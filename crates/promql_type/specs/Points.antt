-- How many points a subquery has, and which have too many. The limit is this project's own, as is how points are counted
-- along a nesting.
use Rattle.std.specs.Prelude.{ℕ, ◌*◌, nat_lt, max, List, [], ◌∷◌, ◌++◌, unsigned_abs}
use Rattle.std.specs.Int.{div_ceil}
use Rattle.ticks.specs.declared.moment.Ms.{Ms}
use Rattle.promql_ast.specs.declared.refusal.QueryRefusal.{QueryRefusal}
use Rattle.promql_ast.specs.declared.refusal.QueryRefusal.TheVariants.{TooManyPoints}
use Rattle.promql_ast.specs.declared.tree.Expr.{Expr}
use Rattle.promql_ast.specs.declared.tree.Node.TheOpen.{Node-F, Expr-F}
use Rattle.promql_ast.specs.declared.tree.Node.TheFolds.{fold-Expr}
use Rattle.promql_type.specs.Rules.{where_true}

abbrev pub most_points : ℕ
most_points = 200000

-- the range divided by the step, rounded up; a step of 0, which no subquery has, counts as 1
abbrev pub points : Ms → Ms → ℕ
points range step = div_ceil (unsigned_abs range.0) (max 1 (unsigned_abs step.0))

abbrev pub all_crowded : List (ℕ → List QueryRefusal) → ℕ → List QueryRefusal
all_crowded [] around = []
all_crowded (inner ∷ more) around = inner around ++ all_crowded more around

-- One node at a place, with what the same gives for its children, inside of subqueries that have so many points together.
-- A subquery has its own points for each of those.
abbrev pub crowded_step : Node-F (ℕ → ℕ → List QueryRefusal) (ℕ → List QueryRefusal) → ℕ → ℕ → List QueryRefusal
crowded_step (Node-F.Number value) at around = []
crowded_step (Node-F.Words text) at around = []
crowded_step (Node-F.Paren inner) at around = inner around
crowded_step (Node-F.Negate inner) at around = inner around
crowded_step (Node-F.Select selector) at around = []
crowded_step (Node-F.Range selector range) at around = []
crowded_step (Node-F.Subquery inner range step moment) at around =
    where_true (nat_lt most_points (around * points range step)) (TooManyPoints at) ++ inner (around * points range step)
crowded_step (Node-F.Call f arguments) at around = all_crowded arguments around
crowded_step (Node-F.Aggregate f grouping arguments) at around = all_crowded arguments around
crowded_step (Node-F.Pair op left right pairing) at around = left around ++ right around
crowded_step (Node-F.Set op left right pairing) at around = left around ++ right around

abbrev pub crowded_expr : Expr-F (ℕ → ℕ → List QueryRefusal) (ℕ → List QueryRefusal) → ℕ → List QueryRefusal
crowded_expr e = e.node e.at

-- the refusals of subqueries that have too many points, in a tree inside of subqueries that have so many points together
abbrev pub crowded : Expr → ℕ → List QueryRefusal
crowded = fold-Expr (ℕ → ℕ → List QueryRefusal) (ℕ → List QueryRefusal) crowded_step crowded_expr
