-- What the evaluation of an expression at an instant needs: its patterns, times within the limits of times, and positive steps.
-- (This project's own.)
use Rattle.std.specs.Prelude.{ℕ, Bool, List, [], ◌∷◌, ◌++◌, ℤ, pos, ◌-ℤ◌, ◌<ℤ◌}
use Rattle.std.specs.List.{AllByRecursion}
use Rattle.label_set.specs.declared.rules.Rule.{Rule}
use Rattle.match_rule.specs.Patterns.{HaveTheirPatterns}
use Rattle.promql_ast.specs.declared.tree.Expr.{Expr}
use Rattle.promql_ast.specs.declared.tree.Node.TheOpen.{Node-F}
use Rattle.promql_ast.specs.declared.tree.Node.TheFolds.{fold-Expr}
use Rattle.ticks.specs.Walks.{IsTime}
use Rattle.ticks.specs.declared.moment.Ms.{Ms}
use Rattle.promql_meaning.specs.Selecting.{Asked, lookback, moment_of}
use Rattle.promql_meaning.specs.Subqueries.{as_times, first_multiple, multiples}

-- each rule has its pattern; each of some times is at most 2^60 in magnitude; a step is positive
pub data Need : Type 0 where
  patterns : List Rule → Need
  times : List ℤ → Need
  positive : ℤ → Need

abbrev pub IsMet : List (Bool × List ℕ) → Need → Type 0
IsMet kept (Need.patterns rules) = HaveTheirPatterns kept rules
IsMet kept (Need.times ts) = AllByRecursion IsTime ts
IsMet kept (Need.positive step) = pos 0 <ℤ step

-- the needs of some parts together, at an instant
abbrev pub needs_at : List (ℤ → List Need) → ℤ → List Need
needs_at [] t = []
needs_at (needs ∷ all) t = needs t ++ needs_at all t

-- the needs of a part at some instants
abbrev pub needs_over : (ℤ → List Need) → List Ms → List Need
needs_over needs [] = []
needs_over needs (u ∷ us) = needs u.0 ++ needs_over needs us

-- a moment, and the left edge of a range that ends there
abbrev pub range_times : ℤ → ℤ → List ℤ
range_times m range = m ∷ (m -ℤ range) ∷ []

abbrev pub node_needs : Asked → Node-F (ℤ → List Need) (ℤ → List Need) → ℤ → List Need
node_needs asked (Node-F.Number value) t = []
node_needs asked (Node-F.Words text) t = []
node_needs asked (Node-F.Paren inner) t = inner t
node_needs asked (Node-F.Negate inner) t = inner t
node_needs asked (Node-F.Select selector) t =
    Need.patterns selector.rules ∷ Need.times (range_times (moment_of asked selector.moment t) lookback) ∷ []
node_needs asked (Node-F.Range selector range) t =
    Need.patterns selector.rules ∷ Need.times (t ∷ range_times (moment_of asked selector.moment t) range.0) ∷ []
node_needs asked (Node-F.Subquery inner range step moment) t =
    Need.positive step.0
    ∷ Need.times (t ∷ step.0 ∷ first_multiple moment.closed step.0 (moment_of asked moment t -ℤ range.0) ∷ range_times (moment_of asked moment t) range.0)
    ∷ Need.times (multiples moment.closed (moment_of asked moment t) range.0 step.0)
    ∷ needs_over inner (as_times (multiples moment.closed (moment_of asked moment t) range.0 step.0))
node_needs asked (Node-F.Call f arguments) t = needs_at arguments t
node_needs asked (Node-F.Aggregate f by arguments) t = needs_at arguments t
node_needs asked (Node-F.Pair op left right pairing) t = left t ++ right t
node_needs asked (Node-F.Set op left right pairing) t = left t ++ right t

abbrev pub needs_of : Asked → Expr → ℤ → List Need
needs_of asked = fold-Expr (ℤ → List Need) (ℤ → List Need) (node_needs asked) (λ e. e.node)

-- all needs are met
abbrev pub AreMet : Asked → List Need → Type 0
AreMet asked needs = AllByRecursion (IsMet asked.kept) needs
