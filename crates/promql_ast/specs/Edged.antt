-- A tree with one left edge everywhere: each of its moments is closed on the left, or each is open. Which of the two is asked for
-- is an option of an evaluation and stands in no text. (This project's own; Prometheus 3 takes windows that are open on the left,
-- Prometheus 2 took closed ones.)
use Rattle.std.specs.Prelude.{◌≡◌, Bool, ⊤}
use Rattle.std.specs.List.{AllByRecursion}
use Rattle.promql_ast.specs.declared.tree.Expr.{Expr}
use Rattle.promql_ast.specs.declared.tree.Moment.{Moment}
use Rattle.promql_ast.specs.declared.tree.Selector.{Selector}
use Rattle.promql_ast.specs.declared.tree.Node.{Node}
use Rattle.promql_ast.specs.declared.tree.Node.TheVariants.{Number, Words, Paren, Negate, Select, Range, Subquery, Call, Aggregate, Pair, Set}
use Rattle.promql_ast.specs.declared.tree.Node.TheOpen.{Node-F, Expr-F}
use Rattle.promql_ast.specs.declared.tree.Node.TheViews.{roll-Expr}
use Rattle.promql_ast.specs.declared.tree.Node.TheFolds.{fold-Expr}
use Rattle.promql_ast.specs.Parts.{Part, parts_of}

abbrev pub edged_moment : Bool → Moment → Moment
edged_moment closed moment = record moment { closed = closed }

abbrev pub edged_selector : Bool → Selector → Selector
edged_selector closed selector = record selector { moment = edged_moment closed selector.moment }

-- one node, with the trees of its children
abbrev pub edged_step : Bool → Node-F Node Expr → Node
edged_step closed (Node-F.Number value) = Number value
edged_step closed (Node-F.Words text) = Words text
edged_step closed (Node-F.Paren inner) = Paren inner
edged_step closed (Node-F.Negate inner) = Negate inner
edged_step closed (Node-F.Select selector) = Select (edged_selector closed selector)
edged_step closed (Node-F.Range selector range) = Range (edged_selector closed selector) range
edged_step closed (Node-F.Subquery inner range step moment) = Subquery inner range step (edged_moment closed moment)
edged_step closed (Node-F.Call f arguments) = Call f arguments
edged_step closed (Node-F.Aggregate f grouping arguments) = Aggregate f grouping arguments
edged_step closed (Node-F.Pair op left right pairing) = Pair op left right pairing
edged_step closed (Node-F.Set op left right pairing) = Set op left right pairing

abbrev pub edged_expr : Expr-F Node Expr → Expr
edged_expr e = roll-Expr e

abbrev pub edged : Bool → Expr → Expr
edged closed = fold-Expr Node Expr (edged_step closed) edged_expr

-- ---- laws

-- a moment of a tree has this edge
abbrev pub IsEdged : Bool → Part → Type 0
IsEdged closed (Part.of_rules rules) = ⊤
IsEdged closed (Part.of_moment moment) = moment.closed ≡ closed
IsEdged closed (Part.of_length length) = ⊤

-- all moments of a tree have it
abbrev pub AreEdged : Bool → Expr → Type 0
AreEdged closed e = AllByRecursion (IsEdged closed) (parts_of e)

-- afterwards all moments of a tree have the edge, those in subqueries and behind `@` too
abbrev pub EdgesAreSet : Type 0
EdgesAreSet = (closed : Bool) (e : Expr) → AreEdged closed (edged closed e)

-- a tree whose moments all have the edge stays as it is
abbrev pub EdgedTreesStay : Type 0
EdgedTreesStay = (closed : Bool) (e : Expr) → AreEdged closed e → edged closed e ≡ e

-- the last of two edges that are set is the one that counts
abbrev pub LastEdgeCounts : Type 0
LastEdgeCounts = (first last : Bool) (e : Expr) → edged last (edged first e) ≡ edged last e
