-- What a tree has at its selectors and subqueries: rules, moments, and lengths of time. That they lie within the limits of the
-- language is told by what reads and types a tree, and is what an evaluation rests on. (This project's own.)
use Rattle.std.specs.Prelude.{ℕ, ℤ, pos, neg_ℤ, ◌<ℤ◌, ◌≤ℤ◌, List, [], ◌∷◌, ◌++◌, Option, None, Some, ⊤}
use Rattle.std.specs.List.{AllByRecursion}
use Rattle.label_set.specs.declared.rules.Rule.{Rule}
use Rattle.ticks.specs.declared.moment.Ms.{Ms}
use Rattle.promql_ast.specs.declared.tree.Fixed.{Fixed}
use Rattle.promql_ast.specs.declared.tree.Fixed.TheVariants.{At, Start, End}
use Rattle.promql_ast.specs.declared.tree.Moment.{Moment}
use Rattle.promql_ast.specs.declared.tree.Expr.{Expr}
use Rattle.promql_ast.specs.declared.tree.Node.TheOpen.{Node-F}
use Rattle.promql_ast.specs.declared.tree.Node.TheFolds.{fold-Expr}

-- the rules and the moment of a selector, the moment of a subquery, and the range or the step of either
pub data Part : Type 0 where
  of_rules : List Rule → Part
  of_moment : Moment → Part
  of_length : Ms → Part

abbrev pub all_of : List (List Part) → List Part
all_of [] = []
all_of (parts ∷ lists) = parts ++ all_of lists

-- one node's, and those of its children
abbrev pub node_parts : Node-F (List Part) (List Part) → List Part
node_parts (Node-F.Number value) = []
node_parts (Node-F.Words text) = []
node_parts (Node-F.Paren inner) = inner
node_parts (Node-F.Negate inner) = inner
node_parts (Node-F.Select selector) = Part.of_rules selector.rules ∷ Part.of_moment selector.moment ∷ []
node_parts (Node-F.Range selector range) = Part.of_rules selector.rules ∷ Part.of_moment selector.moment ∷ Part.of_length range ∷ []
node_parts (Node-F.Subquery inner range step moment) = Part.of_moment moment ∷ Part.of_length range ∷ Part.of_length step ∷ inner
node_parts (Node-F.Call f arguments) = all_of arguments
node_parts (Node-F.Aggregate f grouping arguments) = all_of arguments
node_parts (Node-F.Pair op left right pairing) = left ++ right
node_parts (Node-F.Set op left right pairing) = left ++ right

abbrev pub parts_of : Expr → List Part
parts_of = fold-Expr (List Part) (List Part) node_parts (λ e. e.node)

-- a time of either sign that is at most so far from 0
abbrev pub IsAtMost : ℕ → Ms → Type 0
IsAtMost most time = (neg_ℤ (pos most) ≤ℤ time.0) × (time.0 ≤ℤ pos most)

-- a fixed time is no later than the last, or is an end of the query's grid
abbrev pub IsFixedWithin : ℕ → Option Fixed → Type 0
IsFixedWithin latest None = ⊤
IsFixedWithin latest (Some (At time)) = IsAtMost latest time
IsFixedWithin latest (Some Start) = ⊤
IsFixedWithin latest (Some End) = ⊤

-- lengths are positive, and they and offsets are at most the longest; fixed times are at most the latest; of rules something is
-- known
abbrev pub IsWithin : (List Rule → Type 0) → ℕ → ℕ → Part → Type 0
IsWithin HoldsOf longest latest (Part.of_rules rules) = HoldsOf rules
IsWithin HoldsOf longest latest (Part.of_moment moment) = IsFixedWithin latest moment.fixed × IsAtMost longest moment.offset
IsWithin HoldsOf longest latest (Part.of_length length) = (pos 0 <ℤ length.0) × (length.0 ≤ℤ pos longest)

abbrev pub AreWithin : (List Rule → Type 0) → ℕ → ℕ → List Part → Type 0
AreWithin HoldsOf longest latest parts = AllByRecursion (IsWithin HoldsOf longest latest) parts
