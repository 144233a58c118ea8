-- The typed tree: what was written to match vectors by is dropped where a side is a number. By the Prometheus querying
-- documentation, "Vector matching", it has a meaning between vectors alone.
use Rattle.std.specs.Prelude.{Bool, true, false, ◌||◌, List, [], ◌∷◌, ℕ}
use Rattle.label_set.specs.declared.rules.Pairing.{Pairing}
use Rattle.label_set.specs.declared.rules.Card.TheVariants.{OneToOne}
use Rattle.promql_ast.specs.declared.tree.Expr.{Expr}
use Rattle.promql_ast.specs.declared.tree.Node.{Node}
use Rattle.promql_ast.specs.declared.tree.Node.TheVariants.{Number, Words, Paren, Negate, Select, Range, Subquery, Call, Aggregate, Pair, Set}
use Rattle.promql_ast.specs.declared.tree.Node.TheOpen.{Node-F, Expr-F}
use Rattle.promql_ast.specs.declared.tree.Node.TheViews.{roll-Expr}
use Rattle.promql_ast.specs.declared.tree.Node.TheFolds.{fold-Expr}
use Rattle.promql_type.specs.declared.kind.Kind.{Kind}
use Rattle.promql_type.specs.Judging.{judged}
use Rattle.promql_type.specs.Kinds.{is_scalar}

-- what a tree gives
abbrev pub kind_of : Expr → Kind
kind_of e = (judged e).operand.gives

-- the pairing of an operator without words to match by
abbrev pub no_pairing : Pairing
no_pairing = record { on = false; names = []; card = OneToOne; extra = [] }

-- a pairing beside a number, where a fact says that there is one: without labels to match by it is dropped
abbrev pub pairing_beside : Bool → Pairing → Pairing
pairing_beside false pairing = pairing
pairing_beside true pairing = without pairing.names
  where
    without : List (List ℕ) → Pairing
    without [] = no_pairing
    without (name ∷ names) = pairing

abbrev pub settled_pairing : Kind → Kind → Pairing → Pairing
settled_pairing left right pairing = pairing_beside (is_scalar left || is_scalar right) pairing

-- one node, with the typed trees of its children
abbrev pub settled_step : Node-F Node Expr → Node
settled_step (Node-F.Number value) = Number value
settled_step (Node-F.Words text) = Words text
settled_step (Node-F.Paren inner) = Paren inner
settled_step (Node-F.Negate inner) = Negate inner
settled_step (Node-F.Select selector) = Select selector
settled_step (Node-F.Range selector range) = Range selector range
settled_step (Node-F.Subquery inner range step moment) = Subquery inner range step moment
settled_step (Node-F.Call f arguments) = Call f arguments
settled_step (Node-F.Aggregate f grouping arguments) = Aggregate f grouping arguments
settled_step (Node-F.Pair op left right pairing) = Pair op left right (settled_pairing (kind_of left) (kind_of right) pairing)
settled_step (Node-F.Set op left right pairing) = Set op left right pairing

abbrev pub settled_expr : Expr-F Node Expr → Expr
settled_expr e = roll-Expr e

abbrev pub settled : Expr → Expr
settled = fold-Expr Node Expr settled_step settled_expr
