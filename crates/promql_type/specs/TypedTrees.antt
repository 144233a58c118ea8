-- What a typed tree shows.
use Rattle.std.specs.Prelude.{ℕ, ◌==◌, if◌then◌else◌, List, [], ◌∷◌, Option, None, Some}
use Rattle.label_set.specs.declared.rules.PatternId.{PatternId}
use Rattle.promql_ast.specs.declared.tree.Expr.{Expr}
use Rattle.promql_type.specs.declared.replace.Placed.{Placed}
use Rattle.promql_type.specs.declared.typed_tree.Typed.{Typed}

abbrev pub tree_of : Typed → Expr
tree_of t = t.expr

-- the numbers of the patterns of its label_replace calls, in the order of the text
abbrev pub placed_of : Typed → List Placed
placed_of t = t.patterns

-- the number of the first that stands at a place
abbrev pub pattern_at : List Placed → ℕ → Option PatternId
pattern_at [] at = None
pattern_at (p ∷ ps) at = if p.at == at then Some p.id else pattern_at ps at
