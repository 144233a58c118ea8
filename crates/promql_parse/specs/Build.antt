-- Trees of at most 128 nodes on their longest path. A deeper one is cut as it is made, since the rest of the text is still
-- read. (The limit is this project's own.)
use Rattle.std.specs.Prelude.{ℕ, ◌+◌, max, nat_lt, pos, Bool, true, false, ◌&&◌, is_none, if◌then◌else◌, List, [], ◌∷◌, ◌++◌, Option, Some, None}
use Rattle.func_table.specs.declared.table.Aggregate.{Aggregate}
use Rattle.func_table.specs.declared.table.Func.{Func}
use Rattle.label_set.specs.declared.rules.Grouping.{Grouping}
use Rattle.label_set.specs.declared.rules.Rule.{Rule}
use Rattle.promql_ast.specs.declared.tree.Expr.{Expr}
use Rattle.promql_ast.specs.declared.tree.Fixed.{Fixed}
use Rattle.promql_ast.specs.declared.tree.Moment.{Moment}
use Rattle.promql_ast.specs.declared.tree.Selector.{Selector}
use Rattle.promql_ast.specs.declared.tree.Node.{Node}
use Rattle.promql_ast.specs.declared.tree.Node.TheVariants.{Paren, Negate, Select, Range, Subquery, Call, Aggregate as Aggregated, Pair, Set}
use Rattle.promql_parse.specs.declared.build.Built.{Built}
use Rattle.promql_parse.specs.declared.build.Built.TheVariants.{Whole, Deep}
use Rattle.promql_parse.specs.declared.build.Arguments.{Arguments}
use Rattle.promql_parse.specs.declared.build.Arguments.TheVariants as arguments
use Rattle.promql_parse.specs.declared.build.Part.{Part}
use Rattle.promql_parse.specs.declared.build.Part.TheVariants as parts
use Rattle.promql_parse.specs.declared.build.Operand.{Operand}
use Rattle.promql_parts.specs.declared.operator.BinaryOp.{BinaryOp}
use Rattle.promql_parts.specs.declared.operator.BinaryOp.TheVariants as ops
use Rattle.promql_parts.specs.declared.operator.Matching.{Matching}
use Rattle.promql_parts.specs.declared.span.Brackets.{Brackets}
use Rattle.promql_parts.specs.declared.span.Brackets.TheVariants as brackets
use Rattle.ticks.specs.declared.moment.Ms.{Ms}
use Rattle.xfrac.specs.declared.value.PairOp.TheVariants as pairs

abbrev pub tree : ℕ → Node → Expr
tree at node = record { at = at; node = node }

-- a node over parts with so many nodes on their longest path
abbrev pub over : ℕ → ℕ → Node → Built
over depth at node = if nat_lt depth 128 then Whole (tree at node) (depth + 1) else Deep

abbrev pub leaf : ℕ → Node → Built
leaf at node = Whole (tree at node) 1

abbrev pub paren : ℕ → Built → Built
paren at Deep = Deep
paren at (Whole e depth) = over depth at (Paren e)

abbrev pub negate : ℕ → Built → Built
negate at Deep = Deep
negate at (Whole e depth) = over depth at (Negate e)

-- the node of an operator between its sides; a comparison keeps or drops the left one, and with `bool` gives 1 or 0
abbrev pub node_of : BinaryOp → Matching → Expr → Expr → Node
node_of (ops.Arith op) m left right = Pair (pairs.Arith op) left right m.pairing
node_of (ops.Compare op) m left right = Pair (if m.flag then pairs.Flag op else pairs.Filter op) left right m.pairing
node_of (ops.Set op) m left right = Set op left right m.pairing

-- an operation stands where its left side does
abbrev pub binary : BinaryOp → Matching → Built → Built → Built
binary op m (Whole l a) (Whole r b) = over (max a b) l.at (node_of op m l r)
binary op m _ _ = Deep

abbrev pub no_arguments : Arguments
no_arguments = arguments.Whole [] 0

abbrev pub add : Arguments → Built → Arguments
add (arguments.Whole es a) (Whole e b) = arguments.Whole (es ++ e ∷ []) (max a b)
add _ _ = arguments.Deep

abbrev pub call : ℕ → Func → Arguments → Built
call at f arguments.Deep = Deep
call at f (arguments.Whole es depth) = over depth at (Call f es)

abbrev pub aggregate : ℕ → Aggregate → Grouping → Arguments → Built
aggregate at f grouping arguments.Deep = Deep
aggregate at f grouping (arguments.Whole es depth) = over depth at (Aggregated f grouping es)

-- an operand without modifiers
abbrev pub plain : ℕ → Part → Operand
plain at part = record { at = at; part = part; offset = None; fixed = None }

abbrev pub other : ℕ → Built → Operand
other at built = plain at (parts.Other built)

abbrev pub selected : ℕ → List Rule → Operand
selected at rules = plain at (parts.Selector rules)

abbrev pub is_selector : Part → Bool
is_selector (parts.Selector rules) = true
is_selector _ = false

-- a range stands behind a selector without modifiers alone
abbrev pub is_plain : Operand → Bool
is_plain o = is_selector o.part && (is_none o.offset && is_none o.fixed)

abbrev pub takes_modifiers : Part → Bool
takes_modifiers (parts.Other built) = false
takes_modifiers _ = true

-- each modifier stands at most once
abbrev pub may_offset : Operand → Bool
may_offset o = takes_modifiers o.part && is_none o.offset

abbrev pub may_fix : Operand → Bool
may_fix o = takes_modifiers o.part && is_none o.fixed

-- the moment by the modifiers that stand: without any it is the instant. No text closes its window on the left.
abbrev pub moment_of : Option Ms → Option Fixed → Moment
moment_of None fixed = record { fixed = fixed; offset = record { 0 = pos 0 }; closed = false }
moment_of (Some offset) fixed = record { fixed = fixed; offset = offset; closed = false }

abbrev pub selector_of : List Rule → Moment → Selector
selector_of rules moment = record { rules = rules; moment = moment }

abbrev pub stepped : ℕ → Built → Ms → Ms → Moment → Built
stepped at Deep range step moment = Deep
stepped at (Whole e depth) range step moment = over depth at (Subquery e range step moment)

abbrev pub part_built : ℕ → Part → Moment → Built
part_built at (parts.Selector rules) moment = leaf at (Select (selector_of rules moment))
part_built at (parts.Range rules range) moment = leaf at (Range (selector_of rules moment) range)
part_built at (parts.Subquery inner range step) moment = stepped at inner range step moment
part_built at (parts.Other built) moment = built

abbrev pub operand_built : Operand → Built
operand_built o = part_built o.at o.part (moment_of o.offset o.fixed)

abbrev pub ranged : Part → Ms → Part
ranged (parts.Selector rules) range = parts.Range rules range
ranged part range = part

abbrev pub bracketed : Operand → Brackets → Operand
bracketed o (brackets.Range range) = plain o.at (ranged o.part range)
bracketed o (brackets.Steps range step) = plain o.at (parts.Subquery (operand_built o) range step)

abbrev pub with_offset : Operand → Ms → Operand
with_offset o offset = record { at = o.at; part = o.part; offset = Some offset; fixed = o.fixed }

abbrev pub with_time : Operand → Fixed → Operand
with_time o time = record { at = o.at; part = o.part; offset = o.offset; fixed = Some time }
