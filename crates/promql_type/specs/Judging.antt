-- The type of a tree, and all of its refusals: by one step for each kind of node, over what the same gives for its children.
use Rattle.std.specs.Prelude.{ℕ, ◌+◌, List, [], ◌∷◌, ◌++◌, length, Option, Some, None, option_and_then, slice_get}
use Rattle.func_table.specs.declared.table.Func.{Func}
use Rattle.func_table.specs.declared.table.Func.TheVariants.{LabelJoin, LabelReplace}
use Rattle.func_table.specs.declared.table.Aggregate.TheVariants.{CountValues}
use Rattle.promql_ast.specs.declared.refusal.QueryRefusal.{QueryRefusal}
use Rattle.promql_ast.specs.declared.tree.Expr.{Expr}
use Rattle.promql_ast.specs.declared.tree.Node.TheOpen.{Node-F, Expr-F}
use Rattle.promql_ast.specs.declared.tree.Node.TheFolds.{fold-Expr}
use Rattle.promql_type.specs.declared.kind.Kind.{Kind}
use Rattle.promql_type.specs.declared.kind.Kind.TheVariants.{Scalar, Vector, Windows, Words}
use Rattle.promql_type.specs.declared.kind.Operand.{Operand}
use Rattle.promql_type.specs.declared.replace.Replacement.{Replacement}
use Rattle.promql_type.specs.declared.signature.Callee.{Callee}
use Rattle.promql_type.specs.declared.signature.Callee.TheVariants.{Function, Aggregation}
use Rattle.promql_type.specs.Kinds.{both}
use Rattle.promql_type.specs.Signatures.{Signature, argument, signature}
use Rattle.promql_type.specs.Rules.{Literal, argument_refusals, count_refusals, label_refusals, operand_refusals, pair_refusals, set_refusals, template_refusals}

-- Where a tree begins and what it gives; the string that it is, parentheses dropped; its refusals; and the patterns of its
-- label_replace calls, in the order of the text. A node over a wrong kind still gives what its form gives.
pub record Judgement : Type 0 where
  pub operand : Operand
  pub literal : Option Literal
  pub refusals : List QueryRefusal
  pub replacements : List Replacement

-- one node, with the judgement of each child in its place
abbrev pub Layer : Type 0
Layer = Node-F (ℕ → Judgement) Judgement

abbrev pub gives : Layer → Kind
gives (Node-F.Number value) = Scalar
gives (Node-F.Words text) = Words
gives (Node-F.Paren inner) = inner.operand.gives
gives (Node-F.Negate inner) = both inner.operand.gives inner.operand.gives
gives (Node-F.Select selector) = Vector
gives (Node-F.Range selector range) = Windows
gives (Node-F.Subquery inner range step moment) = Windows
gives (Node-F.Call f arguments) = (signature (Function f)).gives
gives (Node-F.Aggregate f grouping arguments) = (signature (Aggregation f)).gives
gives (Node-F.Pair op left right pairing) = both left.operand.gives right.operand.gives
gives (Node-F.Set op left right pairing) = Vector

-- the string that a node at a place is
abbrev pub literal : Layer → ℕ → Option Literal
literal (Node-F.Number value) at = None
literal (Node-F.Words text) at = Some (at, text)
literal (Node-F.Paren inner) at = inner.literal
literal (Node-F.Negate inner) at = None
literal (Node-F.Select selector) at = None
literal (Node-F.Range selector range) at = None
literal (Node-F.Subquery inner range step moment) at = None
literal (Node-F.Call f arguments) at = None
literal (Node-F.Aggregate f grouping arguments) at = None
literal (Node-F.Pair op left right pairing) at = None
literal (Node-F.Set op left right pairing) at = None

-- the string that the argument of a number, counted from 0, is
abbrev pub literal_at : List Judgement → ℕ → Option Literal
literal_at arguments n = option_and_then (λ (j : Judgement). j.literal) (slice_get arguments n)

-- the refusals of arguments, the first of which has this number, and of their kinds
abbrev pub arguments_refusals : Signature → ℕ → List Judgement → List QueryRefusal
arguments_refusals row n [] = []
arguments_refusals row n (j ∷ js) = (j.refusals ++ argument_refusals (argument row n) j.operand) ++ arguments_refusals row (n + 1) js

-- the refusals of what the strings of a call say: the targets and the replacement, and the label of count_values
abbrev pub strings_refusals : Callee → List Judgement → List QueryRefusal
strings_refusals (Function LabelReplace) arguments = label_refusals (literal_at arguments 1) ++ template_refusals (literal_at arguments 2)
strings_refusals (Function LabelJoin) arguments = label_refusals (literal_at arguments 1)
strings_refusals (Aggregation CountValues) arguments = label_refusals (literal_at arguments 0)
strings_refusals callee arguments = []

abbrev pub call_refusals : Callee → List Judgement → ℕ → List QueryRefusal
call_refusals callee arguments at =
    count_refusals (signature callee) (length arguments) at ++ (arguments_refusals (signature callee) 0 arguments ++ strings_refusals callee arguments)

-- the refusals of a node at a place and of all below it
abbrev pub refusals : Layer → ℕ → List QueryRefusal
refusals (Node-F.Number value) at = []
refusals (Node-F.Words text) at = []
refusals (Node-F.Paren inner) at = inner.refusals
refusals (Node-F.Negate inner) at = inner.refusals ++ operand_refusals inner.operand
refusals (Node-F.Select selector) at = []
refusals (Node-F.Range selector range) at = []
refusals (Node-F.Subquery inner range step moment) at = inner.refusals ++ argument_refusals (Some Vector) inner.operand
refusals (Node-F.Call f arguments) at = call_refusals (Function f) arguments at
refusals (Node-F.Aggregate f grouping arguments) at = call_refusals (Aggregation f) arguments at
refusals (Node-F.Pair op left right pairing) at = (left.refusals ++ right.refusals) ++ pair_refusals op pairing left.operand right.operand at
refusals (Node-F.Set op left right pairing) at = (left.refusals ++ right.refusals) ++ set_refusals pairing left.operand right.operand at

-- the pattern of a label_replace call at a place: its fifth argument, where that is a string
abbrev pub pattern_of : Func → List Judgement → ℕ → List Replacement
pattern_of LabelReplace arguments at = listed (literal_at arguments 4)
  where
    listed : Option Literal → List Replacement
    listed None = []
    listed (Some l) = record { at = at; place = l.0; text = l.1 } ∷ []
pattern_of f arguments at = []

abbrev pub all_replacements : List Judgement → List Replacement
all_replacements [] = []
all_replacements (j ∷ js) = j.replacements ++ all_replacements js

-- the patterns of a node at a place and of all below it
abbrev pub replacements : Layer → ℕ → List Replacement
replacements (Node-F.Number value) at = []
replacements (Node-F.Words text) at = []
replacements (Node-F.Paren inner) at = inner.replacements
replacements (Node-F.Negate inner) at = inner.replacements
replacements (Node-F.Select selector) at = []
replacements (Node-F.Range selector range) at = []
replacements (Node-F.Subquery inner range step moment) at = inner.replacements
replacements (Node-F.Call f arguments) at = all_replacements arguments ++ pattern_of f arguments at
replacements (Node-F.Aggregate f grouping arguments) at = all_replacements arguments
replacements (Node-F.Pair op left right pairing) at = left.replacements ++ right.replacements
replacements (Node-F.Set op left right pairing) at = left.replacements ++ right.replacements

abbrev pub node_step : Layer → ℕ → Judgement
node_step node at = record { operand = record { at = at; gives = gives node }; literal = literal node at; refusals = refusals node at; replacements = replacements node at }

abbrev pub expr_step : Expr-F (ℕ → Judgement) Judgement → Judgement
expr_step e = e.node e.at

abbrev pub judged : Expr → Judgement
judged = fold-Expr (ℕ → Judgement) Judgement node_step expr_step
