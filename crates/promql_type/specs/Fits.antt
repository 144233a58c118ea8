-- What holds of each node of a typed tree: its operands and arguments are of the kinds that the table wants there. By the
-- Prometheus querying documentation, "Operators" and "Functions".
use Rattle.std.specs.Prelude.{◌≡◌, ℕ, ◌+◌, true, List, [], ◌∷◌, length, IfSome, ⊤}
use Rattle.promql_ast.specs.declared.tree.Expr.{Expr}
use Rattle.promql_ast.specs.declared.tree.Node.{Node}
use Rattle.promql_ast.specs.declared.tree.Node.TheOpen.{Node-F}
use Rattle.promql_ast.specs.declared.tree.Node.TheViews.{out-Node}
use Rattle.promql_ast.specs.declared.tree.Node.TheFolds.{map-Node, fold-Node}
use Rattle.promql_type.specs.declared.kind.Kind.{Kind}
use Rattle.promql_type.specs.declared.kind.Kind.TheVariants.{Vector}
use Rattle.promql_type.specs.declared.signature.Callee.{Callee}
use Rattle.promql_type.specs.declared.signature.Callee.TheVariants.{Function, Aggregation}
use Rattle.promql_type.specs.Judging.{Judgement, Layer, expr_step, judged, node_step, strings_refusals}
use Rattle.promql_type.specs.Kinds.{is_number}
use Rattle.promql_type.specs.Rules.{comparison_refusals, matching_refusals}
use Rattle.promql_type.specs.Signatures.{Signature, argument, is_count, signature}

-- a part of a typed tree is one, and gives the kind that is wanted
abbrev pub FitsKind : Kind → Judgement → Type 0
FitsKind wanted j = (j.refusals ≡ []) × (j.operand.gives ≡ wanted)

-- an operand of an operator or a sign
abbrev pub FitsOperand : Judgement → Type 0
FitsOperand j = (j.refusals ≡ []) × (is_number j.operand.gives ≡ true)

-- arguments, the first of which has this number, are of the kinds that the row wants there
abbrev pub FitArguments : Signature → ℕ → List Judgement → Type 0
FitArguments row n [] = ⊤
FitArguments row n (j ∷ js) = (j.refusals ≡ []) × IfSome (argument row n) (λ wanted. j.operand.gives ≡ wanted) × FitArguments row (n + 1) js

-- there are as many arguments as the row wants, of its kinds, and their strings say what is taken
abbrev pub FitsCall : Callee → List Judgement → Type 0
FitsCall callee arguments =
    (is_count (signature callee) (length arguments) ≡ true) × FitArguments (signature callee) 0 arguments × (strings_refusals callee arguments ≡ [])

abbrev pub Fits : Layer → ℕ → Type 0
Fits (Node-F.Number value) at = ⊤
Fits (Node-F.Words text) at = ⊤
Fits (Node-F.Paren inner) at = inner.refusals ≡ []
Fits (Node-F.Negate inner) at = FitsOperand inner
Fits (Node-F.Select selector) at = ⊤
Fits (Node-F.Range selector range) at = ⊤
Fits (Node-F.Subquery inner range step moment) at = FitsKind Vector inner
Fits (Node-F.Call f arguments) at = FitsCall (Function f) arguments
Fits (Node-F.Aggregate f grouping arguments) at = FitsCall (Aggregation f) arguments
Fits (Node-F.Pair op left right pairing) at =
    FitsOperand left × FitsOperand right × (matching_refusals pairing left.operand right.operand ≡ []) × (comparison_refusals op left.operand right.operand at ≡ [])
Fits (Node-F.Set op left right pairing) at = FitsKind Vector left × FitsKind Vector right

-- the node of a tree, with the judgement of each child in its place
abbrev pub layer_of : Expr → Layer
layer_of e = map-Node Node Expr (ℕ → Judgement) Judgement (fold-Node (ℕ → Judgement) Judgement node_step expr_step) judged (out-Node e.node)

-- a tree without refusals fits at its node; so do its parts, since they are without refusals too
abbrev pub TypedTreesFit : Type 0
TypedTreesFit = (e : Expr) → (judged e).refusals ≡ [] → Fits (layer_of e) e.at
