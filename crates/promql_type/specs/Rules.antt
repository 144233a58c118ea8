-- Why one node is refused: by the kinds of its operands and arguments, by their number, and by what its strings say. The
-- kinds are those of the Prometheus querying documentation, "Operators" and "Functions"; the places are this project's own.
use Rattle.std.specs.Prelude.{ℕ, Bool, ◌&&◌, ◌||◌, if◌then◌else◌, List, [], ◌∷◌, ◌++◌, Option, Some, None}
use Rattle.xfrac.specs.declared.value.PairOp.{PairOp}
use Rattle.xfrac.specs.declared.value.PairOp.TheVariants.{Arith, Filter, Flag}
use Rattle.label_set.specs.declared.rules.Pairing.{Pairing}
use Rattle.promql_ast.specs.declared.refusal.QueryRefusal.{QueryRefusal}
use Rattle.promql_ast.specs.declared.refusal.QueryRefusal.TheVariants.{BadTemplate, BadLabelName, WrongType, WrongArity, NeedsBool, SetOnScalar, RangeResult, StringResult}
use Rattle.promql_type.specs.declared.kind.Kind.{Kind}
use Rattle.promql_type.specs.declared.kind.Kind.TheVariants.{Scalar, Vector, Windows, Words}
use Rattle.promql_type.specs.declared.kind.Operand.{Operand}
use Rattle.promql_type.specs.Kinds.{is_kind, is_number, is_scalar}
use Rattle.promql_type.specs.Signatures.{Signature, is_count}
use Rattle.promql_type.specs.Templates.{is_named}

-- a refusal, where a fact holds
abbrev pub where_true : Bool → QueryRefusal → List QueryRefusal
where_true fact refusal = if fact then refusal ∷ [] else []

abbrev pub unless_true : Bool → QueryRefusal → List QueryRefusal
unless_true fact refusal = if fact then [] else refusal ∷ []

-- an operator and a sign take numbers and instant vectors
abbrev pub operand_refusals : Operand → List QueryRefusal
operand_refusals o = unless_true (is_number o.gives) (WrongType o.at)

-- an argument is of the kind that the row of the call wants there
abbrev pub argument_refusals : Option Kind → Operand → List QueryRefusal
argument_refusals None o = []
argument_refusals (Some wanted) o = unless_true (is_kind wanted o.gives) (WrongType o.at)

-- labels to match by have no place beside a number; the left one of two numbers is refused
abbrev pub matching_refusals : Pairing → Operand → Operand → List QueryRefusal
matching_refusals pairing left right = beside pairing.names
  where
    beside : List (List ℕ) → List QueryRefusal
    beside [] = []
    beside (name ∷ names) = if is_scalar left.gives then WrongType left.at ∷ [] else where_true (is_scalar right.gives) (WrongType right.at)

-- a comparison of two numbers has `bool`
abbrev pub comparison_refusals : PairOp → Operand → Operand → ℕ → List QueryRefusal
comparison_refusals (Arith op) left right at = []
comparison_refusals (Filter op) left right at = where_true (is_scalar left.gives && is_scalar right.gives) (NeedsBool at)
comparison_refusals (Flag op) left right at = []

-- an arithmetic operation or a comparison at a place
abbrev pub pair_refusals : PairOp → Pairing → Operand → Operand → ℕ → List QueryRefusal
pair_refusals op pairing left right at =
    (operand_refusals left ++ operand_refusals right) ++ (matching_refusals pairing left right ++ comparison_refusals op left right at)

-- a set operation at a place
abbrev pub set_refusals : Pairing → Operand → Operand → ℕ → List QueryRefusal
set_refusals pairing left right at =
    (operand_refusals left ++ operand_refusals right) ++ (matching_refusals pairing left right ++ where_true (is_scalar left.gives || is_scalar right.gives) (SetOnScalar at))

-- a call at a place has as many arguments as its row wants
abbrev pub count_refusals : Signature → ℕ → ℕ → List QueryRefusal
count_refusals row count at = unless_true (is_count row count) (WrongArity at)

-- a string at its place
abbrev pub Literal : Type 0
Literal = ℕ × List ℕ

-- a string that is a label's name isn't empty
abbrev pub label_refusals : Option Literal → List QueryRefusal
label_refusals None = []
label_refusals (Some (at, [])) = BadLabelName at ∷ []
label_refusals (Some (at, byte ∷ bytes)) = []

-- a replacement refers to no group by name
abbrev pub template_refusals : Option Literal → List QueryRefusal
template_refusals None = []
template_refusals (Some literal) = where_true (is_named literal.1) (BadTemplate literal.0)

-- a query's result is a number or an instant vector
abbrev pub result_refusals : Kind → List QueryRefusal
result_refusals Scalar = []
result_refusals Vector = []
result_refusals Windows = RangeResult 0 ∷ []
result_refusals Words = StringResult 0 ∷ []
