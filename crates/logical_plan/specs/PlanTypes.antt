-- What a plan gives, and which plans are typed: each node stands over children that give what it takes. (The kinds are those of the
-- Prometheus querying documentation, "Operators" and "Functions".)
use Rattle.std.specs.Prelude.{◌≡◌, ℕ, ◌+◌, ◌==◌, bytes_eq, Bool, true, false, not, ◌&&◌, ◌||◌, List, [], ◌∷◌, ◌++◌, map, length, Option, None, Some}
use Rattle.std.specs.List.{list_all}
use Rattle.func_table.specs.declared.table.Func.TheVariants as func
use Rattle.func_table.specs.declared.table.Element.{Element as ElementFunction}
use Rattle.func_table.specs.declared.table.Element.TheVariants.{Neg}
use Rattle.func_table.specs.declared.table.Window.{Window as WindowFunction}
use Rattle.func_table.specs.declared.table.Window.TheVariants.{QuantileOver}
use Rattle.func_table.specs.declared.table.Aggregate.{Aggregate as AggregateFunction}
use Rattle.func_table.specs.declared.table.Aggregate.TheVariants.{CountValues}
use Rattle.label_set.specs.declared.rules.Pairing.{Pairing}
use Rattle.label_set.specs.declared.rules.Relabel.{Relabel as Relabelling}
use Rattle.label_set.specs.declared.rules.Relabel.TheVariants as relabel
use Rattle.promql_ast.specs.declared.refusal.QueryRefusal.{QueryRefusal}
use Rattle.promql_ast.specs.declared.tree.Expr.{Expr}
use Rattle.promql_ast.specs.declared.tree.Node.TheOpen.{Node-F}
use Rattle.promql_ast.specs.declared.tree.Node.TheViews.{out-Node}
use Rattle.promql_type.specs.Answers.{refusals_of}
use Rattle.promql_type.specs.Judging.{judged}
use Rattle.promql_type.specs.Kinds.{both, is_kind, is_number}
use Rattle.promql_type.specs.Rules.{comparison_refusals, matching_refusals}
use Rattle.promql_type.specs.Settled.{kind_of}
use Rattle.promql_type.specs.Signatures.{Signature, argument, is_count, signature}
use Rattle.promql_type.specs.Templates.{is_named}
use Rattle.promql_type.specs.declared.kind.Kind.{Kind}
use Rattle.promql_type.specs.declared.kind.Kind.TheVariants.{Scalar, Vector, Windows, Words}
use Rattle.promql_type.specs.declared.kind.Operand.{Operand}
use Rattle.promql_type.specs.declared.replace.Replacement.{Replacement}
use Rattle.promql_type.specs.declared.signature.Callee.{Callee}
use Rattle.promql_type.specs.declared.signature.Callee.TheVariants.{Function, Aggregation}
use Rattle.step_cells.specs.Owed.{is_partial}
use Rattle.step_table.specs.declared.cells.PartKind.{PartKind}
use Rattle.step_table.specs.declared.cells.PartKind.TheVariants as part
use Rattle.xfrac.specs.declared.value.PairOp.{PairOp}
use Rattle.logical_plan.specs.declared.nodes.Plan.{Plan}
use Rattle.logical_plan.specs.declared.nodes.PlanNode.TheOpen.{PlanNode-F}
use Rattle.logical_plan.specs.declared.nodes.PlanNode.TheFolds.{fold-Plan}

-- what a plan gives, a scalar, a vector or windows; of a selector, whether it is stamped; and whether each node is typed
pub record Typing : Type 0 where
  pub kind : Kind
  pub select : Option Bool
  pub typed : Bool

-- ---- what a node gives

-- minus keeps a scalar a scalar
abbrev pub element_kind : ElementFunction → Kind → Kind
element_kind Neg given = both given given
element_kind f given = Vector

-- a part that engines are asked for
abbrev pub part_gives : PartKind → Kind
part_gives part.Rows = Vector
part_gives part.Windows = Windows
part_gives (part.Partial f by) = Vector

abbrev pub node_kind : {A : Type 0} → PlanNode-F A Typing → Kind
node_kind (PlanNode-F.Number value) = Scalar
node_kind PlanNode-F.Time = Scalar
node_kind (PlanNode-F.Select rules moment stamped) = Vector
node_kind (PlanNode-F.Range rules moment range) = Windows
node_kind (PlanNode-F.Subquery inner range step moment) = Windows
node_kind (PlanNode-F.Element f inner arguments) = element_kind f inner.kind
node_kind (PlanNode-F.Stamp inner) = Vector
node_kind (PlanNode-F.Window f inner arguments) = Vector
node_kind (PlanNode-F.Absent labels inner) = Vector
node_kind (PlanNode-F.Buckets quantile inner) = Vector
node_kind (PlanNode-F.Relabel rule inner) = Vector
node_kind (PlanNode-F.Sort down inner) = Vector
node_kind (PlanNode-F.ScalarOf inner) = Scalar
node_kind (PlanNode-F.VectorOf inner) = Vector
node_kind (PlanNode-F.Group f by arguments label) = Vector
node_kind (PlanNode-F.Pair op left right pairing) = both left.kind right.kind
node_kind (PlanNode-F.Set op left right pairing) = Vector
node_kind (PlanNode-F.Filter base rules) = base.kind
node_kind (PlanNode-F.Ratio sum count) = Vector
node_kind (PlanNode-F.Once inner) = inner.kind
node_kind (PlanNode-F.Gather expr kind engines) = part_gives kind

-- ---- selectors and their stamps

abbrev pub node_select : {A : Type 0} → PlanNode-F A Typing → Option Bool
node_select (PlanNode-F.Select rules moment stamped) = Some stamped
node_select (PlanNode-F.Once inner) = inner.select
node_select _ = None

-- a selector is stamped exactly where a timestamp reads it
abbrev pub is_stamped : Option Bool → Bool
is_stamped None = true
is_stamped (Some stamped) = stamped

abbrev pub is_unstamped : Option Bool → Bool
is_unstamped None = true
is_unstamped (Some stamped) = not stamped

-- ---- children

-- a typed plan, and not a stamped selector
abbrev pub is_sound : Typing → Bool
is_sound t = t.typed && is_unstamped t.select

-- one that gives this kind
abbrev pub is_of : Kind → Typing → Bool
is_of kind t = is_sound t && is_kind kind t.kind

abbrev pub are_sound : List Typing → Bool
are_sound [] = true
are_sound (t ∷ ts) = is_sound t && are_sound ts

abbrev pub kinds_of : List Typing → List Kind
kinds_of ts = map (λ (t : Typing). t.kind) ts

-- ---- calls

abbrev pub is_argument : Option Kind → Kind → Bool
is_argument None given = false
is_argument (Some wanted) given = is_kind wanted given

-- arguments, the first of which has this number, are of the kinds that the row wants there
abbrev pub are_arguments : Signature → ℕ → List Kind → Bool
are_arguments row n [] = true
are_arguments row n (kind ∷ kinds) = is_argument (argument row n) kind && are_arguments row (n + 1) kinds

-- a function or an aggregation takes arguments of these kinds
abbrev pub takes : Callee → List Kind → Bool
takes callee kinds = is_count (signature callee) (length kinds) && are_arguments (signature callee) 0 kinds

-- minus takes a scalar or a vector alone
abbrev pub is_element : ElementFunction → Kind → List Kind → Bool
is_element Neg given [] = is_number given
is_element Neg given (kind ∷ kinds) = false
is_element f given arguments = takes (Function (func.Element f)) (given ∷ arguments)

-- the scalar of quantile_over_time stands before the windows
abbrev pub is_window : WindowFunction → Kind → List Kind → Bool
is_window QuantileOver given arguments = takes (Function (func.Window QuantileOver)) (arguments ++ given ∷ [])
is_window f given arguments = takes (Function (func.Window f)) (given ∷ arguments)

abbrev pub is_filled : List ℕ → Bool
is_filled [] = false
is_filled (byte ∷ text) = true

-- the label of count_values, which is its first argument, isn't empty
abbrev pub is_group : AggregateFunction → List Kind → List ℕ → Bool
is_group CountValues arguments label = is_filled label && takes (Aggregation CountValues) (Words ∷ arguments)
is_group f arguments label = takes (Aggregation f) arguments

-- a label that is set isn't empty, and a replacement refers to no group by name; a node is no filter of rules
abbrev pub is_relabel : Relabelling → Bool
is_relabel (relabel.Replace target template source pattern) = is_filled target && not (is_named template)
is_relabel (relabel.Join target separator sources) = is_filled target
is_relabel (relabel.Filter rules) = false

-- ---- operators

abbrev pub has_none : List QueryRefusal → Bool
has_none [] = true
has_none (refusal ∷ refusals) = false

-- an operand of a kind; whether it is refused doesn't depend on its place
abbrev pub operand_of : Kind → Operand
operand_of kind = record { at = 0; gives = kind }

-- labels to match by stand between vectors alone, and a comparison of two numbers has `bool`
abbrev pub is_pair : PairOp → Pairing → Kind → Kind → Bool
is_pair op pairing left right =
    is_number left && is_number right && has_none (matching_refusals pairing (operand_of left) (operand_of right))
    && has_none (comparison_refusals op (operand_of left) (operand_of right) 0)

-- ---- parts that engines are asked for

abbrev pub is_range : {A B : Type 0} → Node-F A B → Bool
is_range (Node-F.Range selector range) = true
is_range y = false

-- label_replace calls at one place have one text
abbrev pub agree : Replacement → Replacement → Bool
agree a b = not (a.at == b.at) || bytes_eq a.text b.text

abbrev pub all_agree : List Replacement → Bool
all_agree calls = list_all (λ (call : Replacement). list_all (agree call) calls) calls

-- an expression that isn't refused, and gives a vector
abbrev pub is_vector : Expr → Bool
is_vector expr = has_none (refusals_of expr) && is_kind Vector (kind_of expr) && all_agree (judged expr).replacements

-- windows are those of a range selector, rows those of a vector, and engines group a vector by the aggregations that they know
abbrev pub is_part : PartKind → Expr → Bool
is_part part.Rows expr = is_vector expr
is_part part.Windows expr = is_range (out-Node expr.node)
is_part (part.Partial f by) expr = is_partial f && is_vector expr

-- ---- typed plans

abbrev pub node_typed : {A : Type 0} → PlanNode-F A Typing → Bool
node_typed (PlanNode-F.Number value) = true
node_typed PlanNode-F.Time = true
node_typed (PlanNode-F.Select rules moment stamped) = true
node_typed (PlanNode-F.Range rules moment range) = true
node_typed (PlanNode-F.Subquery inner range step moment) = is_of Vector inner
node_typed (PlanNode-F.Element f inner arguments) = is_sound inner && are_sound arguments && is_element f inner.kind (kinds_of arguments)
node_typed (PlanNode-F.Stamp inner) = inner.typed && is_stamped inner.select && is_kind Vector inner.kind
node_typed (PlanNode-F.Window f inner arguments) = is_sound inner && are_sound arguments && is_window f inner.kind (kinds_of arguments)
node_typed (PlanNode-F.Absent labels inner) = is_of Vector inner
node_typed (PlanNode-F.Buckets quantile inner) = is_of Scalar quantile && is_of Vector inner
node_typed (PlanNode-F.Relabel rule inner) = is_relabel rule && is_of Vector inner
node_typed (PlanNode-F.Sort down inner) = is_of Vector inner
node_typed (PlanNode-F.ScalarOf inner) = is_of Vector inner
node_typed (PlanNode-F.VectorOf inner) = is_of Scalar inner
node_typed (PlanNode-F.Group f by arguments label) = are_sound arguments && is_group f (kinds_of arguments) label
node_typed (PlanNode-F.Pair op left right pairing) = is_sound left && is_sound right && is_pair op pairing left.kind right.kind
node_typed (PlanNode-F.Set op left right pairing) = is_of Vector left && is_of Vector right
node_typed (PlanNode-F.Filter base rules) = is_sound base && (is_kind Vector base.kind || is_kind Windows base.kind)
node_typed (PlanNode-F.Ratio sum count) = is_of Vector sum && is_of Vector count
node_typed (PlanNode-F.Once inner) = inner.typed
node_typed (PlanNode-F.Gather expr kind engines) = is_part kind expr

-- a Once node is what stands under it
abbrev pub node_typing : {A : Type 0} → PlanNode-F A Typing → Typing
node_typing y = record { kind = node_kind y; select = node_select y; typed = node_typed y }

abbrev pub typing : Plan → Typing
typing = fold-Plan Typing Typing node_typing (λ p. p.node)

-- each node of a plan is typed, and it is not a stamped selector itself
abbrev pub IsTyped : Plan → Type 0
IsTyped p = is_sound (typing p) ≡ true
