-- The plan of a typed tree is typed, and its label_replace calls are those whose patterns were kept.
use Rattle.std.proofs.Common.{◌≡◌, ◌∙◌, ℕ, ◌+◌, List, [], ◌∷◌, ◌++◌, map, drop, length, ap, ap₂, sym, refl, subst, Bool, true, false, true≢false, arith}
use Rattle.std.proofs.lemmas.Bool.{eqb-true, false≢true, ne_eqb}
use Rattle.std.specs.Prelude.{not, ◌&&◌, ◌||◌, ◌==◌, if◌then◌else◌, slice_get, Option, Some, None, ⊤}
use Rattle.func_table.specs.declared.table.Element.{Element as ElementFunction}
use Rattle.func_table.specs.declared.table.Element.TheVariants as element
use Rattle.func_table.specs.declared.table.Window.{Window as WindowFunction}
use Rattle.func_table.specs.declared.table.Window.TheVariants as window
use Rattle.func_table.specs.declared.table.Func.{Func}
use Rattle.func_table.specs.declared.table.Func.TheVariants as func
use Rattle.func_table.specs.declared.table.Aggregate.{Aggregate as AggregateFunction}
use Rattle.func_table.specs.declared.table.Aggregate.TheVariants as aggregate
use Rattle.label_set.specs.declared.rules.Grouping.{Grouping}
use Rattle.label_set.specs.declared.rules.Pairing.{Pairing}
use Rattle.label_set.specs.declared.rules.Relabel.{Relabel as Relabelling}
use Rattle.promql_ast.specs.declared.refusal.QueryRefusal.{QueryRefusal}
use Rattle.promql_ast.specs.declared.tree.Expr.{Expr}
use Rattle.promql_ast.specs.declared.tree.Node.{Node}
use Rattle.promql_ast.specs.declared.tree.Selector.{Selector}
use Rattle.promql_ast.specs.declared.tree.Node.TheOpen.{Node-F}
use Rattle.promql_ast.specs.declared.tree.Node.TheViews.{out-roll-Node, roll-Node, roll-Expr}
use Rattle.promql_ast.specs.declared.tree.Node.TheFolds.{map-Node, fold-Node, fold-roll-Node, fold-roll-Expr, ind-Expr}
use Rattle.promql_meaning.specs.Results.{call_gives_scalar}
use Rattle.promql_type.specs.Fits.{FitArguments, Fits, FitsCall, TypedTreesFit}
use Rattle.promql_type.specs.Judging.{Judgement, all_replacements, expr_step, judged, node_step, pattern_of}
use Rattle.promql_type.specs.Kinds.{both, is_kind, is_number, is_scalar}
use Rattle.promql_type.specs.Rules.{Literal, comparison_refusals, label_refusals, matching_refusals, template_refusals, where_true}
use Rattle.promql_type.specs.Signatures.{Signature, from, is_count, signature}
use Rattle.promql_type.specs.Templates.{is_named}
use Rattle.promql_type.specs.declared.kind.Kind.{Kind}
use Rattle.promql_type.specs.declared.kind.Kind.TheVariants.{Scalar, Vector, Windows, Words}
use Rattle.promql_type.specs.declared.kind.Operand.{Operand}
use Rattle.promql_type.specs.declared.replace.Placed.{Placed}
use Rattle.promql_type.specs.declared.replace.Replacement.{Replacement}
use Rattle.promql_type.specs.declared.signature.Callee.TheVariants.{Function, Aggregation}
use Rattle.xfrac.specs.declared.value.PairOp.{PairOp}
use Rattle.xfrac.specs.declared.value.PairOp.TheVariants as pair
use Rattle.promql_meaning.specs.Meaning.{zero_number}
use Rattle.logical_plan.specs.declared.nodes.Plan.{Plan}
use Rattle.logical_plan.specs.declared.nodes.PlanNode.{PlanNode}
use Rattle.logical_plan.specs.declared.nodes.PlanNode.TheVariants as node
use Rattle.logical_plan.specs.Lowering.{Low, Replacing, absent_over_node, all_calls, call_node, group_node, low, low_node, lowered, minus_node, nothing_node, own_call, plan_at, planned, plans_of, stamp_node, windows_or}
use Rattle.logical_plan.specs.PlanFolds.{of-Number, of-Time, of-Select, of-Range, of-Subquery, of-Element, of-Stamp, of-Window, of-Absent, of-Buckets, of-Relabel, of-Sort, of-ScalarOf, of-VectorOf, of-Group, of-Pair, of-Set}
use Rattle.logical_plan.specs.PlanTypes.{IsTyped, Typing, are_sound, element_kind, has_none, is_element, is_filled, is_group, is_of, is_pair, is_relabel, is_sound, is_stamped, is_window, kinds_of, node_typing, operand_of, typing}
use Rattle.logical_plan.proofs.Fronts.{back_none, both_true, front_none}

-- ---- truths

three_true : (a b c : Bool) → a ≡ true → b ≡ true → c ≡ true → (a && b && c) ≡ true
three_true a b c h i j = both_true (a && b) c (both_true a b h i) j

four_true : (a b c d : Bool) → a ≡ true → b ≡ true → c ≡ true → d ≡ true → (a && b && c && d) ≡ true
four_true a b c d h i j k = both_true (a && b && c) d (three_true a b c h i j) k

first_true : (a b : Bool) → (a && b) ≡ true → a ≡ true
first_true true b h = refl
first_true false b h = h

same_kind : (k : Kind) → is_kind k k ≡ true
same_kind Scalar = refl
same_kind Vector = refl
same_kind Windows = refl
same_kind Words = refl

number_both : (a b : Kind) → is_number (both a b) ≡ true
number_both Scalar Scalar = refl
number_both Scalar Vector = refl
number_both Scalar Windows = refl
number_both Scalar Words = refl
number_both Vector b = refl
number_both Windows b = refl
number_both Words b = refl

scalar_both : (a b : Kind) → (is_scalar a && is_scalar b) ≡ is_scalar (both a b)
scalar_both Scalar Scalar = refl
scalar_both Scalar Vector = refl
scalar_both Scalar Windows = refl
scalar_both Scalar Words = refl
scalar_both Vector b = refl
scalar_both Windows b = refl
scalar_both Words b = refl

scalar_itself : (a : Kind) → is_scalar a ≡ is_scalar (both a a)
scalar_itself Scalar = refl
scalar_itself Vector = refl
scalar_itself Windows = refl
scalar_itself Words = refl

-- ---- what is known of plans

-- a plan that is no selector gives this kind, and each node of it is typed
abbrev known : Kind → Typing
known kind = record { kind = kind; select = None; typed = true }

abbrev IsKnown : Plan → Kind → Type 0
IsKnown p kind = typing p ≡ known kind

-- a typed plan, and not a stamped selector, gives this kind
abbrev IsChild : Plan → Kind → Type 0
IsChild p kind = (is_sound (typing p) ≡ true) × ((typing p).kind ≡ kind)

abbrev AreChildren : List Plan → List Kind → Type 0
AreChildren [] [] = ⊤
AreChildren [] (kind ∷ kinds) = ⊥
AreChildren (p ∷ ps) [] = ⊥
AreChildren (p ∷ ps) (kind ∷ kinds) = IsChild p kind × AreChildren ps kinds

known_child : (p : Plan) (kind : Kind) → IsKnown p kind → IsChild p kind
known_child p kind is = (ap is_sound is, ap (λ (t : Typing). t.kind) is)

of_child : (p : Plan) (kind : Kind) → IsChild p kind → is_of kind (typing p) ≡ true
of_child p kind c = both_true (is_sound (typing p)) _ c.0 (ap (is_kind kind) c.1 ∙ same_kind kind)

sound_children : (ps : List Plan) (kinds : List Kind) → AreChildren ps kinds → are_sound (map typing ps) ≡ true
sound_children [] [] cs = refl
sound_children [] (kind ∷ kinds) cs = absurd cs
sound_children (p ∷ ps) [] cs = absurd cs
sound_children (p ∷ ps) (kind ∷ kinds) cs = both_true (is_sound (typing p)) _ cs.0.0 (sound_children ps kinds cs.1)

kinds_are : (ps : List Plan) (kinds : List Kind) → AreChildren ps kinds → kinds_of (map typing ps) ≡ kinds
kinds_are [] [] cs = refl
kinds_are [] (kind ∷ kinds) cs = absurd cs
kinds_are (p ∷ ps) [] cs = absurd cs
kinds_are (p ∷ ps) (kind ∷ kinds) cs = ap₂ (λ x xs. x ∷ xs) cs.0.1 (kinds_are ps kinds cs.1)

-- ---- typed nodes

abbrev with_typed : Kind → Bool → Typing
with_typed kind typed = record { kind = kind; select = None; typed = typed }

number_known : (at : ℕ) (v : _) → IsKnown (planned at (node.Number v)) Scalar
number_known at v = of-Number node_typing (λ p. p.node) at v

time_known : (at : ℕ) → IsKnown (planned at node.Time) Scalar
time_known at = of-Time node_typing (λ p. p.node) at

subquery_known : (at : ℕ) (p : Plan) (range step : _) (moment : _) → IsChild p Vector → IsKnown (planned at (node.Subquery p range step moment)) Windows
subquery_known at p range step moment c = of-Subquery node_typing (λ p. p.node) at p range step moment ∙ ap (with_typed Windows) (of_child p Vector c)

element_known : (f : ElementFunction) (at : ℕ) (p : Plan) (ps : List Plan) (kind : Kind) (kinds : List Kind) → IsChild p kind → AreChildren ps kinds → is_element f kind kinds ≡ true
    → IsKnown (planned at (node.Element f p ps)) (element_kind f kind)
element_known f at p ps kind kinds c cs is =
    of-Element node_typing (λ p. p.node) at f p ps
    ∙ ap₂ with_typed (ap (element_kind f) c.1)
    (three_true (is_sound (typing p)) (are_sound (map typing ps)) _ c.0 (sound_children ps kinds cs) (ap₂ (is_element f) c.1 (kinds_are ps kinds cs) ∙ is))

stamp_known : (at : ℕ) (p : Plan) → (typing p).typed ≡ true → is_stamped (typing p).select ≡ true → (typing p).kind ≡ Vector → IsKnown (planned at (node.Stamp p)) Vector
stamp_known at p typed stamped is =
    of-Stamp node_typing (λ p. p.node) at p
    ∙ ap (with_typed Vector) (three_true (typing p).typed (is_stamped (typing p).select) _ typed stamped (ap (is_kind Vector) is))

window_known : (f : WindowFunction) (at : ℕ) (p : Plan) (ps : List Plan) (kind : Kind) (kinds : List Kind) → IsChild p kind → AreChildren ps kinds → is_window f kind kinds ≡ true
    → IsKnown (planned at (node.Window f p ps)) Vector
window_known f at p ps kind kinds c cs is =
    of-Window node_typing (λ p. p.node) at f p ps
    ∙ ap (with_typed Vector)
    (three_true (is_sound (typing p)) (are_sound (map typing ps)) _ c.0 (sound_children ps kinds cs) (ap₂ (is_window f) c.1 (kinds_are ps kinds cs) ∙ is))

absent_known : (at : ℕ) (labels : _) (p : Plan) → IsChild p Vector → IsKnown (planned at (node.Absent labels p)) Vector
absent_known at labels p c = of-Absent node_typing (λ p. p.node) at labels p ∙ ap (with_typed Vector) (of_child p Vector c)

buckets_known : (at : ℕ) (q p : Plan) → IsChild q Scalar → IsChild p Vector → IsKnown (planned at (node.Buckets q p)) Vector
buckets_known at q p cq cp =
    of-Buckets node_typing (λ p. p.node) at q p ∙ ap (with_typed Vector) (both_true (is_of Scalar (typing q)) _ (of_child q Scalar cq) (of_child p Vector cp))

relabel_known : (at : ℕ) (rule : Relabelling) (p : Plan) → is_relabel rule ≡ true → IsChild p Vector → IsKnown (planned at (node.Relabel rule p)) Vector
relabel_known at rule p is c =
    of-Relabel node_typing (λ p. p.node) at rule p ∙ ap (with_typed Vector) (both_true (is_relabel rule) _ is (of_child p Vector c))

sort_known : (at : ℕ) (down : Bool) (p : Plan) → IsChild p Vector → IsKnown (planned at (node.Sort down p)) Vector
sort_known at down p c = of-Sort node_typing (λ p. p.node) at down p ∙ ap (with_typed Vector) (of_child p Vector c)

scalar_known : (at : ℕ) (p : Plan) → IsChild p Vector → IsKnown (planned at (node.ScalarOf p)) Scalar
scalar_known at p c = of-ScalarOf node_typing (λ p. p.node) at p ∙ ap (with_typed Scalar) (of_child p Vector c)

vector_known : (at : ℕ) (p : Plan) → IsChild p Scalar → IsKnown (planned at (node.VectorOf p)) Vector
vector_known at p c = of-VectorOf node_typing (λ p. p.node) at p ∙ ap (with_typed Vector) (of_child p Scalar c)

group_known : (f : AggregateFunction) (by : Grouping) (at : ℕ) (ps : List Plan) (label : List ℕ) (kinds : List Kind) → AreChildren ps kinds → is_group f kinds label ≡ true
    → IsKnown (planned at (node.Group f by ps label)) Vector
group_known f by at ps label kinds cs is =
    of-Group node_typing (λ p. p.node) at f by ps label
    ∙ ap (with_typed Vector) (both_true (are_sound (map typing ps)) _ (sound_children ps kinds cs) (ap (λ ks. is_group f ks label) (kinds_are ps kinds cs) ∙ is))

pair_known : (op : PairOp) (pairing : Pairing) (at : ℕ) (l r : Plan) (a b : Kind) → IsChild l a → IsChild r b → is_pair op pairing a b ≡ true
    → IsKnown (planned at (node.Pair op l r pairing)) (both a b)
pair_known op pairing at l r a b cl cr is =
    of-Pair node_typing (λ p. p.node) at op l r pairing
    ∙ ap₂ with_typed (ap₂ both cl.1 cr.1) (three_true (is_sound (typing l)) (is_sound (typing r)) _ cl.0 cr.0 (ap₂ (is_pair op pairing) cl.1 cr.1 ∙ is))

set_known : (op : _) (pairing : Pairing) (at : ℕ) (l r : Plan) → IsChild l Vector → IsChild r Vector → IsKnown (planned at (node.Set op l r pairing)) Vector
set_known op pairing at l r cl cr =
    of-Set node_typing (λ p. p.node) at op l r pairing ∙ ap (with_typed Vector) (both_true (is_of Vector (typing l)) _ (of_child l Vector cl) (of_child r Vector cr))

nothing_known : (at : ℕ) → IsKnown (planned at (nothing_node at)) Vector
nothing_known at =
    group_known aggregate.TopK (record { without = false; names = [] }) at _ [] (Scalar ∷ Vector ∷ [])
    (known_child _ Scalar (number_known at zero_number), (known_child _ Vector (vector_known at _ (known_child _ Scalar (number_known at zero_number))), record {})) refl

-- ---- refusals that don't depend on places

by_bools : (a b : Bool) (x y u v : QueryRefusal) → (if a then x ∷ [] else where_true b y) ≡ [] → has_none (if a then u ∷ [] else where_true b v) ≡ true
by_bools true b x y u v is = absurd (omega (arith, ap length is))
by_bools false true x y u v is = absurd (omega (arith, ap length is))
by_bools false false x y u v is = refl

by_bool : (a : Bool) (x u : QueryRefusal) → where_true a x ≡ [] → has_none (where_true a u) ≡ true
by_bool true x u is = absurd (omega (arith, ap length is))
by_bool false x u is = refl

by_names : (p : Pairing) (names : List (List ℕ)) (l r : Operand) → matching_refusals (record p { names = names }) l r ≡ []
    → has_none (matching_refusals (record p { names = names }) (operand_of l.gives) (operand_of r.gives)) ≡ true
by_names p [] l r is = refl
by_names p (name ∷ names) l r is = by_bools (is_scalar l.gives) (is_scalar r.gives) _ _ _ _ is

compared : (op : PairOp) (l r : Operand) (at : ℕ) → comparison_refusals op l r at ≡ [] → has_none (comparison_refusals op (operand_of l.gives) (operand_of r.gives) 0) ≡ true
compared (pair.Arith op) l r at is = refl
compared (pair.Filter op) l r at is = by_bool (is_scalar l.gives && is_scalar r.gives) _ _ is
compared (pair.Flag op) l r at is = refl

paired : (op : PairOp) (p : Pairing) (l r : Operand) (at : ℕ) → is_number l.gives ≡ true → is_number r.gives ≡ true → matching_refusals p l r ≡ [] → comparison_refusals op l r at ≡ []
    → is_pair op p l.gives r.gives ≡ true
paired op p l r at hl hr matching comparison =
    four_true (is_number l.gives) (is_number r.gives) _ _ hl hr (by_names p p.names l r matching) (compared op l r at comparison)

-- ---- what calls give

pub call_kind : (f : Func) → (call_gives_scalar f ≡ is_scalar (signature (Function f)).gives) × (is_number (signature (Function f)).gives ≡ true)
call_kind (func.Element f) = of_element f
  where
    of_element : (f : ElementFunction) → (false ≡ is_scalar (signature (Function (func.Element f))).gives) × (is_number (signature (Function (func.Element f))).gives ≡ true)
    of_element element.Abs = (refl, refl)
    of_element element.Ceil = (refl, refl)
    of_element element.Floor = (refl, refl)
    of_element element.Round = (refl, refl)
    of_element element.Sgn = (refl, refl)
    of_element element.Neg = (refl, refl)
    of_element element.Clamp = (refl, refl)
    of_element element.ClampMin = (refl, refl)
    of_element element.ClampMax = (refl, refl)
    of_element (element.Calendar part) = (refl, refl)
call_kind (func.Window f) = of_window f
  where
    of_window : (f : WindowFunction) → (false ≡ is_scalar (signature (Function (func.Window f))).gives) × (is_number (signature (Function (func.Window f))).gives ≡ true)
    of_window window.Rate = (refl, refl)
    of_window window.Increase = (refl, refl)
    of_window window.Delta = (refl, refl)
    of_window window.Irate = (refl, refl)
    of_window window.Idelta = (refl, refl)
    of_window window.Deriv = (refl, refl)
    of_window window.PredictLinear = (refl, refl)
    of_window window.Changes = (refl, refl)
    of_window window.Resets = (refl, refl)
    of_window window.AvgOver = (refl, refl)
    of_window window.MinOver = (refl, refl)
    of_window window.MaxOver = (refl, refl)
    of_window window.SumOver = (refl, refl)
    of_window window.CountOver = (refl, refl)
    of_window window.StdvarOver = (refl, refl)
    of_window window.QuantileOver = (refl, refl)
    of_window window.LastOver = (refl, refl)
    of_window window.PresentOver = (refl, refl)
call_kind func.Absent = (refl, refl)
call_kind func.AbsentOver = (refl, refl)
call_kind func.HistogramQuantile = (refl, refl)
call_kind func.LabelJoin = (refl, refl)
call_kind func.LabelReplace = (refl, refl)
call_kind func.Scalar = (refl, refl)
call_kind func.Sort = (refl, refl)
call_kind func.SortDesc = (refl, refl)
call_kind func.Time = (refl, refl)
call_kind func.Timestamp = (refl, refl)
call_kind func.Vector = (refl, refl)

group_kind : (f : AggregateFunction) → (signature (Aggregation f)).gives ≡ Vector
group_kind aggregate.Sum = refl
group_kind aggregate.Avg = refl
group_kind aggregate.Min = refl
group_kind aggregate.Max = refl
group_kind aggregate.Count = refl
group_kind aggregate.Group = refl
group_kind aggregate.Stdvar = refl
group_kind aggregate.TopK = refl
group_kind aggregate.BottomK = refl
group_kind aggregate.Quantile = refl
group_kind aggregate.CountValues = refl

-- ---- trees

-- a tree that is a string has no rows
abbrev plan_kind : Kind → Kind
plan_kind Scalar = Scalar
plan_kind Vector = Vector
plan_kind Windows = Windows
plan_kind Words = Vector

number_kind : (k : Kind) → is_number k ≡ true → plan_kind k ≡ k
number_kind Scalar is = refl
number_kind Vector is = refl
number_kind Windows is = absurd (cc)
number_kind Words is = absurd (cc)

not_words : (k : Kind) → is_number k ≡ true → k ≡ Words → ⊥
not_words k is same = absurd (true≢false (sym is ∙ ap is_number same))

pub not_windows : (k : Kind) → is_number k ≡ true → k ≡ Windows → ⊥
not_windows k is same = absurd (true≢false (sym is ∙ ap is_number same))

record IsString (literal : Option Literal) (words : List ℕ) : Type 0 where
  place : ℕ
  is : literal ≡ Some (place, words)

-- what is known of a tree besides its plan
record IsTold (l : Low) (j : Judgement) : Type 0 where
  scalar : l.scalar ≡ is_scalar j.operand.gives
  windows : j.operand.gives ≡ Windows → l.windows ≡ true
  string : j.operand.gives ≡ Words → IsString j.literal l.words

number_told : (l : Low) (j : Judgement) → l.scalar ≡ is_scalar j.operand.gives → is_number j.operand.gives ≡ true → IsTold l j
number_told l j scalar number = record {
  scalar = scalar;
  windows = λ is. absurd (not_windows j.operand.gives number is);
  string = λ is. absurd (not_words j.operand.gives number is);
}

filled_words : (place : ℕ) (words : List ℕ) → label_refusals (Some (place, words)) ≡ [] → is_filled words ≡ true
filled_words place [] is = absurd (omega (arith, ap length is))
filled_words place (byte ∷ words) is = refl

filled : (o : Option Literal) (words : List ℕ) → IsString o words → label_refusals o ≡ [] → is_filled words ≡ true
filled o words string is = filled_words string.place words (ap label_refusals (sym string.is) ∙ is)

unnamed_words : (b : Bool) (x : QueryRefusal) → where_true b x ≡ [] → not b ≡ true
unnamed_words true x is = absurd (omega (arith, ap length is))
unnamed_words false x is = refl

unnamed : (o : Option Literal) (words : List ℕ) → IsString o words → template_refusals o ≡ [] → not (is_named words) ≡ true
unnamed o words string is = unnamed_words (is_named words) _ (ap template_refusals (sym string.is) ∙ is)

-- ---- more arguments than are taken

over_one : (a b : Judgement) (js : List Judgement) → (length (a ∷ b ∷ js) == 1) ≡ true → ⊥
over_one a b js is = omega (arith, eqb-true (length (a ∷ b ∷ js)) 1 is)

over_two : (a b c : Judgement) (js : List Judgement) → (length (a ∷ b ∷ c ∷ js) == 2) ≡ true → ⊥
over_two a b c js is = omega (arith, eqb-true (length (a ∷ b ∷ c ∷ js)) 2 is)

over_three : (a b c d : Judgement) (js : List Judgement) → (length (a ∷ b ∷ c ∷ d ∷ js) == 3) ≡ true → ⊥
over_three a b c d js is = omega (arith, eqb-true (length (a ∷ b ∷ c ∷ d ∷ js)) 3 is)

over_five : (a b c d e f : Judgement) (js : List Judgement) → (length (a ∷ b ∷ c ∷ d ∷ e ∷ f ∷ js) == 5) ≡ true → ⊥
over_five a b c d e f js is = omega (arith, eqb-true (length (a ∷ b ∷ c ∷ d ∷ e ∷ f ∷ js)) 5 is)

neither : (a b : Bool) → a ≡ false → b ≡ false → (a || b) ≡ true → ⊥
neither false false h i is = absurd (false≢true is)
neither true b h i is = absurd (true≢false h)
neither false true h i is = absurd (true≢false i)

over_none_or_one : (a b : Judgement) (js : List Judgement) → (length (a ∷ b ∷ js) == 0 || length (a ∷ b ∷ js) == 1) ≡ true → ⊥
over_none_or_one a b js is =
    neither (length (a ∷ b ∷ js) == 0) (length (a ∷ b ∷ js) == 1) (ne_eqb (length (a ∷ b ∷ js)) 0 (λ e. omega (arith, e))) (ne_eqb (length (a ∷ b ∷ js)) 1 (λ e. omega (arith, e))) is

over_one_or_two : (a b c : Judgement) (js : List Judgement) → (length (a ∷ b ∷ c ∷ js) == 1 || length (a ∷ b ∷ c ∷ js) == 2) ≡ true → ⊥
over_one_or_two a b c js is =
    neither (length (a ∷ b ∷ c ∷ js) == 1) (length (a ∷ b ∷ c ∷ js) == 2) (ne_eqb (length (a ∷ b ∷ c ∷ js)) 1 (λ e. omega (arith, e))) (ne_eqb (length (a ∷ b ∷ c ∷ js)) 2 (λ e. omega (arith, e))) is

-- ---- label_replace calls

append_map : {A B : Type 0} (f : A → B) (xs ys : List A) → map f (xs ++ ys) ≡ map f xs ++ map f ys
append_map f [] ys = refl
append_map f (x ∷ xs) ys = ap (λ zs. f x ∷ zs) (append_map f xs ys)

-- the call whose pattern is kept
abbrev pub replacing : Replacement → Replacing
replacing r = record { at = r.at; text = r.text }

own_replacing : (at : ℕ) (a b c d j : Judgement) (words : List ℕ) → IsString j.literal words
    → record { at = at; text = words } ∷ [] ≡ map replacing (pattern_of func.LabelReplace (a ∷ b ∷ c ∷ d ∷ j ∷ []) at)
own_replacing at a b c d j words string =
    sym (ap (λ (o : Option Literal). map replacing (pattern_of func.LabelReplace (a ∷ b ∷ c ∷ d ∷ record j { literal = o } ∷ []) at)) string.is)

-- ---- nodes that fit

abbrev At : Type 0
At = ℕ → Judgement

abbrev node_judged : Node → At
node_judged = fold-Node At Judgement node_step expr_step

-- a node without refusals fits
pub fits_of : TypedTreesFit → (z : Node-F Node Expr) (at : ℕ) → (node_step (map-Node Node Expr At Judgement node_judged judged z) at).refusals ≡ []
    → Fits (map-Node Node Expr At Judgement node_judged judged z) at
fits_of fit z at none =
    subst (λ x. Fits (map-Node Node Expr At Judgement node_judged judged x) at) (out-roll-Node z)
    (fit (roll-Expr (record { at = at; node = roll-Node z }))
    (ap (λ (j : Judgement). j.refusals)
    (fold-roll-Expr At Judgement node_step expr_step (record { at = at; node = roll-Node z })
    ∙ ap (λ (f : At). f at) (fold-roll-Node At Judgement node_step expr_step z)) ∙ none))

module _ (fit : TypedTreesFit) (placed : List Placed) where
  -- the plan of a tree without refusals
  record IsGood (l : Low) (j : Judgement) : Type 0 where
    child : IsChild (l.plan placed) (plan_kind j.operand.gives)
    unselected : l.selects ≡ None → (typing (l.plan placed)).select ≡ None
    calls : l.calls ≡ map replacing j.replacements

  record IsLow (l : Low) (j : Judgement) : Type 0 where
    told : IsTold l j
    good : j.refusals ≡ [] → IsGood l j

  abbrev IsKept : Expr → Type 0
  IsKept e = IsLow (low e) (judged e)

  abbrev Kept : Type 0
  Kept = (e : Expr) × IsKept e

  abbrev low_in : Node → ℕ → Low
  low_in = fold-Node (ℕ → Low) Low low_node (λ e. e.node e.at)

  abbrev IsKeptNode : Node → Type 0
  IsKeptNode n = (at : ℕ) → IsLow (low_in n at) (node_judged n at)

  abbrev lows : List Kept → List Low
  lows items = map low (map (λ e. e.0) items)

  abbrev judgements : List Kept → List Judgement
  judgements items = map judged (map (λ e. e.0) items)

  -- a tree that is no selector
  known_good : (l : Low) (j : Judgement) (kind : Kind) → IsKnown (l.plan placed) kind → kind ≡ plan_kind j.operand.gives → l.calls ≡ map replacing j.replacements → IsGood l j
  known_good l j kind is same calls =
      record { child = (ap is_sound is, ap (λ (t : Typing). t.kind) is ∙ same); unselected = λ none. ap (λ (t : Typing). t.select) is; calls = calls }

  child : (e : Kept) (kind : Kind) → (judged e.0).refusals ≡ [] → (judged e.0).operand.gives ≡ kind → IsChild ((low e.0).plan placed) (plan_kind kind)
  child e kind none is = subst (λ k. IsChild ((low e.0).plan placed) (plan_kind k)) is (e.1.good none).child

  -- ---- calls by what they take

  abbrev IsNode : PlanNode → ℕ → Kind → Type 0
  IsNode n at kind = IsKnown (planned at n) kind

  one : (k g : Kind) (at : ℕ) (items : List Kept) → is_count (from (k ∷ []) g) (length (judgements items)) ≡ true → FitArguments (from (k ∷ []) g) 0 (judgements items)
      → IsChild (plan_at at placed (lows items) 0) (plan_kind k) × AreChildren (plans_of placed (drop 1 (lows items))) []
  one k g at [] count fits = absurd (false≢true count)
  one k g at (e ∷ []) count fits = (child e k fits.0 fits.1, record {})
  one k g at (d ∷ e ∷ es) count fits = absurd (over_one (judged d.0) (judged e.0) (judgements es) count)

  record AreTwo (a b : Kind) (at : ℕ) (items : List Kept) : Type 0 where
    left : IsChild (plan_at at placed (lows items) 0) (plan_kind a)
    right : IsChild (plan_at at placed (lows items) 1) (plan_kind b)
    rest : AreChildren (plans_of placed (drop 1 (lows items))) (plan_kind b ∷ [])
    all : AreChildren (plans_of placed (lows items)) (plan_kind a ∷ plan_kind b ∷ [])

  two : (a b g : Kind) (at : ℕ) (items : List Kept) → is_count (from (a ∷ b ∷ []) g) (length (judgements items)) ≡ true
      → FitArguments (from (a ∷ b ∷ []) g) 0 (judgements items) → AreTwo a b at items
  two a b g at [] count fits = absurd (false≢true count)
  two a b g at (d ∷ []) count fits = absurd (false≢true count)
  two a b g at (d ∷ e ∷ []) count fits =
      let left = child d a fits.0 fits.1 in
      let right = child e b fits.2.0 fits.2.1 in
      record { left = left; right = right; rest = (right, record {}); all = (left, (right, record {})) }
  two a b g at (c ∷ d ∷ e ∷ es) count fits = absurd (over_two (judged c.0) (judged d.0) (judged e.0) (judgements es) count)

  abbrev CallIs : Func → ℕ → List Kept → Type 0
  CallIs f at items = FitsCall (Function f) (judgements items) → IsNode (call_node f at (lows items) placed) at (plan_kind (signature (Function f)).gives)

  one_element : (f : ElementFunction) (at : ℕ) (items : List Kept) → is_count (from (Vector ∷ []) Vector) (length (judgements items)) ≡ true
      → FitArguments (from (Vector ∷ []) Vector) 0 (judgements items) → element_kind f Vector ≡ Vector → is_element f Vector [] ≡ true
      → IsNode (node.Element f (plan_at at placed (lows items) 0) (plans_of placed (drop 1 (lows items)))) at Vector
  one_element f at items count fits gives is =
      let a = one Vector Vector at items count fits in
      element_known f at _ _ Vector [] a.0 a.1 is ∙ ap known gives

  two_element : (f : ElementFunction) (at : ℕ) (items : List Kept) → is_count (from (Vector ∷ Scalar ∷ []) Vector) (length (judgements items)) ≡ true
      → FitArguments (from (Vector ∷ Scalar ∷ []) Vector) 0 (judgements items) → element_kind f Vector ≡ Vector → is_element f Vector (Scalar ∷ []) ≡ true
      → IsNode (node.Element f (plan_at at placed (lows items) 0) (plans_of placed (drop 1 (lows items)))) at Vector
  two_element f at items count fits gives is =
      let a = two Vector Scalar Vector at items count fits in
      element_known f at _ _ Vector (Scalar ∷ []) a.left a.rest is ∙ ap known gives

  clamp_is : (at : ℕ) (items : List Kept) → CallIs (func.Element element.Clamp) at items
  clamp_is at [] fits = absurd (false≢true fits.0)
  clamp_is at (a ∷ []) fits = absurd (false≢true fits.0)
  clamp_is at (a ∷ b ∷ []) fits = absurd (false≢true fits.0)
  clamp_is at (a ∷ b ∷ c ∷ []) fits =
      element_known element.Clamp at _ _ Vector (Scalar ∷ Scalar ∷ []) (child a Vector fits.1.0 fits.1.1)
      (child b Scalar fits.1.2.0 fits.1.2.1, (child c Scalar fits.1.2.2.0 fits.1.2.2.1, record {})) refl
  clamp_is at (a ∷ b ∷ c ∷ d ∷ es) fits = absurd (over_three (judged a.0) (judged b.0) (judged c.0) (judged d.0) (judgements es) fits.0)

  round_is : (at : ℕ) (items : List Kept) → CallIs (func.Element element.Round) at items
  round_is at [] fits = absurd (false≢true fits.0)
  round_is at (a ∷ []) fits = element_known element.Round at _ _ Vector [] (child a Vector fits.1.0 fits.1.1) (record {}) refl
  round_is at (a ∷ b ∷ []) fits =
      element_known element.Round at _ _ Vector (Scalar ∷ []) (child a Vector fits.1.0 fits.1.1) (child b Scalar fits.1.2.0 fits.1.2.1, record {}) refl
  round_is at (a ∷ b ∷ c ∷ es) fits = absurd (over_one_or_two (judged a.0) (judged b.0) (judged c.0) (judgements es) fits.0)

  calendar_is : (part : _) (at : ℕ) (items : List Kept) → CallIs (func.Element (element.Calendar part)) at items
  calendar_is part at [] fits =
      element_known (element.Calendar part) at _ _ Vector [] (known_child _ Vector (vector_known at _ (known_child _ Scalar (time_known at)))) (record {}) refl
  calendar_is part at (a ∷ []) fits = element_known (element.Calendar part) at _ _ Vector [] (child a Vector fits.1.0 fits.1.1) (record {}) refl
  calendar_is part at (a ∷ b ∷ es) fits = absurd (over_none_or_one (judged a.0) (judged b.0) (judgements es) fits.0)

  minus_is : (at : ℕ) (items : List Kept) → CallIs (func.Element element.Neg) at items
  minus_is at [] fits = absurd (false≢true fits.0)
  minus_is at (a ∷ []) fits =
      let off : (low a.0).scalar ≡ false = a.1.told.scalar ∙ ap is_scalar fits.1.1 in
      subst (λ b. IsNode (minus_node b at ((low a.0).plan placed)) at Vector) (sym off)
      (element_known element.Neg at _ [] Vector [] (child a Vector fits.1.0 fits.1.1) (record {}) refl)
  minus_is at (a ∷ b ∷ es) fits = absurd (over_one (judged a.0) (judged b.0) (judgements es) fits.0)

  element_is : (f : ElementFunction) (at : ℕ) (items : List Kept) → CallIs (func.Element f) at items
  element_is element.Abs at items fits = one_element element.Abs at items fits.0 fits.1 refl refl
  element_is element.Ceil at items fits = one_element element.Ceil at items fits.0 fits.1 refl refl
  element_is element.Floor at items fits = one_element element.Floor at items fits.0 fits.1 refl refl
  element_is element.Sgn at items fits = one_element element.Sgn at items fits.0 fits.1 refl refl
  element_is element.Round at items fits = round_is at items fits
  element_is element.Neg at items fits = minus_is at items fits
  element_is element.Clamp at items fits = clamp_is at items fits
  element_is element.ClampMin at items fits = two_element element.ClampMin at items fits.0 fits.1 refl refl
  element_is element.ClampMax at items fits = two_element element.ClampMax at items fits.0 fits.1 refl refl
  element_is (element.Calendar part) at items fits = calendar_is part at items fits

  one_window : (f : WindowFunction) (at : ℕ) (items : List Kept) → is_count (from (Windows ∷ []) Vector) (length (judgements items)) ≡ true
      → FitArguments (from (Windows ∷ []) Vector) 0 (judgements items) → is_window f Windows [] ≡ true
      → IsNode (node.Window f (plan_at at placed (lows items) 0) []) at Vector
  one_window f at items count fits is = window_known f at _ [] Windows [] (one Windows Vector at items count fits).0 (record {}) is

  predict_is : (at : ℕ) (items : List Kept) → CallIs (func.Window window.PredictLinear) at items
  predict_is at items fits =
      let a = two Windows Scalar Vector at items fits.0 fits.1 in
      window_known window.PredictLinear at _ _ Windows (Scalar ∷ []) a.left (a.right, record {}) refl

  quantile_is : (at : ℕ) (items : List Kept) → CallIs (func.Window window.QuantileOver) at items
  quantile_is at items fits =
      let a = two Scalar Windows Vector at items fits.0 fits.1 in
      window_known window.QuantileOver at _ _ Windows (Scalar ∷ []) a.right (a.left, record {}) refl

  window_is : (f : WindowFunction) (at : ℕ) (items : List Kept) → CallIs (func.Window f) at items
  window_is window.Rate at items fits = one_window window.Rate at items fits.0 fits.1 refl
  window_is window.Increase at items fits = one_window window.Increase at items fits.0 fits.1 refl
  window_is window.Delta at items fits = one_window window.Delta at items fits.0 fits.1 refl
  window_is window.Irate at items fits = one_window window.Irate at items fits.0 fits.1 refl
  window_is window.Idelta at items fits = one_window window.Idelta at items fits.0 fits.1 refl
  window_is window.Deriv at items fits = one_window window.Deriv at items fits.0 fits.1 refl
  window_is window.Changes at items fits = one_window window.Changes at items fits.0 fits.1 refl
  window_is window.Resets at items fits = one_window window.Resets at items fits.0 fits.1 refl
  window_is window.AvgOver at items fits = one_window window.AvgOver at items fits.0 fits.1 refl
  window_is window.MinOver at items fits = one_window window.MinOver at items fits.0 fits.1 refl
  window_is window.MaxOver at items fits = one_window window.MaxOver at items fits.0 fits.1 refl
  window_is window.SumOver at items fits = one_window window.SumOver at items fits.0 fits.1 refl
  window_is window.CountOver at items fits = one_window window.CountOver at items fits.0 fits.1 refl
  window_is window.StdvarOver at items fits = one_window window.StdvarOver at items fits.0 fits.1 refl
  window_is window.LastOver at items fits = one_window window.LastOver at items fits.0 fits.1 refl
  window_is window.PresentOver at items fits = one_window window.PresentOver at items fits.0 fits.1 refl
  window_is window.PredictLinear at items fits = predict_is at items fits
  window_is window.QuantileOver at items fits = quantile_is at items fits

  absent_over_is : (labels : _) (at : ℕ) (items : List Kept) → FitsCall (Function func.AbsentOver) (judgements items)
      → IsNode (absent_over_node (windows_or (slice_get (lows items) 0)) labels at (plan_at at placed (lows items) 0)) at Vector
  absent_over_is labels at [] fits = absurd (false≢true fits.0)
  absent_over_is labels at (a ∷ []) fits =
      subst (λ b. IsNode (absent_over_node b labels at ((low a.0).plan placed)) at Vector) (sym (a.1.told.windows fits.1.1))
      (absent_known at labels _ (known_child _ Vector (window_known window.LastOver at _ [] Windows [] (child a Windows fits.1.0 fits.1.1) (record {}) refl)))
  absent_over_is labels at (a ∷ b ∷ es) fits = absurd (over_one (judged a.0) (judged b.0) (judgements es) fits.0)

  join_is : (at : ℕ) (items : List Kept) → CallIs func.LabelJoin at items
  join_is at [] fits = absurd (false≢true fits.0)
  join_is at (a ∷ []) fits = absurd (false≢true fits.0)
  join_is at (a ∷ b ∷ es) fits =
      relabel_known at _ _ (filled _ (low b.0).words (b.1.told.string fits.1.2.1) fits.2) (child a Vector fits.1.0 fits.1.1)

  replace_is : (at : ℕ) (items : List Kept) → CallIs func.LabelReplace at items
  replace_is at [] fits = absurd (false≢true fits.0)
  replace_is at (a ∷ []) fits = absurd (false≢true fits.0)
  replace_is at (a ∷ b ∷ []) fits = absurd (false≢true fits.0)
  replace_is at (a ∷ b ∷ c ∷ es) fits =
      let target = (judged b.0).literal in
      let template = (judged c.0).literal in
      relabel_known at _ _
      (both_true _ _ (filled target (low b.0).words (b.1.told.string fits.1.2.1) (front_none (label_refusals target) (template_refusals template) fits.2))
      (unnamed template (low c.0).words (c.1.told.string fits.1.2.2.1) (back_none (label_refusals target) (template_refusals template) fits.2)))
      (child a Vector fits.1.0 fits.1.1)

  stamp_is : (at : ℕ) (items : List Kept) → CallIs func.Timestamp at items
  stamp_is at [] fits = absurd (false≢true fits.0)
  stamp_is at (a ∷ []) fits = of_selects (low a.0).selects refl
    where
      of_selects : (selects : Option (ℕ × Selector)) → (low a.0).selects ≡ selects → IsNode (stamp_node selects ((low a.0).plan placed)) at Vector
      of_selects None is =
          let c = child a Vector fits.1.0 fits.1.1 in
          stamp_known at _ (first_true (typing ((low a.0).plan placed)).typed _ c.0) (ap is_stamped ((a.1.good fits.1.0).unselected is)) c.1
      of_selects (Some own) is =
          let s = of-Select node_typing (λ p. p.node) own.0 own.1.rules own.1.moment true in
          stamp_known at _ (ap (λ (t : Typing). t.typed) s) (ap (λ (t : Typing). is_stamped t.select) s) (ap (λ (t : Typing). t.kind) s)
  stamp_is at (a ∷ b ∷ es) fits = absurd (over_one (judged a.0) (judged b.0) (judgements es) fits.0)

  call_is : (f : Func) (at : ℕ) (items : List Kept) → CallIs f at items
  call_is (func.Element f) at items fits = element_is f at items fits
  call_is (func.Window f) at items fits = window_is f at items fits
  call_is func.Absent at items fits = absent_known at _ _ (one Vector Vector at items fits.0 fits.1).0
  call_is func.AbsentOver at items fits = absent_over_is _ at items fits
  call_is func.HistogramQuantile at items fits =
      let a = two Scalar Vector Vector at items fits.0 fits.1 in
      buckets_known at _ _ a.left a.right
  call_is func.LabelJoin at items fits = join_is at items fits
  call_is func.LabelReplace at items fits = replace_is at items fits
  call_is func.Scalar at items fits = scalar_known at _ (one Vector Scalar at items fits.0 fits.1).0
  call_is func.Sort at items fits = sort_known at false _ (one Vector Vector at items fits.0 fits.1).0
  call_is func.SortDesc at items fits = sort_known at true _ (one Vector Vector at items fits.0 fits.1).0
  call_is func.Time at items fits = time_known at
  call_is func.Timestamp at items fits = stamp_is at items fits
  call_is func.Vector at items fits = vector_known at _ (one Scalar Vector at items fits.0 fits.1).0

  -- ---- aggregations

  abbrev GroupIs : AggregateFunction → Grouping → ℕ → List Kept → Type 0
  GroupIs f by at items = FitsCall (Aggregation f) (judgements items) → IsNode (group_node f by at (lows items) placed) at Vector

  one_group : (f : AggregateFunction) (by : Grouping) (at : ℕ) (items : List Kept) → is_count (from (Vector ∷ []) Vector) (length (judgements items)) ≡ true
      → FitArguments (from (Vector ∷ []) Vector) 0 (judgements items) → is_group f (Vector ∷ []) [] ≡ true → IsNode (node.Group f by (plans_of placed (lows items)) []) at Vector
  one_group f by at [] count fits is = absurd (false≢true count)
  one_group f by at (a ∷ []) count fits is = group_known f by at _ [] (Vector ∷ []) (child a Vector fits.0 fits.1, record {}) is
  one_group f by at (a ∷ b ∷ es) count fits is = absurd (over_one (judged a.0) (judged b.0) (judgements es) count)

  two_group : (f : AggregateFunction) (by : Grouping) (at : ℕ) (items : List Kept) → is_count (from (Scalar ∷ Vector ∷ []) Vector) (length (judgements items)) ≡ true
      → FitArguments (from (Scalar ∷ Vector ∷ []) Vector) 0 (judgements items) → is_group f (Scalar ∷ Vector ∷ []) [] ≡ true
      → IsNode (node.Group f by (plans_of placed (lows items)) []) at Vector
  two_group f by at items count fits is = group_known f by at _ [] (Scalar ∷ Vector ∷ []) (two Scalar Vector Vector at items count fits).all is

  count_is : (by : Grouping) (at : ℕ) (items : List Kept) → GroupIs aggregate.CountValues by at items
  count_is by at [] fits = absurd (false≢true fits.0)
  count_is by at (a ∷ []) fits = absurd (false≢true fits.0)
  count_is by at (a ∷ b ∷ es) fits =
      group_known aggregate.CountValues by at _ (low a.0).words (Vector ∷ []) (child b Vector fits.1.2.0 fits.1.2.1, record {})
      (both_true _ _ (filled _ (low a.0).words (a.1.told.string fits.1.1) fits.2) refl)

  group_is : (f : AggregateFunction) (by : Grouping) (at : ℕ) (items : List Kept) → GroupIs f by at items
  group_is aggregate.Sum by at items fits = one_group aggregate.Sum by at items fits.0 fits.1 refl
  group_is aggregate.Avg by at items fits = one_group aggregate.Avg by at items fits.0 fits.1 refl
  group_is aggregate.Min by at items fits = one_group aggregate.Min by at items fits.0 fits.1 refl
  group_is aggregate.Max by at items fits = one_group aggregate.Max by at items fits.0 fits.1 refl
  group_is aggregate.Count by at items fits = one_group aggregate.Count by at items fits.0 fits.1 refl
  group_is aggregate.Group by at items fits = one_group aggregate.Group by at items fits.0 fits.1 refl
  group_is aggregate.Stdvar by at items fits = one_group aggregate.Stdvar by at items fits.0 fits.1 refl
  group_is aggregate.TopK by at items fits = two_group aggregate.TopK by at items fits.0 fits.1 refl
  group_is aggregate.BottomK by at items fits = two_group aggregate.BottomK by at items fits.0 fits.1 refl
  group_is aggregate.Quantile by at items fits = two_group aggregate.Quantile by at items fits.0 fits.1 refl
  group_is aggregate.CountValues by at items fits = count_is by at items fits

  -- ---- label_replace calls

  all_same : (row : Signature) (n : ℕ) (items : List Kept) → FitArguments row n (judgements items) → all_calls (lows items) ≡ map replacing (all_replacements (judgements items))
  all_same row n [] fits = refl
  all_same row n (e ∷ es) fits =
      ap₂ (λ xs ys. xs ++ ys) (e.1.good fits.0).calls (all_same row (n + 1) es fits.2)
      ∙ sym (append_map replacing (judged e.0).replacements (all_replacements (judgements es)))

  replace_same : (at : ℕ) (items : List Kept) → FitsCall (Function func.LabelReplace) (judgements items)
      → own_call func.LabelReplace at (lows items) ≡ map replacing (pattern_of func.LabelReplace (judgements items) at)
  replace_same at [] fits = absurd (false≢true fits.0)
  replace_same at (a ∷ []) fits = absurd (false≢true fits.0)
  replace_same at (a ∷ b ∷ []) fits = absurd (false≢true fits.0)
  replace_same at (a ∷ b ∷ c ∷ []) fits = absurd (false≢true fits.0)
  replace_same at (a ∷ b ∷ c ∷ d ∷ []) fits = absurd (false≢true fits.0)
  replace_same at (a ∷ b ∷ c ∷ d ∷ e ∷ []) fits =
      own_replacing at (judged a.0) (judged b.0) (judged c.0) (judged d.0) (judged e.0) (low e.0).words (e.1.told.string fits.1.2.2.2.2.1)
  replace_same at (a ∷ b ∷ c ∷ d ∷ e ∷ f ∷ es) fits = absurd (over_five (judged a.0) (judged b.0) (judged c.0) (judged d.0) (judged e.0) (judged f.0) (judgements es) fits.0)

  own_same : (f : Func) (at : ℕ) (items : List Kept) → FitsCall (Function f) (judgements items) → own_call f at (lows items) ≡ map replacing (pattern_of f (judgements items) at)
  own_same (func.Element f) at items fits = refl
  own_same (func.Window f) at items fits = refl
  own_same func.Absent at items fits = refl
  own_same func.AbsentOver at items fits = refl
  own_same func.HistogramQuantile at items fits = refl
  own_same func.LabelJoin at items fits = refl
  own_same func.LabelReplace at items fits = replace_same at items fits
  own_same func.Scalar at items fits = refl
  own_same func.Sort at items fits = refl
  own_same func.SortDesc at items fits = refl
  own_same func.Time at items fits = refl
  own_same func.Timestamp at items fits = refl
  own_same func.Vector at items fits = refl

  -- ---- one level

  abbrev Layer : Type 0
  Layer = Node-F ((n : Node) × IsKeptNode n) Kept

  abbrev bare : Layer → Node-F Node Expr
  bare = map-Node ((n : Node) × IsKeptNode n) Kept Node Expr (λ e. e.0) (λ e. e.0)

  abbrev judged_layer : Layer → Node-F At Judgement
  judged_layer y = map-Node Node Expr At Judgement node_judged judged (bare y)

  abbrev low_layer : Layer → Node-F (ℕ → Low) Low
  low_layer y = map-Node Node Expr (ℕ → Low) Low low_in low (bare y)

  fits_at : (y : Layer) (at : ℕ) → (node_step (judged_layer y) at).refusals ≡ [] → Fits (judged_layer y) at
  fits_at y at none = fits_of fit (bare y) at none

  told : (y : Layer) (at : ℕ) → IsTold (low_node (low_layer y) at) (node_step (judged_layer y) at)
  told (Node-F.Number value) at = number_told _ _ refl refl
  told (Node-F.Words text) at = record { scalar = refl; windows = λ is. absurd (cc); string = λ is. record { place = at; is = refl } }
  told (Node-F.Paren e) at = record { scalar = e.1.told.scalar; windows = e.1.told.windows; string = e.1.told.string }
  told (Node-F.Negate e) at =
      let k = (judged e.0).operand.gives in
      number_told _ _ (e.1.told.scalar ∙ scalar_itself k) (number_both k k)
  told (Node-F.Select selector) at = number_told _ _ refl refl
  told (Node-F.Range selector range) at = record { scalar = refl; windows = λ is. refl; string = λ is. absurd (cc) }
  told (Node-F.Subquery e range step moment) at = record { scalar = refl; windows = λ is. refl; string = λ is. absurd (cc) }
  told (Node-F.Call f items) at = number_told _ _ (call_kind f).0 (call_kind f).1
  told (Node-F.Aggregate f by items) at = number_told _ _ (sym (ap is_scalar (group_kind f))) (ap is_number (group_kind f))
  told (Node-F.Pair op l r pairing) at =
      let a = (judged l.0).operand.gives in
      let b = (judged r.0).operand.gives in
      number_told _ _ (ap₂ (λ x y. x && y) l.1.told.scalar r.1.told.scalar ∙ scalar_both a b) (number_both a b)
  told (Node-F.Set op l r pairing) at = number_told _ _ refl refl

  good : (y : Layer) (at : ℕ) → (judged_fits : Fits (judged_layer y) at) → IsGood (low_node (low_layer y) at) (node_step (judged_layer y) at)
  good (Node-F.Number value) at fits = known_good _ _ Scalar (number_known at value) refl refl
  good (Node-F.Words text) at fits = known_good _ _ Vector (nothing_known at) refl refl
  good (Node-F.Paren e) at fits = record { child = (e.1.good fits).child; unselected = (e.1.good fits).unselected; calls = (e.1.good fits).calls }
  good (Node-F.Negate e) at fits =
      let k = (judged e.0).operand.gives in
      let kind = number_kind k fits.1 in
      known_good _ _ (both k k) (element_known element.Neg at _ [] k [] ((e.1.good fits.0).child.0, (e.1.good fits.0).child.1 ∙ kind) (record {}) fits.1)
      (sym (number_kind (both k k) (number_both k k))) (e.1.good fits.0).calls
  good (Node-F.Select selector) at fits =
      let s = of-Select node_typing (λ p. p.node) at selector.rules selector.moment false in
      record { child = (ap is_sound s, ap (λ (t : Typing). t.kind) s); unselected = λ none. absurd (cc); calls = refl }
  good (Node-F.Range selector range) at fits = known_good _ _ Windows (of-Range node_typing (λ p. p.node) at selector.rules selector.moment range) refl refl
  good (Node-F.Subquery e range step moment) at fits = known_good _ _ Windows (subquery_known at _ range step moment (child e Vector fits.0 fits.1)) refl (e.1.good fits.0).calls
  good (Node-F.Call f items) at fits =
      known_good _ _ _ (call_is f at items fits) refl
      (ap₂ (λ xs ys. xs ++ ys) (all_same (signature (Function f)) 0 items fits.1) (own_same f at items fits)
      ∙ sym (append_map replacing (all_replacements (judgements items)) (pattern_of f (judgements items) at)))
  good (Node-F.Aggregate f by items) at fits = known_good _ _ Vector (group_is f by at items fits) (sym (ap plan_kind (group_kind f))) (all_same (signature (Aggregation f)) 0 items fits.1)
  good (Node-F.Pair op l r pairing) at fits =
      let a = (judged l.0).operand.gives in
      let b = (judged r.0).operand.gives in
      let cl = (l.1.good fits.0.0).child in
      let cr = (r.1.good fits.1.0).child in
      known_good _ _ (both a b)
      (pair_known op pairing at _ _ a b (cl.0, cl.1 ∙ number_kind a fits.0.1) (cr.0, cr.1 ∙ number_kind b fits.1.1)
      (paired op pairing (judged l.0).operand (judged r.0).operand at fits.0.1 fits.1.1 fits.2 fits.3))
      (sym (number_kind (both a b) (number_both a b)))
      (ap₂ (λ xs ys. xs ++ ys) (l.1.good fits.0.0).calls (r.1.good fits.1.0).calls ∙ sym (append_map replacing (judged l.0).replacements (judged r.0).replacements))
  good (Node-F.Set op l r pairing) at fits =
      known_good _ _ Vector (set_known op pairing at _ _ (child l Vector fits.0.0 fits.0.1) (child r Vector fits.1.0 fits.1.1)) refl
      (ap₂ (λ xs ys. xs ++ ys) (l.1.good fits.0.0).calls (r.1.good fits.1.0).calls ∙ sym (append_map replacing (judged l.0).replacements (judged r.0).replacements))

  level : (y : Layer) (at : ℕ) → IsLow (low_node (low_layer y) at) (node_step (judged_layer y) at)
  level y at = record { told = told y at; good = λ none. good y at (fits_at y at none) }

  node_kept : (y : Layer) → IsKeptNode (roll-Node (bare y))
  node_kept y at =
      subst (λ (f : At). IsLow (low_in (roll-Node (bare y)) at) (f at)) (sym (fold-roll-Node At Judgement node_step expr_step (bare y)))
      (subst (λ (f : ℕ → Low). IsLow (f at) (node_step (judged_layer y) at)) (sym (fold-roll-Node (ℕ → Low) Low low_node (λ e. e.node e.at) (bare y))) (level y at))

  expr_kept : (at : ℕ) (n : Node) → IsKeptNode n → IsKept (roll-Expr (record { at = at; node = n }))
  expr_kept at n kept =
      subst (λ (j : Judgement). IsLow (low (roll-Expr (record { at = at; node = n }))) j) (sym (fold-roll-Expr At Judgement node_step expr_step (record { at = at; node = n })))
      (subst (λ (l : Low). IsLow l (node_judged n at)) (sym (fold-roll-Expr (ℕ → Low) Low low_node (λ e. e.node e.at) (record { at = at; node = n }))) (kept at))

  all_kept : (e : Expr) → IsKept e
  all_kept = ind-Expr IsKeptNode IsKept
      (λ x y is. subst (λ z. IsKeptNode (roll-Node z)) is (node_kept y))
      (λ x y is. subst (λ z. IsKept (roll-Expr z)) is (expr_kept y.at y.node.0 y.node.1))

-- ---- the plan of a typed tree

pub lowered_typed : TypedTreesFit → (placed : List Placed) (e : Expr) → (judged e).refusals ≡ [] → IsTyped (lowered placed e)
lowered_typed fit placed e none = ((all_kept fit placed e).good none).child.0

pub lowered_calls : TypedTreesFit → (placed : List Placed) (e : Expr) → (judged e).refusals ≡ [] → (low e).calls ≡ map replacing (judged e).replacements
lowered_calls fit placed e none = ((all_kept fit placed e).good none).calls

-- a tree that gives a vector is known to give no scalar
pub unscalar : TypedTreesFit → (placed : List Placed) (e : Expr) → (judged e).operand.gives ≡ Vector → (low e).scalar ≡ false
unscalar fit placed e is = (all_kept fit placed e).told.scalar ∙ ap is_scalar is
