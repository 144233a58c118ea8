-- Children of typed nodes are of the kinds that the nodes take.
use Rattle.std.proofs.Common.{◌≡◌, ◌≤◌, ℕ, suc, length, ◌++◌, arith, length-append, List, [], ◌∷◌, Bool, true, false, refl, sym, subst}
use Rattle.std.specs.Prelude.{◌&&◌, ◌||◌, ◌==◌}
use Rattle.func_table.specs.declared.table.Aggregate.{Aggregate}
use Rattle.func_table.specs.declared.table.Aggregate.TheVariants as aggregate
use Rattle.func_table.specs.declared.table.Element.{Element}
use Rattle.func_table.specs.declared.table.Element.TheVariants as element
use Rattle.func_table.specs.declared.table.Window.{Window as WindowFunction}
use Rattle.func_table.specs.declared.table.Window.TheVariants as window
use Rattle.logical_plan.specs.PlanTypes.{is_element, is_filled, is_group, is_of, is_sound, is_window}
use Rattle.promql_type.specs.Kinds.{is_kind, is_number}
use Rattle.promql_type.specs.declared.kind.Kind.{Kind}
use Rattle.promql_type.specs.declared.kind.Kind.TheVariants.{Scalar, Vector, Windows, Words}
use Rattle.logical_plan.specs.PlanTypes.{Typing}
use Rattle.phys_plan.proofs.InPlace.{left_true, right_true}

abbrev pub IsNumber : Kind → Type 0
IsNumber kind = is_number kind ≡ true

pub vector_is : (kind : Kind) → is_kind Vector kind ≡ true → kind ≡ Vector
vector_is Scalar h = absurd (cc)
vector_is Vector h = refl
vector_is Windows h = absurd (cc)
vector_is Words h = absurd (cc)

pub scalar_is : (kind : Kind) → is_kind Scalar kind ≡ true → kind ≡ Scalar
scalar_is Scalar h = refl
scalar_is Vector h = absurd (cc)
scalar_is Windows h = absurd (cc)
scalar_is Words h = absurd (cc)

pub vector_number : (kind : Kind) → is_kind Vector kind ≡ true → IsNumber kind
vector_number kind h = subst IsNumber (sym (vector_is kind h)) refl

pub scalar_number : (kind : Kind) → is_kind Scalar kind ≡ true → IsNumber kind
scalar_number kind h = subst IsNumber (sym (scalar_is kind h)) refl

scalar_and_vector : (a kind : Kind) → (is_kind Scalar a && (is_kind Vector kind && true)) ≡ true → IsNumber a × IsNumber kind
scalar_and_vector a kind h = (
  scalar_number a (left_true (is_kind Scalar a) (is_kind Vector kind && true) h),
  vector_number kind (left_true (is_kind Vector kind) true (right_true (is_kind Scalar a) (is_kind Vector kind && true) h)),
)

same_count : (m n : ℕ) → (m == n) ≡ true → m ≡ n
same_count m n h = grind (arith, h)

one_or_more : (m n : ℕ) → (suc m == n || suc m == suc n) ≡ true → m ≤ n
one_or_more m n h = grind (arith, h)

-- a vector, and beside it a scalar
vector_and_scalar : (kind a : Kind) → (is_kind Vector kind && (is_kind Scalar a && true)) ≡ true → IsNumber kind × IsNumber a
vector_and_scalar kind a h = (
  vector_number kind (left_true (is_kind Vector kind) (is_kind Scalar a && true) h),
  scalar_number a (left_true (is_kind Scalar a) true (right_true (is_kind Vector kind) (is_kind Scalar a && true) h)),
)

-- ---- functions of rows

pub element_alone : (f : Element) (kind : Kind) → is_element f kind [] ≡ true → IsNumber kind
element_alone element.Neg kind h = h
element_alone element.Clamp kind h = absurd (cc)
element_alone element.ClampMin kind h = absurd (cc)
element_alone element.ClampMax kind h = absurd (cc)
element_alone f kind h = vector_number kind (left_true (is_kind Vector kind) true h)

pub element_beside_one : (f : Element) (kind a : Kind) → is_element f kind (a ∷ []) ≡ true → IsNumber kind × IsNumber a
element_beside_one element.Round kind a h = vector_and_scalar kind a h
element_beside_one element.ClampMin kind a h = vector_and_scalar kind a h
element_beside_one element.ClampMax kind a h = vector_and_scalar kind a h
element_beside_one f kind a h = absurd (cc)

pub element_beside_two : (f : Element) (kind a b : Kind) → is_element f kind (a ∷ b ∷ []) ≡ true → IsNumber kind × IsNumber a × IsNumber b
element_beside_two element.Clamp kind a b h =
    let r = right_true (is_kind Vector kind) (is_kind Scalar a && (is_kind Scalar b && true)) h in (
      vector_number kind (left_true (is_kind Vector kind) (is_kind Scalar a && (is_kind Scalar b && true)) h),
      scalar_number a (left_true (is_kind Scalar a) (is_kind Scalar b && true) r),
      scalar_number b (left_true (is_kind Scalar b) true (right_true (is_kind Scalar a) (is_kind Scalar b && true) r)),
    )
element_beside_two f kind a b h = absurd (cc)

-- a function of rows has at most two further arguments
pub element_few : (f : Element) (kind : Kind) (kinds : List Kind) → is_element f kind kinds ≡ true → length kinds ≤ 2
element_few element.Neg kind [] h = omega arith
element_few element.Neg kind (a ∷ kinds) h = absurd (cc)
element_few element.Round kind kinds h = let n = one_or_more (length kinds) 1 (left_true (suc (length kinds) == 1 || suc (length kinds) == 2) _ h) in omega arith
element_few (element.Calendar part) kind kinds h = let n = one_or_more (length kinds) 0 (left_true (suc (length kinds) == 0 || suc (length kinds) == 1) _ h) in omega arith
element_few element.Clamp kind kinds h = let n = same_count (suc (length kinds)) 3 (left_true (suc (length kinds) == 3) _ h) in omega arith
element_few element.ClampMin kind kinds h = let n = same_count (suc (length kinds)) 2 (left_true (suc (length kinds) == 2) _ h) in omega arith
element_few element.ClampMax kind kinds h = let n = same_count (suc (length kinds)) 2 (left_true (suc (length kinds) == 2) _ h) in omega arith
element_few f kind kinds h = let n = same_count (suc (length kinds)) 1 (left_true (suc (length kinds) == 1) _ h) in omega arith

-- ---- aggregations

pub group_alone : (f : Aggregate) (kind : Kind) (label : List ℕ) → is_group f (kind ∷ []) label ≡ true → IsNumber kind
group_alone aggregate.CountValues kind label h = vector_number kind (left_true (is_kind Vector kind) true (right_true (is_filled label) (is_kind Vector kind && true) h))
group_alone aggregate.TopK kind label h = absurd (cc)
group_alone aggregate.BottomK kind label h = absurd (cc)
group_alone aggregate.Quantile kind label h = absurd (cc)
group_alone f kind label h = vector_number kind (left_true (is_kind Vector kind) true h)

pub group_beside : (f : Aggregate) (a kind : Kind) (label : List ℕ) → is_group f (a ∷ kind ∷ []) label ≡ true → IsNumber a × IsNumber kind
group_beside aggregate.TopK a kind label h = scalar_and_vector a kind h
group_beside aggregate.BottomK a kind label h = scalar_and_vector a kind h
group_beside aggregate.Quantile a kind label h = scalar_and_vector a kind h
group_beside aggregate.CountValues a kind label h = let none : false ≡ true = right_true (is_filled label) false h in absurd (cc)
group_beside f a kind label h = absurd (cc)

-- an aggregation has one argument or two
pub group_few : (f : Aggregate) (kinds : List Kind) (label : List ℕ) → is_group f kinds label ≡ true → (1 ≤ length kinds) × (length kinds ≤ 2)
group_few aggregate.TopK kinds label h = let n = same_count (length kinds) 2 (left_true (length kinds == 2) _ h) in (omega arith, omega arith)
group_few aggregate.BottomK kinds label h = let n = same_count (length kinds) 2 (left_true (length kinds == 2) _ h) in (omega arith, omega arith)
group_few aggregate.Quantile kinds label h = let n = same_count (length kinds) 2 (left_true (length kinds == 2) _ h) in (omega arith, omega arith)
group_few aggregate.CountValues kinds label h =
    let n = same_count (suc (length kinds)) 2 (left_true (suc (length kinds) == 2) _ (right_true (is_filled label) _ h)) in (omega arith, omega arith)
group_few f kinds label h = let n = same_count (length kinds) 1 (left_true (length kinds == 1) _ h) in (omega arith, omega arith)

-- ---- functions of windows

pub window_beside : (f : WindowFunction) (given a : Kind) → is_window f given (a ∷ []) ≡ true → IsNumber a
window_beside window.PredictLinear given a h = scalar_number a (left_true (is_kind Scalar a) true (right_true (is_kind Windows given) (is_kind Scalar a && true) h))
window_beside window.QuantileOver given a h = scalar_number a (left_true (is_kind Scalar a) (is_kind Windows given && true) h)
window_beside f given a h = absurd (cc)

-- a function of windows has at most one further argument
pub window_few : (f : WindowFunction) (given : Kind) (kinds : List Kind) → is_window f given kinds ≡ true → length kinds ≤ 1
window_few window.PredictLinear given kinds h = let n = same_count (suc (length kinds)) 2 (left_true (suc (length kinds) == 2) _ h) in omega arith
window_few window.QuantileOver given kinds h =
    let n = same_count (length (kinds ++ given ∷ [])) 2 (left_true (length (kinds ++ given ∷ []) == 2) _ h) in omega (arith, length-append kinds (given ∷ []))
window_few f given kinds h = let n = same_count (suc (length kinds)) 1 (left_true (suc (length kinds) == 1) _ h) in omega arith

-- ---- operators

pub pair_numbers : (left right : Kind) (a b : Bool) → (is_number left && is_number right && a && b) ≡ true → IsNumber left × IsNumber right
pair_numbers left right a b h =
    let both = left_true (is_number left && is_number right) a (left_true (is_number left && is_number right && a) b h) in
    (left_true (is_number left) (is_number right) both, right_true (is_number left) (is_number right) both)

-- a part of a kind
pub of_kind : (kind : Kind) (t : Typing) → is_of kind t ≡ true → is_kind kind t.kind ≡ true
of_kind kind t h = right_true (is_sound t) (is_kind kind t.kind) h
