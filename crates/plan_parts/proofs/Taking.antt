-- What functions of rows and aggregations take, and what their kernels take.
use Rattle.std.proofs.Common.{◌≡◌, ◌∙◌, ℕ, Bool, true, false, List, [], ◌∷◌, refl, subst}
use Rattle.std.specs.Prelude.{◌&&◌, IsTrue, Ok, Result}
use Rattle.func_table.specs.declared.table.Aggregate.{Aggregate}
use Rattle.func_table.specs.declared.table.Aggregate.TheVariants as aggregate
use Rattle.func_table.specs.declared.table.Element.{Element}
use Rattle.func_table.specs.declared.table.Element.TheVariants as element
use Rattle.label_set.specs.declared.rules.Grouping.{Grouping}
use Rattle.logical_plan.specs.PlanTypes.{element_kind, is_element, is_filled, is_group}
use Rattle.op_element.specs.declared.formula.ElementRule.TheVariants as formula
use Rattle.promql_type.specs.Kinds.{is_kind, is_scalar}
use Rattle.promql_type.specs.declared.kind.Kind.{Kind}
use Rattle.promql_type.specs.declared.kind.Kind.TheVariants.{Scalar, Vector, Windows, Words}
use Rattle.step_kernels.specs.Binaries.{is_binary}
use Rattle.step_kernels.specs.Unaries.{is_unary}
use Rattle.step_kernels.specs.declared.binary.BinaryRule.TheVariants as binary
use Rattle.step_kernels.specs.declared.unary.UnaryRule.TheVariants as unary
use Rattle.plan_parts.specs.Parts.{IsBuilt, keeps_scalar}
use Rattle.plan_parts.specs.declared.parts.Part.{Part}
use Rattle.plan_parts.specs.declared.unbuilt.Unbuilt.{Unbuilt}

left_true : (a b : Bool) → (a && b) ≡ true → a ≡ true
left_true true b h = refl
left_true false b h = h

right_true : (a b : Bool) → (a && b) ≡ true → b ≡ true
right_true true b h = h
right_true false b h = absurd (cc)

kind_scalar : (kind : Kind) → is_kind Scalar kind ≡ true → is_scalar kind ≡ true
kind_scalar Scalar h = refl
kind_scalar Vector h = absurd (cc)
kind_scalar Windows h = absurd (cc)
kind_scalar Words h = absurd (cc)

-- what is built is a part of the kind that is told
pub built_as : (scalar : Bool) (built : Result Part Unbuilt) (part : Part) → built ≡ Ok part → IsBuilt scalar built → part.scalar ≡ scalar
built_as scalar built part e h = subst (IsBuilt scalar) e h

-- ---- functions of rows

-- one without further arguments has a kernel of one part, unless it rounds
pub alone_taken : (f : Element) (kind : Kind) → (f ≡ element.Round → ⊥) → is_element f kind [] ≡ true → IsTrue (is_unary (unary.Apply (formula.Apply f)))
alone_taken element.Round kind none h = absurd (none refl)
alone_taken element.Clamp kind none h = absurd (cc)
alone_taken element.ClampMin kind none h = absurd (cc)
alone_taken element.ClampMax kind none h = absurd (cc)
alone_taken f kind none h = refl

-- and gives a scalar where its kind says so
pub alone_kind : (f : Element) (kind : Kind) → is_element f kind [] ≡ true → keeps_scalar f (is_scalar kind) ≡ is_scalar (element_kind f kind)
alone_kind element.Neg Scalar h = refl
alone_kind element.Neg Vector h = refl
alone_kind element.Neg Windows h = absurd (cc)
alone_kind element.Neg Words h = absurd (cc)
alone_kind f kind h = refl

second_scalar : (kind other : Kind) → (is_kind Vector kind && (is_kind Scalar other && true)) ≡ true → is_scalar other ≡ true
second_scalar kind other h = kind_scalar other (left_true (is_kind Scalar other) true (right_true (is_kind Vector kind) (is_kind Scalar other && true) h))

-- one with an argument takes a scalar, and gives a vector
pub beside_taken : (f : Element) (kind other : Kind) → is_element f kind (other ∷ []) ≡ true → (is_scalar other ≡ true) × (is_scalar (element_kind f kind) ≡ false)
beside_taken element.Round kind other h = (second_scalar kind other h, refl)
beside_taken element.ClampMin kind other h = (second_scalar kind other h, refl)
beside_taken element.ClampMax kind other h = (second_scalar kind other h, refl)
beside_taken f kind other h = absurd (cc)

-- ---- aggregations

first_scalar : (first kind : Kind) → (is_kind Scalar first && (is_kind Vector kind && true)) ≡ true → is_scalar first ≡ true
first_scalar first kind h = kind_scalar first (left_true (is_kind Scalar first) (is_kind Vector kind && true) h)

-- one with a parameter has a kernel of two parts, and takes a scalar
pub parameter_taken : (f : Aggregate) (by : Grouping) (first kind : Kind) (label : List ℕ) → is_group f (first ∷ kind ∷ []) label ≡ true → IsTrue (is_binary (binary.Rank f by label)) × (is_scalar first ≡ true)
parameter_taken aggregate.TopK by first kind label h = (refl, first_scalar first kind h)
parameter_taken aggregate.BottomK by first kind label h = (refl, first_scalar first kind h)
parameter_taken aggregate.Quantile by first kind label h = (refl, first_scalar first kind h)
parameter_taken aggregate.CountValues by first kind label h = let none : false ≡ true = right_true (is_filled label) false h in absurd (cc)
parameter_taken f by first kind label h = absurd (cc)
