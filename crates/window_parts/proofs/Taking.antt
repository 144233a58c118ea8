-- Which functions of windows take a scalar.
use Rattle.std.proofs.Common.{◌≡◌, ◌∙◌, Bool, true, false, List, [], ◌∷◌, None, Some, refl}
use Rattle.std.specs.Prelude.{◌&&◌}
use Rattle.func_table.specs.declared.table.Window.{Window as WindowFunction}
use Rattle.func_table.specs.declared.table.Window.TheVariants.{PredictLinear, QuantileOver}
use Rattle.logical_plan.specs.PlanTypes.{is_window}
use Rattle.op_window.specs.Rules.{takes_scalar}
use Rattle.plan_parts.specs.declared.parts.Part.{Part}
use Rattle.promql_type.specs.Kinds.{is_kind, is_scalar}
use Rattle.promql_type.specs.declared.kind.Kind.{Kind}
use Rattle.promql_type.specs.declared.kind.Kind.TheVariants.{Scalar, Vector, Windows, Words}
use Rattle.window_parts.specs.Over.{IsOfKinds}

first_true : (a b : Bool) → (a && b) ≡ true → a ≡ true
first_true true b h = refl
first_true false b h = h

second_true : (a b : Bool) → (a && b) ≡ true → b ≡ true
second_true true b h = h
second_true false b h = absurd (cc)

kind_scalar : (kind : Kind) → is_kind Scalar kind ≡ true → is_scalar kind ≡ true
kind_scalar Scalar h = refl
kind_scalar Vector h = absurd (cc)
kind_scalar Windows h = absurd (cc)
kind_scalar Words h = absurd (cc)

takes_none : (f : WindowFunction) (given : Kind) → is_window f given [] ≡ true → takes_scalar f ≡ false
takes_none PredictLinear given h = absurd (cc)
takes_none QuantileOver given h = absurd (cc)
takes_none f given h = refl

takes_one : (f : WindowFunction) (given kind : Kind) → is_window f given (kind ∷ []) ≡ true → (takes_scalar f ≡ true) × (is_scalar kind ≡ true)
takes_one PredictLinear given kind h = (refl, kind_scalar kind (first_true (is_kind Scalar kind) true (second_true (is_kind Windows given) (is_kind Scalar kind && true) h)))
takes_one QuantileOver given kind h = (refl, kind_scalar kind (first_true (is_kind Scalar kind) (is_kind Windows given && true) h))
takes_one f given kind h = absurd (cc)

-- without an argument no scalar is taken
pub none_taken : (f : WindowFunction) (given : Kind) (kinds : List Kind) → is_window f given kinds ≡ true → IsOfKinds kinds None → takes_scalar f ≡ false
none_taken f given [] h i = takes_none f given h
none_taken f given (kind ∷ []) h i = absurd i
none_taken f given (kind ∷ more ∷ kinds) h i = absurd i

-- an argument is a scalar that is taken
pub one_taken : (f : WindowFunction) (given : Kind) (kinds : List Kind) (part : Part) → is_window f given kinds ≡ true → IsOfKinds kinds (Some part) → (takes_scalar f ≡ true) × (part.scalar ≡ true)
one_taken f given [] part h i = absurd i
one_taken f given (kind ∷ []) part h i = let t = takes_one f given kind h in (t.0, i ∙ t.1)
one_taken f given (kind ∷ more ∷ kinds) part h i = absurd i
