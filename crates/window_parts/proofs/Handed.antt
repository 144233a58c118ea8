-- Why a part isn't built is handed on; and what isn't there isn't asked of anything.
use Rattle.std.proofs.Common.{◌≡◌, ◌∙◌, Bool, Option, None, Some, refl, subst, sym}
use Rattle.std.specs.Prelude.{Err, IfNone, IsSome, IsSomeAnd, Result}
use Rattle.plan_parts.specs.Parts.{IsBuilt}
use Rattle.plan_parts.specs.declared.parts.Part.{Part}
use Rattle.plan_parts.specs.declared.unbuilt.Unbuilt.{Unbuilt}
use Rattle.plan_parts.specs.declared.unbuilt.Unbuilt.TheVariants.{Memory}
use Rattle.plan_serving.specs.Asking.{RangeAsked}

pub handed_on : (scalar : Bool) (built : Result Part Unbuilt) (e y : Unbuilt) → built ≡ Err y → y ≡ e → e ≡ Memory → IsBuilt scalar built
handed_on scalar built e y is same h = subst (IsBuilt scalar) (sym is) (same ∙ h)

pub none_and : {X : Type 0} (P : X → Type 0) (o : Option X) → ((x : X) → o ≡ Some x → ⊥) → IsSomeAnd o P → ⊥
none_and P None none h = h
none_and P (Some x) none h = none x refl

pub none_some : {X : Type 0} (o : Option X) → ((x : X) → o ≡ Some x → ⊥) → IsSome o → ⊥
none_some None none h = absurd (cc)
none_some (Some x) none h = none x refl

pub not_asked : {X : Type 0} (o : Option X) (asked : Option RangeAsked) (a : RangeAsked) → ((x : X) → o ≡ Some x → ⊥) → IfNone o (asked ≡ None) → asked ≡ Some a → ⊥
not_asked None asked a none e is = let no : None ≡ Some a = sym e ∙ is in absurd (cc)
not_asked (Some x) asked a none e is = none x refl
