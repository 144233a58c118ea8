-- Why a part isn't built is handed on.
use Rattle.std.proofs.Common.{◌≡◌, ◌∙◌, Bool, subst, sym}
use Rattle.std.specs.Prelude.{Result, Err}
use Rattle.plan_parts.specs.Parts.{IsBuilt}
use Rattle.plan_parts.specs.declared.parts.Part.{Part}
use Rattle.plan_parts.specs.declared.unbuilt.Unbuilt.{Unbuilt}
use Rattle.plan_parts.specs.declared.unbuilt.Unbuilt.TheVariants.{Memory}

pub handed_on : (scalar : Bool) (built : Result Part Unbuilt) (e y : Unbuilt) → built ≡ Err y → y ≡ e → e ≡ Memory → IsBuilt scalar built
handed_on scalar built e y is same h = subst (IsBuilt scalar) (sym is) (same ∙ h)
