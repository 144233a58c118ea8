-- What a calendar function is called with.
use Rattle.std.proofs.Common.{◌≡◌, ◌<◌, List, [], ◌∷◌, ◌++◌, length, refl, arith}
use Rattle.std.specs.Prelude.{ℤ}
use Rattle.promql_meaning.specs.Elements.{time_step}
use Rattle.promql_meaning.specs.Meaning.{or_instant}
use Rattle.promql_meaning.specs.declared.given.Given.{Given}
use Rattle.promql_meaning.specs.declared.given.Given.TheVariants.{Vector}

pub none_is_instant : (gs : List Given) (t : ℤ) → length gs ≡ 0 → or_instant gs t ≡ gs ++ Vector (time_step t) ∷ []
none_is_instant [] t none = refl
none_is_instant (g ∷ gs) t none = absurd (omega arith)

pub some_are_kept : (gs : List Given) (t : ℤ) → 0 < length gs → or_instant gs t ≡ gs
some_are_kept [] t some = absurd (omega arith)
some_are_kept (g ∷ gs) t some = refl
