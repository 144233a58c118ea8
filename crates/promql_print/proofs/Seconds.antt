-- A time in seconds, and an offset that is told.
use Rattle.std.proofs.Common.{◌≡◌, zero, suc, ℤ, pos, negsuc, ◌++◌, refl, Option, Some, None}
use Rattle.std.specs.Prelude.{codes, ok_or}
use Rattle.std.specs.Result.{result_ok}
use Rattle.promql_print.specs.Canonical.{offset_text}
use Rattle.ticks.specs.Spellings.{spelling as duration_spelling}
use Rattle.xfrac.specs.declared.value.NumFault.{NumFault}
use Rattle.xfrac.specs.declared.value.XFrac.{XFrac}

-- an optional number that an error stands for, without the error
pub taken : (o : Option XFrac) (fault : NumFault) → result_ok (ok_or o fault) ≡ o
taken (Some value) fault = refl
taken None fault = refl

-- an offset that isn't 0 is told
pub told : (offset : ℤ) → (offset ≡ pos 0 → ⊥) → offset_text offset ≡ codes " offset " ++ duration_spelling offset
told (pos zero) some = absurd (some refl)
told (pos (suc n)) some = refl
told (negsuc n) some = refl
