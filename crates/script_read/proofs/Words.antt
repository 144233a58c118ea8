-- Lines of words, by their number.
use Rattle.std.proofs.Common.{◌≡◌, ◌≤◌, ℕ, List, [], ◌∷◌, length, get_or, map, refl, Bor, Ok, Err, arith}
use Rattle.script_read.specs.Results.{number_alone}
use Rattle.script_read.specs.Words.{number_spelled}
use Rattle.script_read.specs.declared.fault.LineFault.TheVariants.{Malformed}
use Rattle.xfrac.specs.declared.value.XFrac.{XFrac}

module _ (f : Bor (List ℕ) → List ℕ) where
  -- a number is alone
  pub number_beside : (words : List (Bor (List ℕ))) (d : Bor (List ℕ)) (value : XFrac) → 2 ≤ length words → number_spelled (f (get_or words 0 d)) ≡ Ok value → number_alone (map f words) ≡ Err Malformed
  number_beside [] d value two is = absurd (omega arith)
  number_beside (a ∷ []) d value two is = absurd (omega arith)
  number_beside (a ∷ b ∷ words) d value two is = rw is refl
