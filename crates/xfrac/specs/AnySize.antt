-- What holds of fractions of any size, within the limit or above it: a count of samples has no limit. (This project's own.)
use Rattle.std.specs.Prelude.{◌≡◌, ℕ, ◌<◌, ◌≤◌, ◌+◌, List, [], ◌∷◌, ◌++◌, None, unsigned_abs}
use Rattle.std.specs.Int.{IsGcd}
use Rattle.std.specs.List.{All}
use Rattle.std.specs.List.Sorted.{IsPermutation}
use Rattle.std.specs.declared.cmp.Ordering.TheVariants.{Less, Equal}
use Rattle.xfrac.specs.Laws.{IsNumber, IsWhole}
use Rattle.xfrac.specs.NumberLaws.{HasDenominator}
use Rattle.xfrac.specs.Order.{total_order}
use Rattle.xfrac.specs.Sums.{StandsFor, alone, sum_of, totals}
use Rattle.xfrac.specs.declared.value.XFrac.{XFrac}
use Rattle.xfrac.specs.declared.value.XFrac.TheVariants.{Fin}

-- a fraction of this magnitude and denominator is in lowest terms, however great they are
pub record AreLowest (magnitude denominator : ℕ) : Type 0 where
  pub positive : 0 < denominator
  pub lowest : IsGcd magnitude denominator 1

-- a value's fraction is in lowest terms; the infinities and NaN have no terms
abbrev pub InLowestTerms : XFrac → Type 0
InLowestTerms (Fin f) = AreLowest (unsigned_abs f.0) f.1
InLowestTerms _ = Unit {0}

-- ---- which values are in lowest terms

abbrev pub NumberIsLowest : Type 0
NumberIsLowest = (v : XFrac) → IsNumber v → InLowestTerms v

abbrev pub WholeIsLowest : Type 0
WholeIsLowest = (v : XFrac) → IsWhole v → InLowestTerms v

abbrev pub LowestHasDenominator : Type 0
LowestHasDenominator = (v : XFrac) → InLowestTerms v → HasDenominator v

-- ---- sums

-- a sum of fractions doesn't depend on the order of its list
abbrev pub AnySumIgnoresOrder : Type 0
AnySumIgnoresOrder = (xs ys : List XFrac) → All HasDenominator xs → IsPermutation xs ys → sum_of ys ≡ sum_of xs

-- the totals of one fraction stand for it
abbrev pub AloneStandsForAny : Type 0
AloneStandsForAny = (x : XFrac) → HasDenominator x → StandsFor (alone x) (x ∷ [])

-- neither the common denominator nor the sum of the magnitudes falls when a list of fractions grows
abbrev pub AnyTotalsNeverFall : Type 0
AnyTotalsNeverFall =
    (xs ys : List XFrac) → All HasDenominator xs → All HasDenominator ys → ((totals xs).multiple ≤ (totals (xs ++ ys)).multiple) × ((totals xs).above + (totals xs).below ≤ (totals (xs ++ ys)).above + (totals (xs ++ ys)).below)

-- so a part that has no sum leaves the whole without one
abbrev pub AnyPartOverflowsWhole : Type 0
AnyPartOverflowsWhole = (xs ys : List XFrac) → All HasDenominator xs → All HasDenominator ys → sum_of xs ≡ None → sum_of (xs ++ ys) ≡ None

-- ---- the order

-- in lowest terms, a fraction is equal to itself alone
abbrev pub EqualLowestIsSame : Type 0
EqualLowestIsSame = (a b : XFrac) → InLowestTerms a → InLowestTerms b → total_order a b ≡ Equal → a ≡ b

-- less carries over from fraction to fraction
abbrev pub LessOfAnyIsTransitive : Type 0
LessOfAnyIsTransitive =
    (a b c : XFrac) → HasDenominator a → HasDenominator b → HasDenominator c → total_order a b ≡ Less → total_order b c ≡ Less → total_order a c ≡ Less
