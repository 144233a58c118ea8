-- What users rely on of sums, nearness, the order and rounding to whole numbers. (This project's own.)
use Rattle.std.specs.Prelude.{◌≡◌, ℕ, ◌<◌, ◌≤◌, ◌+◌, ◌*◌, ℤ, pos, ◌+ℤ◌, ◌*ℤ◌, List, [], ◌∷◌, ◌++◌, None, Ok, unsigned_abs, IsTrue}
use Rattle.std.specs.Int.{IsGcd, ◌∣◌}
use Rattle.std.specs.List.{All}
use Rattle.std.specs.List.Sorted.{IsPermutation}
use Rattle.std.specs.declared.cmp.Ordering.TheVariants.{Less, Equal}
use Rattle.std.specs.Ordering.{ordering_reverse, is_le}
use Rattle.xfrac.specs.Arithmetic.{arithmetic}
use Rattle.xfrac.specs.Divisors.{lcm}
use Rattle.xfrac.specs.Forming.{floor_of, ceiling_of}
use Rattle.xfrac.specs.Fractions.{IsReduced, lowest}
use Rattle.xfrac.specs.Near.{is_near}
use Rattle.xfrac.specs.Order.{total_order}
use Rattle.xfrac.specs.Sums.{Totals, StandsFor, alone, joined, totals, sum_of}
use Rattle.xfrac.specs.declared.value.ArithOp.TheVariants.{Add}
use Rattle.xfrac.specs.declared.value.XFrac.{XFrac}
use Rattle.xfrac.specs.declared.value.XFrac.TheVariants.{Fin}

-- a value of the type: its fraction is in lowest terms and within the limit
abbrev pub IsNumber : XFrac → Type 0
IsNumber (Fin f) = IsReduced (unsigned_abs f.0) f.1
IsNumber _ = Unit {0}

-- a sum doesn't depend on the order of its list
abbrev pub SumIgnoresOrder : Type 0
SumIgnoresOrder = (xs ys : List XFrac) → All IsNumber xs → IsPermutation xs ys → sum_of ys ≡ sum_of xs

-- the sum of two fractions is (a * e + b * d)/(d * e) in lowest terms, whatever common denominator it is formed over
abbrev pub SumIsExact : Type 0
SumIsExact =
    (a b : ℤ × ℕ) (v : XFrac) → 0 < a.1 → 0 < b.1 → arithmetic Add (Fin a) (Fin b) ≡ Ok v → IsNumber v × (v ≡ Fin (lowest (a.0 *ℤ pos b.1 +ℤ b.0 *ℤ pos a.1) (a.1 * b.1)))

-- joined totals stand for both lists together, and the totals of one number for that number
abbrev pub JoinedStandsForBoth : Type 0
JoinedStandsForBoth =
    (a b : Totals) (xs ys : List XFrac) → 0 < a.multiple → 0 < b.multiple → StandsFor a xs → StandsFor b ys → StandsFor (joined a b) (xs ++ ys)

abbrev pub AloneStandsForOne : Type 0
AloneStandsForOne = (x : XFrac) → IsNumber x → StandsFor (alone x) (x ∷ [])

-- neither the common denominator nor the sum of the magnitudes falls when a list grows
abbrev pub TotalsNeverFall : Type 0
TotalsNeverFall =
    (xs ys : List XFrac) → All IsNumber xs → All IsNumber ys → ((totals xs).multiple ≤ (totals (xs ++ ys)).multiple) × ((totals xs).above + (totals xs).below ≤ (totals (xs ++ ys)).above + (totals (xs ++ ys)).below)

-- so a part that has no sum leaves the whole without one
abbrev pub PartOverflowsWhole : Type 0
PartOverflowsWhole = (xs ys : List XFrac) → All IsNumber xs → All IsNumber ys → sum_of xs ≡ None → sum_of (xs ++ ys) ≡ None

-- nearness is symmetric
abbrev pub NearIsSymmetric : Type 0
NearIsSymmetric = (a b : XFrac) → is_near a b ≡ is_near b a

-- the order is total: each number is equal to itself alone, of two others one is less, and less carries over
abbrev pub EqualIsSame : Type 0
EqualIsSame = (a b : XFrac) → IsNumber a → IsNumber b → total_order a b ≡ Equal → a ≡ b

abbrev pub OrderIsReflexive : Type 0
OrderIsReflexive = (a : XFrac) → total_order a a ≡ Equal

abbrev pub OrderIsReversed : Type 0
OrderIsReversed = (a b : XFrac) → total_order b a ≡ ordering_reverse (total_order a b)

abbrev pub LessIsTransitive : Type 0
LessIsTransitive =
    (a b c : XFrac) → IsNumber a → IsNumber b → IsNumber c → total_order a b ≡ Less → total_order b c ≡ Less → total_order a c ≡ Less

-- the lowest terms of n/d are n/d, and nothing above 1 divides both
abbrev pub LowestIsEqual : Type 0
LowestIsEqual = (n : ℤ) (d : ℕ) → 0 < d → (lowest n d).0 *ℤ pos d ≡ n *ℤ pos (lowest n d).1

abbrev pub LowestIsReduced : Type 0
LowestIsReduced = (n : ℤ) (d : ℕ) → 0 < d → IsGcd (unsigned_abs (lowest n d).0) (lowest n d).1 1

-- the least common multiple of two numbers is a multiple of both, and divides each number that is
abbrev pub LcmIsMultiple : Type 0
LcmIsMultiple = (a b : ℕ) → 0 < a → 0 < b → (a ∣ lcm a b) × (b ∣ lcm a b)

abbrev pub LcmIsLeast : Type 0
LcmIsLeast = (a b n : ℕ) → 0 < a → 0 < b → a ∣ n → b ∣ n → lcm a b ∣ n

-- a whole number
abbrev pub IsWhole : XFrac → Type 0
IsWhole (Fin f) = f.1 ≡ 1
IsWhole _ = ⊥

-- in the order, one number isn't above another
abbrev pub AtMost : XFrac → XFrac → Type 0
AtMost a b = IsTrue (is_le (total_order a b))

-- the floor of a fraction is a whole number; it isn't above, and no other whole number that isn't above is greater
abbrev pub FloorIsWhole : Type 0
FloorIsWhole = (f : ℤ × ℕ) → IsWhole (floor_of (Fin f))

abbrev pub FloorIsNotAbove : Type 0
FloorIsNotAbove = (v : XFrac) → IsNumber v → AtMost (floor_of v) v

abbrev pub FloorIsGreatest : Type 0
FloorIsGreatest = (v w : XFrac) → IsNumber v → IsWhole w → AtMost w v → AtMost w (floor_of v)

-- the ceiling of a fraction is a whole number; it isn't below, and no other whole number that isn't below is less
abbrev pub CeilingIsWhole : Type 0
CeilingIsWhole = (f : ℤ × ℕ) → IsWhole (ceiling_of (Fin f))

abbrev pub CeilingIsNotBelow : Type 0
CeilingIsNotBelow = (v : XFrac) → IsNumber v → AtMost v (ceiling_of v)

abbrev pub CeilingIsLeast : Type 0
CeilingIsLeast = (v w : XFrac) → IsNumber v → IsWhole w → AtMost v w → AtMost (ceiling_of v) w
