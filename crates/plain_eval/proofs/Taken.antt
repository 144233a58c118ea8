-- Arguments that are taken one after another.
use Rattle.std.proofs.Common.{◌≡◌, ℕ, suc, List, [], ◌∷◌, drop, Some, refl, sym}
use Rattle.std.specs.Prelude.{slice_get, slice_index_or}
use Rattle.promql_meaning.specs.declared.given.Given.{Given}
use Rattle.promql_meaning.specs.Meaning.{argument}

pub first_is : (xs : List Given) (x : Given) → slice_get xs 0 ≡ Some x → x ≡ argument xs 0
first_is [] x is = absurd (cc)
first_is (y ∷ xs) x is = let e : y ≡ x = cc in sym e

at_later : (d : Given) (xs : List Given) (i : ℕ) → slice_index_or (drop 1 xs) i d ≡ slice_index_or xs (suc i) d
at_later d [] i = refl
at_later d (x ∷ xs) i = refl

pub second_is : (xs : List Given) → argument (drop 1 xs) 0 ≡ argument xs 1
second_is [] = refl
second_is (x ∷ xs) = refl

pub third_is : (xs : List Given) → argument (drop 1 (drop 1 xs)) 0 ≡ argument xs 2
third_is [] = refl
third_is (x ∷ xs) = second_is xs

pub fourth_is : (xs : List Given) → argument (drop 1 (drop 1 (drop 1 xs))) 0 ≡ argument xs 3
fourth_is [] = refl
fourth_is (x ∷ xs) = third_is xs

pub other_is : (d : Given) (xs : List Given) → slice_index_or (drop 1 xs) 0 d ≡ slice_index_or xs 1 d
other_is d xs = at_later d xs 0

pub behind_third : (xs : List Given) → drop 1 (drop 1 (drop 1 xs)) ≡ drop 3 xs
behind_third [] = refl
behind_third (x ∷ []) = refl
behind_third (x ∷ y ∷ []) = refl
behind_third (x ∷ y ∷ z ∷ xs) = refl
