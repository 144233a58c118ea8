-- Numbers that are noted by where they stand.
use Rattle.std.proofs.Common.{◌≡◌, ◌∙◌, ◌<◌, ◌≤◌, ◌+◌, ℕ, zero, suc, arith, List, [], ◌∷◌, ◌++◌, length, get_or, take, refl, sym, ap, subst, Some}
use Rattle.std.specs.Prelude.{slice_get}
use Rattle.std.proofs.Math.ListN.{set}
use Rattle.op_match.specs.Noted.{AreBelow, IsNoted}
use Rattle.op_match.proofs.Lists.{from_front, took, within, whole}

pub below : (bound : ℕ) (keys : List ℕ) (i k : ℕ) → AreBelow bound keys → slice_get keys i ≡ Some k → k < bound
below bound [] i k a e = absurd (cc)
below bound (x ∷ keys) zero k a e = let same : x ≡ k = cc in subst (λ (n : ℕ). n < bound) same a.0
below bound (x ∷ keys) (suc i) k a e = below bound keys i k a.1 e

set_here : (xs : List ℕ) (i x : ℕ) → i < length xs → slice_get (set xs i x) i ≡ Some x
set_here [] i x h = absurd (omega arith)
set_here (y ∷ xs) zero x h = refl
set_here (y ∷ xs) (suc i) x h = set_here xs i x (omega arith)

set_there : (xs : List ℕ) (i j x y : ℕ) → (i ≡ j → ⊥) → slice_get xs j ≡ Some y → slice_get (set xs i x) j ≡ Some y
set_there [] i j x y n e = absurd (cc)
set_there (z ∷ xs) zero zero x y n e = absurd (n refl)
set_there (z ∷ xs) zero (suc j) x y n e = e
set_there (z ∷ xs) (suc i) zero x y n e = e
set_there (z ∷ xs) (suc i) (suc j) x y n e = set_there xs i j x y (λ h. n (ap suc h)) e

at_end : (xs : List ℕ) (y : ℕ) (j x : ℕ) (P : Type 0) → (slice_get xs j ≡ Some x → P) → (j ≡ length xs → y ≡ x → P) → slice_get (xs ++ y ∷ []) j ≡ Some x → P
at_end [] y zero x P f g e = g refl (cc)
at_end [] y (suc j) x P f g e = absurd (cc)
at_end (z ∷ xs) y zero x P f g e = f e
at_end (z ∷ xs) y (suc j) x P f g e = at_end xs y j x P f (λ h k. g (ap suc h) k) e

count_front : (keys : List ℕ) (i : ℕ) → i ≤ length keys → length (take i keys) ≡ i
count_front keys zero h = refl
count_front [] (suc i) h = absurd (omega arith)
count_front (k ∷ keys) (suc i) h = ap suc (count_front keys i (omega arith))

-- one more is noted, which isn't among those before
pub note_more : (at keys : List ℕ) (i key d : ℕ) → i < length keys → key ≡ get_or keys i d → key < length at
    → ((j : ℕ) → j < i → slice_get keys j ≡ Some key → slice_get at key ≡ Some j → ⊥) → IsNoted at (take i keys) → IsNoted (set at key i) (take (i + 1) keys)
note_more at keys i key d l is room none noted j k e =
    at_end (take i keys) (get_or keys i d) j k (slice_get (set at key i) k ≡ Some j)
    (λ f. set_there at key k i j (λ same. none j (subst (λ (n : ℕ). j < n) (count_front keys i (let m : i ≤ length keys = omega arith in m)) (within (take i keys) j k f)) (subst (λ (n : ℕ). slice_get keys j ≡ Some n) (sym same) (from_front i keys j k f)) (subst (λ (n : ℕ). slice_get at n ≡ Some j) (sym same) (noted j k f))) (noted j k f))
    (λ f g. let same : key ≡ k = is ∙ g in let place : j ≡ i = f ∙ count_front keys i (omega arith) in
    subst (λ (n : ℕ). slice_get (set at key i) n ≡ Some j) same (set_here at key i room ∙ ap Some (sym place)))
    (subst (λ (ks : List ℕ). slice_get ks j ≡ Some k) (took keys i d l) e)

pub noted_whole : (at keys : List ℕ) (i : ℕ) → length keys ≤ i → IsNoted at (take i keys) → IsNoted at keys
noted_whole at keys i l = subst (IsNoted at) (whole keys i l)
