-- The counts that are noted under numbers, and the quotients of rows by them.
use Rattle.std.proofs.Common.{◌≡◌, ◌≢◌, ◌⊎◌, ◌∙◌, ◌+◌, ◌<◌, ℕ, zero, suc, arith, List, [], ◌∷◌, ◌++◌, length, get_or, set, take, refl, sym, ap, subst, None, inl, inr}
use Rattle.std.specs.Prelude.{◌==◌, true, false}
use Rattle.std.specs.List.{AllByRecursion}
use Rattle.std.proofs.lemmas.Bool.Decides.{eqb_tells}
use Rattle.step_batch.specs.Lent.{SlotsRise}
use Rattle.step_batch.specs.declared.steps.Slot.{Slot}
use Rattle.step_put.specs.Placed.{PlacesRise}
use Rattle.step_put.specs.declared.placed.PlacedOutcome.{PlacedOutcome}
use Rattle.xfrac.specs.declared.value.XFrac.{XFrac}
use Rattle.op_ratio.specs.Counts.{AreNoted, AreQuotients, HasCount, IsCount, IsNoted, IsQuotient, number_of}

-- a slot by its place in a list stands at a place of labels
pub slot_within : (low high : ℕ) (slots : List Slot) (i : ℕ) (d : Slot) → i < length slots → SlotsRise low high slots → (get_or slots i d).place < high
slot_within low high [] i d l r = absurd (omega arith)
slot_within low high (s ∷ slots) zero d l r = r.1
slot_within low high (s ∷ slots) (suc i) d l r = slot_within (s.place + 1) high slots i d (omega arith) r.2

-- whatever stands for those that are absent
pub any_default : (slots : List Slot) (i : ℕ) (d e : Slot) → i < length slots → get_or slots i d ≡ get_or slots i e
any_default [] i d e l = absurd (omega arith)
any_default (s ∷ slots) zero d e l = refl
any_default (s ∷ slots) (suc i) d e l = any_default slots i d e (omega arith)

-- ---- what is noted

set_same : (at : List ℕ) (n i : ℕ) → n < length at → get_or (set at n i) n 0 ≡ i
set_same [] n i h = absurd (omega arith)
set_same (m ∷ at) zero i h = refl
set_same (m ∷ at) (suc n) i h = set_same at n i (omega arith)

set_other : (at : List ℕ) (n k i : ℕ) → (n ≡ k → ⊥) → get_or (set at n i) k 0 ≡ get_or at k 0
set_other [] n k i h = refl
set_other (m ∷ at) zero zero i h = absurd (h refl)
set_other (m ∷ at) zero (suc k) i h = refl
set_other (m ∷ at) (suc n) zero i h = refl
set_other (m ∷ at) (suc n) (suc k) i h = set_other at n k i (λ e. h (ap suc e))

pub set_count : (at : List ℕ) (n i : ℕ) → length (set at n i) ≡ length at
set_count [] n i = refl
set_count (m ∷ at) zero i = refl
set_count (m ∷ at) (suc n) i = ap suc (set_count at n i)

-- a row is noted under its number
noted_here : (at numbers : List ℕ) (slots : List Slot) (i n : ℕ) → i < length slots → n < length at → ((d : Slot) → n ≡ number_of numbers (get_or slots i d)) → IsNoted (set at n i) numbers slots n
noted_here at numbers slots i n l h e =
    let here = set_same at n i h in
    (subst (λ (j : ℕ). j < length slots) (sym here) l, λ d. ap (λ (j : ℕ). number_of numbers (get_or slots j d)) here ∙ sym (e d))

noted_there : (at numbers : List ℕ) (slots : List Slot) (i n k : ℕ) → (n ≡ k → ⊥) → IsNoted at numbers slots k → IsNoted (set at n i) numbers slots k
noted_there at numbers slots i n k h a =
    let there = set_other at n k i h in
    (subst (λ (j : ℕ). j < length slots) (sym there) a.0, λ d. ap (λ (j : ℕ). number_of numbers (get_or slots j d)) there ∙ a.1 d)

-- one more row
pub noted_more : (at numbers : List ℕ) (slots : List Slot) (i n : ℕ) → i < length slots → n < length at → ((d : Slot) → n ≡ number_of numbers (get_or slots i d)) → AreNoted i at numbers slots → AreNoted (i + 1) (set at n i) numbers slots
noted_more at numbers slots i n l h e a k d b = one (eqb_tells n (number_of numbers (get_or slots k d)))
  where
    one : (((n == number_of numbers (get_or slots k d)) ≡ true) × (n ≡ number_of numbers (get_or slots k d))) ⊎ (((n == number_of numbers (get_or slots k d)) ≡ false) × (n ≢ number_of numbers (get_or slots k d))) → IsNoted (set at n i) numbers slots (number_of numbers (get_or slots k d))
    one (inl w) = subst (IsNoted (set at n i) numbers slots) w.1 (noted_here at numbers slots i n l h e)
    one (inr w) =
        let other : k ≡ i → ⊥ = λ same. w.1 (e d ∙ ap (λ (j : ℕ). number_of numbers (get_or slots j d)) (sym same)) in
        noted_there at numbers slots i n (number_of numbers (get_or slots k d)) w.1 (a k d (before k other b))
      where
        before : (k : ℕ) → (k ≡ i → ⊥) → k < i + 1 → k < i
        before k f b = omega (arith, f, b)

-- ---- what is found

pub count_there : (numbers : List ℕ) (slots : List Slot) (i number : ℕ) (value : XFrac) (d : Slot) → i < length slots → number_of numbers (get_or slots i d) ≡ number → (get_or slots i d).value ≡ value → HasCount numbers number value slots
count_there numbers [] i number value d l e f = absurd (omega arith)
count_there numbers (s ∷ slots) zero number value d l e f = inl (e, f)
count_there numbers (s ∷ slots) (suc i) number value d l e f = inr (count_there numbers slots i number value d (omega arith) e f)

none_there : (numbers : List ℕ) (slots : List Slot) (number : ℕ) → ((k : ℕ) (d : Slot) → k < length slots → number_of numbers (get_or slots k d) ≡ number → ⊥) → AllByRecursion (λ (s : Slot). number_of numbers s ≡ number → ⊥) slots
none_there numbers [] number f = tt
none_there numbers (s ∷ slots) number f = (f 0 s (omega arith), none_there numbers slots number (λ k d l. f (suc k) d (omega arith)))

-- where what is noted under a number isn't a row of this number, no row has it
pub none_noted : (at numbers : List ℕ) (slots : List Slot) (number : ℕ) → AreNoted (length slots) at numbers slots → (IsNoted at numbers slots number → ⊥) → IsCount numbers slots number None
none_noted at numbers slots number a f = none_there numbers slots number (λ k d l e. f (subst (IsNoted at numbers slots) e (a k d l)))

-- ---- quotients

-- one more row
pub quotients_more : (sum_numbers count_numbers : List ℕ) (counts sums : List Slot) (placed : List PlacedOutcome) (i : ℕ) (d : Slot) (p : PlacedOutcome) → i < length sums
    → AreQuotients sum_numbers count_numbers counts (take i sums) placed → IsQuotient sum_numbers count_numbers counts (get_or sums i d) p → AreQuotients sum_numbers count_numbers counts (take (i + 1) sums) (placed ++ p ∷ [])
quotients_more sum_numbers count_numbers counts [] placed i d p l a q = absurd (omega arith)
quotients_more sum_numbers count_numbers counts (s ∷ sums) [] zero d p l a q = (q, tt)
quotients_more sum_numbers count_numbers counts (s ∷ sums) (x ∷ placed) zero d p l a q = absurd a
quotients_more sum_numbers count_numbers counts (s ∷ sums) [] (suc i) d p l a q = absurd a
quotients_more sum_numbers count_numbers counts (s ∷ sums) (x ∷ placed) (suc i) d p l a q =
    let n : suc i + 1 ≡ suc (i + 1) = omega arith in rw n (a.0, quotients_more sum_numbers count_numbers counts sums placed i d p (omega arith) a.1 q)

pub placed_rise : (sum_numbers count_numbers : List ℕ) (counts : List Slot) (low high : ℕ) (sums : List Slot) (placed : List PlacedOutcome) → AreQuotients sum_numbers count_numbers counts sums placed → SlotsRise low high sums → PlacesRise low high placed
placed_rise sum_numbers count_numbers counts low high [] [] a r = tt
placed_rise sum_numbers count_numbers counts low high [] (p ∷ placed) a r = absurd a
placed_rise sum_numbers count_numbers counts low high (s ∷ sums) [] a r = absurd a
placed_rise sum_numbers count_numbers counts low high (s ∷ sums) (p ∷ placed) a r =
    let e : p.place ≡ s.place = a.0.place in
    let rest = placed_rise sum_numbers count_numbers counts (s.place + 1) high sums placed a.1 r.2 in
    (omega (arith, e, r.0), omega (arith, e, r.1), subst (λ (n : ℕ). PlacesRise (n + 1) high placed) (sym e) rest)
