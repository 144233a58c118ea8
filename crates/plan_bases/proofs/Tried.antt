-- Series that are tested one after another.
use Rattle.std.proofs.Common.{◌≡◌, ◌∙◌, ◌<◌, ◌≤◌, ◌+◌, ◌*◌, ℕ, zero, suc, arith, Bool, true, false, cond, List, [], ◌∷◌, ◌++◌, length, drop, filter, Some, slice_get, refl, sym, ap, subst, add-mul, one-mul}
use Rattle.std.specs.List.{AllByRecursion}

pub all_at : (most : ℕ) (numbers : List ℕ) (i n : ℕ) → AllByRecursion (λ (k : ℕ). k < most) numbers → slice_get numbers i ≡ Some n → n < most
all_at most [] i n a h = absurd (cc)
all_at most (x ∷ xs) zero n a h = let e : x ≡ n = cc in subst (λ z. z < most) e a.0
all_at most (x ∷ xs) (suc i) n a h = all_at most xs i n a.1 h

-- one turn more of as many tests
pub tests_more : (i rules before now after : ℕ) → now ≡ before + i * rules → after ≡ now + rules → after ≡ before + (i + 1) * rules
tests_more i rules before now after h k = let e : (i + 1) * rules ≡ i * rules + 1 * rules = add-mul i 1 rules in let one : 1 * rules ≡ rules = one-mul rules in omega (arith, h, k, e, one)

append-none : (xs : List ℕ) → xs ++ [] ≡ xs
append-none [] = refl
append-none (x ∷ xs) = ap (λ z. x ∷ z) (append-none xs)

append-again : (xs ys : List ℕ) (x : ℕ) → (xs ++ x ∷ []) ++ ys ≡ xs ++ x ∷ ys
append-again [] ys x = refl
append-again (z ∷ zs) ys x = ap (λ k. z ∷ k) (append-again zs ys x)

module _ (P : ℕ → Bool) where
  next : (numbers : List ℕ) (i n : ℕ) → slice_get numbers i ≡ Some n → filter P (drop i numbers) ≡ cond (P n) (n ∷ filter P (drop (i + 1) numbers)) (filter P (drop (i + 1) numbers))
  next [] i n h = absurd (cc)
  next (x ∷ xs) zero n h = let e : x ≡ n = cc in ap (λ z. cond (P z) (z ∷ filter P xs) (filter P xs)) e
  next (x ∷ xs) (suc i) n h =
      let j : suc (i + 1) ≡ suc i + 1 = omega arith in
      subst (λ z. filter P (drop i xs) ≡ cond (P n) (n ∷ filter P (drop z (x ∷ xs))) (filter P (drop z (x ∷ xs)))) j (next xs i n h)

  none_left : (numbers : List ℕ) (i : ℕ) → length numbers ≤ i → filter P (drop i numbers) ≡ []
  none_left [] zero h = refl
  none_left [] (suc i) h = refl
  none_left (x ∷ xs) zero h = absurd (omega (arith, h))
  none_left (x ∷ xs) (suc i) h = none_left xs i (omega (arith, h))

  pub all_tested : (numbers : List ℕ) (i : ℕ) (found all : List ℕ) → length numbers ≤ i → found ++ filter P (drop i numbers) ≡ all → found ≡ all
  all_tested numbers i found all l h = sym (append-none found) ∙ ap (λ z. found ++ z) (sym (none_left numbers i l)) ∙ h

  module _ (numbers : List ℕ) (i n : ℕ) (found all : List ℕ) (so : found ++ filter P (drop i numbers) ≡ all) (at : slice_get numbers i ≡ Some n) where
    pub failed : P n ≡ false → found ++ filter P (drop (i + 1) numbers) ≡ all
    failed off =
        let rest = filter P (drop (i + 1) numbers) in
        ap (λ z. found ++ z) (sym (next numbers i n at ∙ ap (λ b. cond b (n ∷ rest) rest) off)) ∙ so

    pub passed : (after : List ℕ) → P n ≡ true → after ≡ found ++ n ∷ [] → after ++ filter P (drop (i + 1) numbers) ≡ all
    passed after on e =
        let rest = filter P (drop (i + 1) numbers) in
        ap (λ z. z ++ rest) e ∙ append-again found rest n ∙ ap (λ z. found ++ z) (sym (next numbers i n at ∙ ap (λ b. cond b (n ∷ rest) rest) on)) ∙ so
