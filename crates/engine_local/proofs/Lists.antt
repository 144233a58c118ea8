-- Fronts of lists, and what holds of each item.
use Rattle.std.proofs.Common.{◌≡◌, ◌∙◌, ℕ, zero, suc, ◌+◌, ◌<◌, ◌≤◌, refl, sym, subst, ap, arith, List, [], ◌∷◌, ◌++◌, length, map, take, drop, slice_get, slice_set, get_or, Some, None, add-one}
use Rattle.std.specs.List.{AllByRecursion, Contains}

module _ {X : Type 0} where
  -- ---- fronts

  -- one item more of a list
  pub taken_more : (xs : List X) (k : ℕ) (x : X) → slice_get xs k ≡ Some x → take (k + 1) xs ≡ take k xs ++ x ∷ []
  taken_more xs k x e = rw add-one (by xs k e)
    where
      by : (ys : List X) (n : ℕ) → slice_get ys n ≡ Some x → take (suc n) ys ≡ take n ys ++ x ∷ []
      by [] n h = absurd (cc)
      by (y ∷ ys) zero h = cc
      by (y ∷ ys) (suc n) h = ap (λ zs. y ∷ zs) (by ys n h)

  pub all_dropped : (n : ℕ) (xs : List X) → length xs ≤ n → drop n xs ≡ []
  all_dropped zero [] w = refl
  all_dropped zero (x ∷ xs) w = absurd (omega (arith, w))
  all_dropped (suc n) [] w = refl
  all_dropped (suc n) (x ∷ xs) w = all_dropped n xs (omega (arith, w))

  pub drop_length : (n : ℕ) (xs : List X) → n ≤ length xs → n + length (drop n xs) ≡ length xs
  drop_length zero xs w = omega arith
  drop_length (suc n) [] w = absurd (omega (arith, w))
  drop_length (suc n) (x ∷ xs) w = let h = drop_length n xs (omega (arith, w)) in omega (arith, h)

  short : (n : ℕ) (zs : List X) → length (take n zs) ≤ length zs
  short zero zs = omega arith
  short (suc n) [] = omega arith
  short (suc n) (z ∷ zs) = let k = short n zs in omega (arith, k)

  -- what is a front of a list is no longer than it
  pub taken_most : (xs ys : List X) → xs ≡ take (length xs) ys → length xs ≤ length ys
  taken_most xs ys e = let h : length xs ≡ length (take (length xs) ys) = ap length e in let m = short (length xs) ys in omega (arith, h, m)

  -- ---- an item at a place

  pub past : (xs : List X) (i : ℕ) → slice_get xs i ≡ None → length xs ≤ i
  past [] i e = omega arith
  past (x ∷ xs) zero e = absurd (cc)
  past (x ∷ xs) (suc i) e = let h = past xs i e in omega (arith, h)

  pub get_dropped : (n : ℕ) (xs : List X) (i : ℕ) → slice_get (drop n xs) i ≡ slice_get xs (n + i)
  get_dropped zero xs i = let e : i ≡ 0 + i = omega arith in ap (slice_get xs) e
  get_dropped (suc n) [] i = refl
  get_dropped (suc n) (x ∷ xs) i = let e : suc n + i ≡ suc (n + i) = omega arith in get_dropped n xs i ∙ sym (ap (slice_get (x ∷ xs)) e)

  behind : (x y : X) (xs : List X) → Contains xs y → Contains (x ∷ xs) y
  behind x y xs (k, w, e) = (suc k, omega arith, e)

  pub member_at : (xs : List X) (i : ℕ) (x : X) → slice_get xs i ≡ Some x → Contains xs x
  member_at [] i x e = absurd (cc)
  member_at (y ∷ xs) zero x e = (0, omega arith, cc)
  member_at (y ∷ xs) (suc i) x e = behind y x xs (member_at xs i x e)

  pub inside : (xs : List X) (i : ℕ) (x : X) → slice_get xs i ≡ Some x → i < length xs
  inside [] i x e = absurd (cc)
  inside (y ∷ xs) zero x e = omega arith
  inside (y ∷ xs) (suc i) x e = let h = inside xs i x e in omega (arith, h)

  pub same_set : (xs : List X) (i : ℕ) (x : X) → slice_get xs i ≡ Some x → slice_set xs i x ≡ xs
  same_set [] i x e = absurd (cc)
  same_set (y ∷ xs) zero x e = let same : y ≡ x = cc in ap (λ z. z ∷ xs) (sym same)
  same_set (y ∷ xs) (suc i) x e = ap (λ ys. y ∷ ys) (same_set xs i x e)

  pub got : (xs : List X) (i : ℕ) (x y : X) → slice_get xs i ≡ Some x → y ≡ get_or xs i y → y ≡ x
  got [] i x y e h = absurd (cc)
  got (z ∷ xs) zero x y e h = let same : z ≡ x = cc in h ∙ same
  got (z ∷ xs) (suc i) x y e h = got xs i x y e h

  -- ---- what holds of each item

  module _ (P : X → Type 0) where
    pub members : (xs : List X) → ((x : X) → Contains xs x → P x) → AllByRecursion P xs
    members [] h = tt
    members (x ∷ xs) h = (h x (0, omega arith, refl), members xs (λ y c. h y (behind x y xs c)))

    pub all_at : (xs : List X) (i : ℕ) (x : X) → slice_get xs i ≡ Some x → AllByRecursion P xs → P x
    all_at [] i x e a = absurd (cc)
    all_at (y ∷ xs) zero x e a = let same : y ≡ x = cc in subst P same a.0
    all_at (y ∷ xs) (suc i) x e a = all_at xs i x e a.1

    pub all_set : (xs : List X) (i : ℕ) (x : X) → P x → AllByRecursion P xs → AllByRecursion P (slice_set xs i x)
    all_set [] zero x p a = tt
    all_set [] (suc i) x p a = tt
    all_set (y ∷ xs) zero x p a = (p, a.1)
    all_set (y ∷ xs) (suc i) x p a = (a.0, all_set xs i x p a.1)

    pub all_more : (xs : List X) (x : X) → P x → AllByRecursion P xs → AllByRecursion P (xs ++ x ∷ [])
    all_more [] x p a = (p, tt)
    all_more (y ∷ xs) x p a = (a.0, all_more xs x p a.1)

  pub all_weaker : (P Q : X → Type 0) → ((x : X) → P x → Q x) → (xs : List X) → AllByRecursion P xs → AllByRecursion Q xs
  all_weaker P Q to [] a = tt
  all_weaker P Q to (x ∷ xs) a = (to x a.0, all_weaker P Q to xs a.1)

-- ---- what is made of each item

module _ {X Y : Type 0} (f : X → Y) where
  -- what is found in the made list is made of what stands there
  pub made_at : (xs : List X) (i : ℕ) (y : Y) → slice_get (map f xs) i ≡ Some y → (x : X) × (slice_get xs i ≡ Some x) × (f x ≡ y)
  made_at [] i y e = absurd (cc)
  made_at (x ∷ xs) zero y e = (x, refl, cc)
  made_at (x ∷ xs) (suc i) y e = made_at xs i y e
