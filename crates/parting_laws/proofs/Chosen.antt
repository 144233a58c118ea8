-- What is made of some items, and of those that pass a test.
use Rattle.std.proofs.Common.{◌≡◌, ◌∙◌, Bool, true, false, cond, List, [], ◌∷◌, map, refl, sym, ap, subst, Some, None}
use Rattle.std.specs.Prelude.{◌||◌, ◌&&◌, Option, filter}
use Rattle.std.specs.declared.cmp.Ordering.{Ordering}
use Rattle.std.specs.declared.cmp.Ordering.TheVariants.{Less}
use Rattle.std.specs.List.{AllByRecursion, cons_option, filter_map, list_any}
use Rattle.std.specs.List.Sorted.{IsStrictlySortedBy}

pub everywhere : {X : Type 0} (P : X → Type 0) → ((x : X) → P x) → (xs : List X) → AllByRecursion P xs
everywhere P h [] = tt
everywhere P h (x ∷ xs) = (h x, everywhere P h xs)

pub mapped_along : {X : Type 0} (P Q : X → Type 0) → ((x : X) → P x → Q x) → (xs : List X) → AllByRecursion P xs → AllByRecursion Q xs
mapped_along P Q f [] a = tt
mapped_along P Q f (x ∷ xs) a = (f x a.0, mapped_along P Q f xs a.1)

pub both_along : {X : Type 0} (P Q : X → Type 0) (xs : List X) → AllByRecursion P xs → AllByRecursion Q xs → AllByRecursion (λ (x : X). P x × Q x) xs
both_along P Q [] a b = tt
both_along P Q (x ∷ xs) a b = ((a.0, b.0), both_along P Q xs a.1 b.1)

pub all_mapped : {X Y : Type 0} (P : Y → Type 0) (f : X → Y) (xs : List X) → AllByRecursion (λ (x : X). P (f x)) xs → AllByRecursion P (map f xs)
all_mapped P f [] a = tt
all_mapped P f (x ∷ xs) a = (a.0, all_mapped P f xs a.1)

pub of_mapped : {A B : Type 0} (Q : B → Type 0) (f : A → B) (xs : List A) → AllByRecursion Q (map f xs) → AllByRecursion (λ (x : A). Q (f x)) xs
of_mapped Q f [] a = tt
of_mapped Q f (x ∷ xs) a = (a.0, of_mapped Q f xs a.1)

pub filter_mapped : {X Y : Type 0} (p : Y → Bool) (f : X → Y) (xs : List X) → filter p (map f xs) ≡ map f (filter (λ x. p (f x)) xs)
filter_mapped p f [] = refl
filter_mapped p f (x ∷ xs) = by (p (f x)) (filter_mapped p f xs)
  where
    by : (b : Bool) → filter p (map f xs) ≡ map f (filter (λ x. p (f x)) xs) → cond b (f x ∷ filter p (map f xs)) (filter p (map f xs)) ≡ map f (cond b (x ∷ filter (λ x. p (f x)) xs) (filter (λ x. p (f x)) xs))
    by true rest = ap (λ ys. f x ∷ ys) rest
    by false rest = rest

pub filtered_none : {X : Type 0} (xs : List X) → filter (λ (x : X). false) xs ≡ []
filtered_none [] = refl
filtered_none (x ∷ xs) = filtered_none xs

pub both_true : (b c : Bool) → (b && c) ≡ true → (b ≡ true) × (c ≡ true)
both_true true c e = (refl, e)
both_true false c e = absurd (cc)

pub filter_turned : {X : Type 0} (p q : X → Bool) (xs : List X) → filter p (filter q xs) ≡ filter q (filter p xs)
filter_turned p q [] = refl
filter_turned p q (x ∷ xs) = by (p x) refl (q x) refl (filter_turned p q xs)
  where
    by : (b : Bool) → p x ≡ b → (c : Bool) → q x ≡ c → filter p (filter q xs) ≡ filter q (filter p xs) → filter p (cond c (x ∷ filter q xs) (filter q xs)) ≡ filter q (cond b (x ∷ filter p xs) (filter p xs))
    by true e true f rest = rw (e, f) (ap (λ ys. x ∷ ys) rest)
    by true e false f rest = rw f rest
    by false e true f rest = rw e rest
    by false e false f rest = rest

pub chosen_of_mapped : {A B C : Type 0} (f : B → Option C) (g : A → B) (xs : List A) → filter_map f (map g xs) ≡ filter_map (λ x. f (g x)) xs
chosen_of_mapped f g [] = refl
chosen_of_mapped f g (x ∷ xs) = ap (cons_option (f (g x))) (chosen_of_mapped f g xs)

-- a test of what there is
abbrev pub if_some : {B : Type 0} → (B → Bool) → Option B → Bool
if_some q None = false
if_some q (Some y) = q y

pub chosen_any : {A B : Type 0} (q : B → Bool) (h : A → Option B) (xs : List A) → list_any q (filter_map h xs) ≡ list_any (λ (x : A). if_some q (h x)) xs
chosen_any q h [] = refl
chosen_any {B = B} q h (x ∷ xs) = by (h x) (chosen_any q h xs)
  where
    by : (o : Option B) → list_any q (filter_map h xs) ≡ list_any (λ x. if_some q (h x)) xs → list_any q (cons_option o (filter_map h xs)) ≡ (if_some q o || list_any (λ x. if_some q (h x)) xs)
    by None e = e
    by (Some y) e = ap (λ b. q y || b) e

module _ {A B : Type 0} (f : A → Option B) where
  -- what is made of an item passes a test where the item passes another: so what is made of the items that pass is what passes of
  -- what is made of all
  pub chosen_filter : (s : A → Bool) (t : B → Bool) (xs : List A) → AllByRecursion (λ (x : A). (y : B) → f x ≡ Some y → t y ≡ s x) xs → filter_map f (filter s xs) ≡ filter t (filter_map f xs)
  chosen_filter s t [] a = refl
  chosen_filter s t (x ∷ xs) a = by (f x) refl (s x) refl (chosen_filter s t xs a.1)
    where
      by : (o : Option B) → f x ≡ o → (c : Bool) → s x ≡ c → filter_map f (filter s xs) ≡ filter t (filter_map f xs) → filter_map f (cond c (x ∷ filter s xs) (filter s xs)) ≡ filter t (cons_option o (filter_map f xs))
      by None e true g rest = rw e rest
      by None e false g rest = rest
      by (Some y) e true g rest = let k : t y ≡ true = a.0 y e ∙ g in rw (e, k) (ap (λ ys. y ∷ ys) rest)
      by (Some y) e false g rest = let k : t y ≡ false = a.0 y e ∙ g in rw k rest

  -- what holds of the items holds of what is made of them
  pub chosen_all : (P : A → Type 0) (Q : B → Type 0) → ((x : A) (y : B) → f x ≡ Some y → P x → Q y) → (xs : List A) → AllByRecursion P xs → AllByRecursion Q (filter_map f xs)
  chosen_all P Q h [] a = tt
  chosen_all P Q h (x ∷ xs) a = by (f x) refl (chosen_all P Q h xs a.1)
    where
      by : (o : Option B) → f x ≡ o → AllByRecursion Q (filter_map f xs) → AllByRecursion Q (cons_option o (filter_map f xs))
      by None e rest = rest
      by (Some y) e rest = (h x y e a.0, rest)

  module _ {K : Type 0} (R : K → K → Ordering) (k : A → K) (l : B → K) (same : (x : A) (y : B) → f x ≡ Some y → l y ≡ k x) where
    above_all : (q : K) (xs : List A) → AllByRecursion (λ (z : K). R q z ≡ Less) (map k xs) → AllByRecursion (λ (z : K). R q z ≡ Less) (map l (filter_map f xs))
    above_all q [] a = tt
    above_all q (x ∷ xs) a = by (f x) refl (above_all q xs a.1)
      where
        by : (o : Option B) → f x ≡ o → AllByRecursion (λ (z : K). R q z ≡ Less) (map l (filter_map f xs)) → AllByRecursion (λ (z : K). R q z ≡ Less) (map l (cons_option o (filter_map f xs)))
        by None e rest = rest
        by (Some y) e rest = (ap (R q) (same x y e) ∙ a.0, rest)

    -- what is made of items in order, under their keys, is in order
    pub chosen_sorted : (xs : List A) → IsStrictlySortedBy R (map k xs) → IsStrictlySortedBy R (map l (filter_map f xs))
    unfolding IsStrictlySortedBy
    chosen_sorted [] s = tt
    chosen_sorted (x ∷ xs) s = by (f x) refl (chosen_sorted xs s.1)
      where
        by : (o : Option B) → f x ≡ o → IsStrictlySortedBy R (map l (filter_map f xs)) → IsStrictlySortedBy R (map l (cons_option o (filter_map f xs)))
        by None e rest = rest
        by (Some y) e rest = (subst (λ (q : K). AllByRecursion (λ (z : K). R q z ≡ Less) (map l (filter_map f xs))) (sym (same x y e)) (above_all (k x) xs s.0), rest)
