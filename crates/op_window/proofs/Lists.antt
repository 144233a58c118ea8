-- One place more of a list.
use Rattle.std.proofs.Common.{◌≡◌, ◌∙◌, ℕ, zero, suc, ◌+◌, ◌<◌, List, [], ◌∷◌, ◌++◌, length, get_or, slice_set, take, drop, map, Option, Some, None, refl, sym, ap, arith}
use Rattle.std.specs.Prelude.{slice_get}
use Rattle.std.specs.List.{AllByRecursion, cons_option, filter_map}
use Rattle.std.specs.Option.{option_to_list}

-- ---- a list that is changed place by place

pub changed_length : {A : Type 0} (F G : ℕ → A) (xs : List ℕ) (i : ℕ) → length (map F (take i xs) ++ map G (drop i xs)) ≡ length xs
changed_length F G [] zero = refl
changed_length F G [] (suc i) = refl
changed_length F G (x ∷ xs) zero = ap suc (changed_length F G xs zero)
changed_length F G (x ∷ xs) (suc i) = ap suc (changed_length F G xs i)

pub still_there : {A : Type 0} (F G : ℕ → A) (xs : List ℕ) (i : ℕ) → i < length xs → slice_get (map F (take i xs) ++ map G (drop i xs)) i ≡ Some (G (get_or xs i 0))
still_there F G [] i h = absurd (omega arith)
still_there F G (x ∷ xs) zero h = refl
still_there F G (x ∷ xs) (suc i) h = still_there F G xs i (omega arith)

pub changed_there : {A : Type 0} (F G : ℕ → A) (xs : List ℕ) (i : ℕ) → i < length xs
    → slice_set (map F (take i xs) ++ map G (drop i xs)) i (F (get_or xs i 0)) ≡ map F (take (i + 1) xs) ++ map G (drop (i + 1) xs)
changed_there F G [] i h = absurd (omega arith)
changed_there F G (x ∷ xs) zero h = refl
changed_there F G (x ∷ xs) (suc i) h = let e : suc i + 1 ≡ suc (i + 1) = omega arith in rw e (ap (λ r. F x ∷ r) (changed_there F G xs i (omega arith)))

-- ---- what is made of a list item by item

pub mapped_more : {A B : Type 0} (f : A → B) (xs : List A) (i : ℕ) (d : A) → i < length xs → map f (take i xs) ++ f (get_or xs i d) ∷ [] ≡ map f (take (i + 1) xs)
mapped_more f [] i d h = absurd (omega arith)
mapped_more f (x ∷ xs) zero d h = refl
mapped_more f (x ∷ xs) (suc i) d h = let e : suc i + 1 ≡ suc (i + 1) = omega arith in rw e (ap (λ r. f x ∷ r) (mapped_more f xs i d (omega arith)))

pub filtered_more : {A B : Type 0} (f : A → Option B) (xs : List A) (i : ℕ) (d : A) → i < length xs → filter_map f (take (i + 1) xs) ≡ filter_map f (take i xs) ++ option_to_list (f (get_or xs i d))
filtered_more f [] i d h = absurd (omega arith)
filtered_more {A} {B} f (x ∷ xs) zero d h = elim (f x) as (λ (o : Option B). cons_option o [] ≡ option_to_list o) [ None ↦ refl | Some b ↦ refl ]
filtered_more {A} {B} f (x ∷ xs) (suc i) d h =
    let e : suc i + 1 ≡ suc (i + 1) = omega arith in
    rw e (ap (cons_option (f x)) (filtered_more f xs i d (omega arith)) ∙ behind (f x) (filter_map f (take i xs)) (option_to_list (f (get_or xs i d))))
  where
    behind : (o : Option B) (ys zs : List B) → cons_option o (ys ++ zs) ≡ cons_option o ys ++ zs
    behind None ys zs = refl
    behind (Some b) ys zs = refl

pub map_both : {A B : Type 0} (f : A → B) (xs ys : List A) → map f (xs ++ ys) ≡ map f xs ++ map f ys
map_both f [] ys = refl
map_both f (x ∷ xs) ys = ap (λ r. f x ∷ r) (map_both f xs ys)

pub filter_both : {A B : Type 0} (f : A → Option B) (xs ys : List A) → filter_map f (xs ++ ys) ≡ filter_map f xs ++ filter_map f ys
filter_both f [] ys = refl
filter_both {A} {B} f (x ∷ xs) ys = ap (cons_option (f x)) (filter_both f xs ys) ∙ behind (f x) (filter_map f xs) (filter_map f ys)
  where
    behind : (o : Option B) (us vs : List B) → cons_option o (us ++ vs) ≡ cons_option o us ++ vs
    behind None us vs = refl
    behind (Some b) us vs = refl

pub filter_one : {A B : Type 0} (f : A → Option B) (x : A) → filter_map f (x ∷ []) ≡ option_to_list (f x)
filter_one {A} {B} f x = elim (f x) as (λ (o : Option B). cons_option o [] ≡ option_to_list o) [ None ↦ refl | Some b ↦ refl ]

pub at_of : {A : Type 0} (P : A → Type 0) (xs : List A) (i : ℕ) (d : A) → i < length xs → AllByRecursion P xs → P (get_or xs i d)
at_of P [] i d l a = absurd (omega arith)
at_of P (x ∷ xs) zero d l a = a.0
at_of P (x ∷ xs) (suc i) d l a = at_of P xs i d (omega arith) a.1

pub some_same : {A : Type 0} (o : Option A) (x y : A) → o ≡ Some x → o ≡ Some y → x ≡ y
some_same {A} o x y e f = ap (λ (p : Option A). got p) (sym e ∙ f)
  where
    got : Option A → A
    got None = x
    got (Some z) = z
