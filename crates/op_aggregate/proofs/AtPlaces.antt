-- Values by places: one more of them, and what is kept of each place.
use Rattle.std.proofs.Common.{◌≡◌, ◌∙◌, ◌<◌, ◌≤◌, ℕ, zero, suc, arith, Bool, true, false, cond, List, [], ◌∷◌, ◌++◌, length, slice_get, get_or, take, ◌+◌, refl, sym, ap, subst, Some}
use Rattle.std.specs.Prelude.{◌==◌, ◌||◌, not, filter, fold, slice_set, if◌then◌else◌}
use Rattle.std.specs.List.{AllByRecursion}
use Rattle.std.specs.Map.{keys_of, values_of}
use Rattle.std.proofs.lemmas.Bool.Decides.{nat_tests}
use Rattle.std.proofs.lemmas.List.{map-append}
use Rattle.std.proofs.lemmas.List.Elements.{filter-append}
use Rattle.std.proofs.lemmas.List.Sums.{fold-append}
use Rattle.step_table.specs.Shuffles.{Shuffled, none, kept, swapped, joined}
use Rattle.step_table.specs.Shuffling.{any_shuffled}
use Rattle.xfrac.specs.declared.value.XFrac.{XFrac}
use Rattle.op_aggregate.specs.Places.{AreApart, has_place, places_of, values_at, with_place}

abbrev pub Item : Type 0
Item = ℕ × XFrac

never : true ≡ false → ⊥
never e = cc

-- ---- tests of places

pub same_place : (p q : ℕ) → (p == q) ≡ true → p ≡ q
same_place p q e = grind (arith, nat_tests, e)

pub tests_itself : (p : ℕ) → (p == p) ≡ true
tests_itself p = grind (arith, nat_tests)

pub tests_apart : (p q : ℕ) → (p ≡ q → ⊥) → (p == q) ≡ false
tests_apart p q n = elim (p == q) as (λ b. (p == q) ≡ b → b ≡ false) [
  | true ↦ λ e. absurd (n (same_place p q e))
  | false ↦ λ e. refl
] refl

-- ---- all of them

pub all_append : {A : Type 0} (P : A → Type 0) (xs ys : List A) → AllByRecursion P xs → AllByRecursion P ys → AllByRecursion P (xs ++ ys)
all_append P [] ys a b = b
all_append P (x ∷ xs) ys a b = (a.0, all_append P xs ys a.1 b)

-- what holds of each place that is among them
pub all_there : (P : ℕ → Type 0) (places : List ℕ) → ((q : ℕ) → has_place q places ≡ true → P q) → AllByRecursion P places
all_there P [] f = tt
all_there P (p ∷ places) f = (f p (ap (λ (b : Bool). b || has_place p places) (tests_itself p)), all_there P places (λ q e. f q (later (q == p) (has_place q places) e)))
  where
    later : (a b : Bool) → b ≡ true → (a || b) ≡ true
    later true b e = refl
    later false b e = e

pub one_there : (P : ℕ → Type 0) (places : List ℕ) (q : ℕ) → AllByRecursion P places → has_place q places ≡ true → P q
one_there P [] q a e = absurd (cc)
one_there P (p ∷ places) q a e = elim (q == p) as (λ b. (q == p) ≡ b → (b || has_place q places) ≡ true → P q) [
  | true ↦ λ f g. subst P (sym (same_place q p f)) a.0
  | false ↦ λ f g. one_there P places q a.1 g
] refl e

pub here_first : (p : ℕ) (places : List ℕ) → has_place p (p ∷ places) ≡ true
here_first p places = ap (λ (b : Bool). b || has_place p places) (tests_itself p)

-- ---- one more

pub has_append : (q : ℕ) (xs ys : List ℕ) → has_place q (xs ++ ys) ≡ (has_place q xs || has_place q ys)
has_append q [] ys = refl
has_append q (x ∷ xs) ys = elim (q == x) as (λ b. (b || has_place q (xs ++ ys)) ≡ ((b || has_place q xs) || has_place q ys)) [
  | true ↦ refl
  | false ↦ has_append q xs ys
]

pub or_none : (b : Bool) → (b || false) ≡ b
or_none true = refl
or_none false = refl

has_with : (q : ℕ) (places : List ℕ) (p : ℕ) → has_place q (with_place places p) ≡ (has_place q places || (q == p))
has_with q places p = elim (has_place p places) as (λ b. has_place p places ≡ b → has_place q (if b then places else places ++ p ∷ []) ≡ (has_place q places || (q == p))) [
  | true ↦ λ e. there e (q == p) refl
  | false ↦ λ e. has_append q places (p ∷ []) ∙ ap (λ (c : Bool). has_place q places || c) (or_none (q == p))
] refl
  where
    there : has_place p places ≡ true → (c : Bool) → (q == p) ≡ c → has_place q places ≡ (has_place q places || c)
    there e true f = let same : has_place q places ≡ true = subst (λ (z : ℕ). has_place z places ≡ true) (sym (same_place q p f)) e in same ∙ ap (λ (b : Bool). b || true) (sym same)
    there e false f = sym (or_none (has_place q places))

pub or_joined : (a b c : Bool) → ((a || b) || c) ≡ (a || (b || c))
or_joined true b c = refl
or_joined false b c = refl

has_fold : (q : ℕ) (done ps : List ℕ) → has_place q (fold with_place done ps) ≡ (has_place q done || has_place q ps)
has_fold q done [] = sym (or_none (has_place q done))
has_fold q done (p ∷ ps) = has_fold q (with_place done p) ps ∙ ap (λ (b : Bool). b || has_place q ps) (has_with q done p) ∙ or_joined (has_place q done) (q == p) (has_place q ps)

-- the places of values are those that they stand at
pub has_key : (q : ℕ) (items : List Item) → has_place q (places_of items) ≡ has_place q (keys_of items)
has_key q items = has_fold q [] (keys_of items)

pub places_more : (items : List Item) (p : ℕ) (v : XFrac) → places_of (items ++ (p, v) ∷ []) ≡ with_place (places_of items) p
places_more items p v = ap (λ (ks : List ℕ). fold with_place [] ks) (map-append (λ (e : Item). e.0) items ((p, v) ∷ [])) ∙ fold-append with_place [] (keys_of items) (p ∷ [])

pub values_more : (items : List Item) (p : ℕ) (v : XFrac) (q : ℕ) → values_at (items ++ (p, v) ∷ []) q ≡ values_at items q ++ (if q == p then v ∷ [] else [])
values_more items p v q =
    ap values_of (filter-append (λ (e : Item). q == e.0) items ((p, v) ∷ [])) ∙ map-append (λ (e : Item). e.1) (filter (λ (e : Item). q == e.0) items) (filter (λ (e : Item). q == e.0) ((p, v) ∷ []))
    ∙ ap (λ (xs : List XFrac). values_at items q ++ xs) (one (q == p))
  where
    one : (b : Bool) → values_of (cond b ((p, v) ∷ []) []) ≡ (if b then v ∷ [] else [])
    one true = refl
    one false = refl

none_less : (n : ℕ) → (suc n == 0) ≡ false
none_less n = grind (arith, nat_tests)

-- a place has values where it is among those of some
pub has_values : (items : List Item) (q : ℕ) → (length (values_at items q) == 0) ≡ not (has_place q (keys_of items))
has_values [] q = refl
has_values (e ∷ items) q = elim (q == e.0) as (λ b. (length (values_of (cond b (e ∷ filter (λ (x : Item). q == x.0) items) (filter (λ (x : Item). q == x.0) items))) == 0) ≡ not (b || has_place q (keys_of items))) [
  | true ↦ none_less (length (values_at items q))
  | false ↦ has_values items q
]

pub values_few : (items : List Item) (q : ℕ) → length (values_at items q) ≤ length items
values_few [] q = omega arith
values_few (e ∷ items) q = elim (q == e.0) as (λ b. length (values_of (cond b (e ∷ filter (λ (x : Item). q == x.0) items) (filter (λ (x : Item). q == x.0) items))) ≤ suc (length items)) [
  | true ↦ let l = values_few items q in omega arith
  | false ↦ let l = values_few items q in omega arith
]

pub values_all : (P : XFrac → Type 0) (items : List Item) (q : ℕ) → AllByRecursion P (values_of items) → AllByRecursion P (values_at items q)
values_all P [] q a = tt
values_all P (e ∷ items) q a = elim (q == e.0) as (λ b. AllByRecursion P (values_of (cond b (e ∷ filter (λ (x : Item). q == x.0) items) (filter (λ (x : Item). q == x.0) items)))) [
  | true ↦ (a.0, values_all P items q a.1)
  | false ↦ values_all P items q a.1
]

-- ---- places that stand once

apart_with : (places : List ℕ) (p : ℕ) → has_place p places ≡ false → AreApart places → AreApart (places ++ p ∷ [])
apart_with [] p e a = (λ f. never (sym f), tt)
apart_with (x ∷ places) p e a = (
  λ f. elim (has_place x places) as (λ b. has_place x places ≡ b → ⊥) [
    | true ↦ λ g. a.0 g
    | false ↦ λ g.
        let here : (x == p) ≡ true = sym (or_none (x == p)) ∙ sym (ap (λ (b : Bool). b || (has_place x (p ∷ []))) g) ∙ sym (has_append x places (p ∷ [])) ∙ f in
        let same : x ≡ p = same_place x p here in
        never (sym (here_first p places) ∙ subst (λ (z : ℕ). has_place p (z ∷ places) ≡ false) same e)
  ] refl,
  apart_with places p (rest (p == x) (has_place p places) e) a.1,
)
  where
    rest : (a b : Bool) → (a || b) ≡ false → b ≡ false
    rest true b e = absurd (cc)
    rest false b e = e

apart_fold : (done ps : List ℕ) → AreApart done → AreApart (fold with_place done ps)
apart_fold done [] a = a
apart_fold done (p ∷ ps) a = apart_fold (with_place done p) ps (elim (has_place p done) as (λ b. has_place p done ≡ b → AreApart (if b then done else done ++ p ∷ [])) [
  | true ↦ λ e. a
  | false ↦ λ e. apart_with done p e a
] refl)

pub places_apart : (items : List Item) → AreApart (places_of items)
places_apart items = apart_fold [] (keys_of items) tt

pub apart_shuffled : (xs ys : List ℕ) → Shuffled xs ys → AreApart xs → AreApart ys
apart_shuffled _ _ none a = tt
apart_shuffled _ _ (kept x xs ys s) a = (λ f. a.0 (any_shuffled (λ p. x == p) xs ys s ∙ f), apart_shuffled xs ys s a.1)
apart_shuffled _ _ (swapped x y xs) a = (
  λ f. elim (y == x) as (λ b. (y == x) ≡ b → (b || has_place y xs) ≡ true → ⊥) [
    | true ↦ λ e g. a.0 (subst (λ (z : ℕ). has_place x (z ∷ xs) ≡ true) (sym (same_place y x e)) (here_first x xs))
    | false ↦ λ e g. a.1.0 g
  ] refl f,
  (λ f. a.0 (later (x == y) (has_place x xs) f), a.1.1),
)
  where
    later : (a b : Bool) → b ≡ true → (a || b) ≡ true
    later true b e = refl
    later false b e = e
apart_shuffled _ _ (joined xs ys zs s t) a = apart_shuffled ys zs t (apart_shuffled xs ys s a)

-- ---- lists that are read or changed at one place

pub take_more : {A : Type 0} (xs : List A) (i : ℕ) (d : A) → i < length xs → take (i + 1) xs ≡ take i xs ++ get_or xs i d ∷ []
take_more [] i d l = absurd (omega arith)
take_more (x ∷ xs) zero d l = refl
take_more (x ∷ xs) (suc i) d l = let e : suc i + 1 ≡ suc (i + 1) = omega arith in rw e (ap (λ r. x ∷ r) (take_more xs i d (omega arith)))

pub set_here : {A : Type 0} (xs : List A) (i : ℕ) (y : A) → i < length xs → slice_get (slice_set xs i y) i ≡ Some y
set_here [] i y l = absurd (omega arith)
set_here (x ∷ xs) zero y l = refl
set_here (x ∷ xs) (suc i) y l = set_here xs i y (omega arith)

pub set_there : {A : Type 0} (xs : List A) (i j : ℕ) (y : A) → (j ≡ i → ⊥) → slice_get (slice_set xs i y) j ≡ slice_get xs j
set_there [] i j y n = refl
set_there (x ∷ xs) zero zero y n = absurd (n refl)
set_there (x ∷ xs) zero (suc j) y n = refl
set_there (x ∷ xs) (suc i) zero y n = refl
set_there (x ∷ xs) (suc i) (suc j) y n = set_there xs i j y (λ e. n (ap suc e))
