-- Lists of places, and lists read place by place.
use Rattle.std.proofs.Common.{◌≡◌, ◌∙◌, ℕ, zero, suc, ◌+◌, ◌<◌, ◌⊎◌, inl, inr, ⊎_elim, Bool, true, false, List, [], ◌∷◌, ◌++◌, length, map, slice_get, slice_set, refl, sym, ap, subst, arith, Some, None}
use Rattle.std.specs.Prelude.{ℤ, ◌<ℤ◌, Contains, Option, if◌then◌else◌}
use Rattle.std.specs.Bool.{Decides}
use Rattle.std.specs.List.{AllByRecursion}
use Rattle.std.proofs.lemmas.Bool.{false≢true}
use Rattle.std.proofs.lemmas.List.Elements.{Contains-append_left, Contains-append_right}
use Rattle.ticks.specs.Listed.{AreRising}
use Rattle.ticks.specs.declared.moment.Ms.{Ms}
use Rattle.plan_tree.specs.Shapes.{AreDistinct}

-- ---- what is among a list

pub among_one : (n k : ℕ) → k ≡ n → Contains (n ∷ []) k
among_one n k e = (0, omega arith, sym e)

pub among_first : {X : Type 0} (xs : List X) (x : X) → Contains (x ∷ xs) x
among_first xs x = (0, omega arith, refl)

pub among_rest : {X : Type 0} (xs : List X) (x y : X) → Contains xs y → Contains (x ∷ xs) y
among_rest xs x y (k, l, e) = (suc k, omega arith, e)

-- an item is the first one, or among the others
pub among_cases : {X : Type 0} (xs : List X) (x y : X) → Contains (x ∷ xs) y → (x ≡ y) ⊎ Contains xs y
among_cases xs x y (zero, l, e) = inl e
among_cases xs x y (suc k, l, e) = inr (k, omega arith, e)

pub among_none : {X : Type 0} (y : X) → Contains [] y → ⊥
among_none y (k, l, e) = omega arith

pub distinct_left : (xs ys : List ℕ) → AreDistinct (xs ++ ys) → AreDistinct xs
distinct_left [] ys d = tt
distinct_left (x ∷ xs) ys d = (λ h. d.0 (Contains-append_left xs ys x h), distinct_left xs ys d.1)

pub distinct_right : (xs ys : List ℕ) → AreDistinct (xs ++ ys) → AreDistinct ys
distinct_right [] ys d = d
distinct_right (x ∷ xs) ys d = distinct_right xs ys d.1

-- no number is in both parts
pub distinct_apart : (xs ys : List ℕ) (k : ℕ) → AreDistinct (xs ++ ys) → Contains xs k → Contains ys k → ⊥
distinct_apart [] ys k d a b = among_none k a
distinct_apart (x ∷ xs) ys k d a b = ⊎_elim
    (λ e. d.0 (Contains-append_right xs ys x (subst (λ n. Contains ys n) (sym e) b)))
    (λ h. distinct_apart xs ys k d.1 h b)
    (among_cases xs x k a)

-- ---- places

pub some_same : {X : Type 0} (a b : X) → Some a ≡ Some b → a ≡ b
some_same a b e = cc

pub same_at : {X : Type 0} (xs : List X) (i : ℕ) (a b : X) → slice_get xs i ≡ Some a → slice_get xs i ≡ Some b → a ≡ b
same_at xs i a b e f = some_same a b (sym e ∙ f)

pub get_set_same : {X : Type 0} (xs : List X) (i : ℕ) (w : X) → i < length xs → slice_get (slice_set xs i w) i ≡ Some w
get_set_same [] i w h = absurd (omega arith)
get_set_same (x ∷ xs) zero w h = refl
get_set_same (x ∷ xs) (suc i) w h = get_set_same xs i w (omega arith)

pub get_set_other : {X : Type 0} (xs : List X) (i j : ℕ) (w : X) → (j ≡ i → ⊥) → slice_get (slice_set xs i w) j ≡ slice_get xs j
get_set_other [] i j w h = refl
get_set_other (x ∷ xs) zero zero w h = absurd (h refl)
get_set_other (x ∷ xs) zero (suc j) w h = refl
get_set_other (x ∷ xs) (suc i) zero w h = refl
get_set_other (x ∷ xs) (suc i) (suc j) w h = get_set_other xs i j w (λ e. h (ap suc e))

pub get_within : {X : Type 0} (xs : List X) (i : ℕ) (x : X) → slice_get xs i ≡ Some x → i < length xs
get_within [] i x e = absurd (cc)
get_within (y ∷ xs) zero x e = omega arith
get_within (y ∷ xs) (suc i) x e = let l : i < length xs = get_within xs i x e in omega arith

pub within_get : {X : Type 0} (xs : List X) (i : ℕ) → i < length xs → (x : X) × (slice_get xs i ≡ Some x)
within_get [] i l = absurd (omega arith)
within_get (x ∷ xs) zero l = (x, refl)
within_get (x ∷ xs) (suc i) l = within_get xs i (omega arith)

map_size : {X Y : Type 0} (f : X → Y) (xs : List X) → length (map f xs) ≡ length xs
map_size f [] = refl
map_size f (x ∷ xs) = ap suc (map_size f xs)

pub map_length : {X Y : Type 0} (f : X → Y) (xs ys : List X) → length xs ≡ length ys → length (map f xs) ≡ length (map f ys)
map_length f xs ys e = map_size f xs ∙ e ∙ sym (map_size f ys)

-- ---- rising instants

all_at : (P : Ms → Type 0) (ts : List Ms) (n : ℕ) (t : Ms) → AllByRecursion P ts → slice_get ts n ≡ Some t → P t
all_at P [] n t a e = absurd (cc)
all_at P (s ∷ ts) zero t a e = subst P (some_same s t e) a.0
all_at P (s ∷ ts) (suc n) t a e = all_at P ts n t a.1 e

pub rises_at : (ts : List Ms) (m n : ℕ) (s t : Ms) → AreRising ts → slice_get ts m ≡ Some s → slice_get ts n ≡ Some t → m < n → s.0 <ℤ t.0
rises_at [] m n s t r e f l = absurd (cc)
rises_at (u ∷ ts) m zero s t r e f l = absurd (omega arith)
rises_at (u ∷ ts) zero (suc n) s t r e f l = all_at (λ v. s.0 <ℤ v.0) ts n t (subst (λ v. AllByRecursion (λ w. v.0 <ℤ w.0) ts) (some_same u s e) r.0) f
rises_at (u ∷ ts) (suc m) (suc n) s t r e f l = rises_at ts m n s t r.1 e f (omega arith)

-- ---- one of two

pub pick_here : {X P : Type 0} (b : Bool) (x y : X) → Decides b P → P → (if b then x else y) ≡ x
pick_here true x y d p = refl
pick_here false x y d p = absurd (false≢true (d.1 p))

pub pick_not : {X P : Type 0} (b : Bool) (x y : X) → Decides b P → (P → ⊥) → (if b then x else y) ≡ y
pick_not true x y d n = absurd (n (d.0 refl))
pick_not false x y d n = refl

pub pick_cases : {X P : Type 0} (b : Bool) (x z : X) (o : Option X) → Decides b P → (if b then Some x else o) ≡ Some z → (P × (x ≡ z)) ⊎ (o ≡ Some z)
pick_cases true x z o d e = inl (d.0 refl, some_same x z e)
pick_cases false x z o d e = inr e
