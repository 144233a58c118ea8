-- Lists by their places, and pairs that are put one after another.
use Rattle.std.proofs.Common.{◌≡◌, ◌∙◌, ◌<◌, ◌≤◌, ◌+◌, ℕ, zero, suc, arith, Bool, true, false, List, [], ◌∷◌, ◌++◌, length, get_or, take, drop, refl, sym, ap, subst, add-one, Option, Some, None}
use Rattle.std.specs.Prelude.{◌&&◌, slice_get, is_some, IsTrue, Result, Ok, Err, IfOk, OnOk}
use Rattle.std.proofs.Math.ListN.{set}
use Rattle.label_set.specs.Labels.{put_refusal, with_pair}
use Rattle.step_table.specs.Groups.{Names}
use Rattle.step_table.specs.Operators.{all_put}

drop_at : {X : Type 0} (xs : List X) (i : ℕ) (x : X) → slice_get xs i ≡ Some x → drop i xs ≡ x ∷ drop (i + 1) xs
drop_at [] i x e = absurd (cc)
drop_at (y ∷ xs) zero x e = let same : y ≡ x = cc in ap (λ z. z ∷ xs) same
drop_at (y ∷ xs) (suc i) x e = rw add-one (drop_at xs i x e ∙ rw add-one refl)

module _ (all pairs : Names) (i : ℕ) (name value : List ℕ) (at : slice_get pairs i ≡ Some (name, value)) where
  pub put_stops : is_some (put_refusal all name value) ≡ true → all_put all (drop i pairs) ≡ None
  put_stops e = ap (all_put all) (drop_at pairs i (name, value) at) ∙ rw e refl

  pub put_goes : (new : Names) → is_some (put_refusal all name value) ≡ false → new ≡ with_pair all name value → all_put new (drop (i + 1) pairs) ≡ all_put all (drop i pairs)
  put_goes new e is = ap (λ l. all_put l (drop (i + 1) pairs)) is ∙ sym (ap (all_put all) (drop_at pairs i (name, value) at) ∙ rw e refl)

-- ---- places

pub there : {A : Type 0} (xs : List A) (i : ℕ) (d : A) → i < length xs → slice_get xs i ≡ Some (get_or xs i d)
there [] i d h = absurd (omega arith)
there (x ∷ xs) zero d h = refl
there (x ∷ xs) (suc i) d h = there xs i d (omega arith)

pub within : {A : Type 0} (xs : List A) (i : ℕ) (x : A) → slice_get xs i ≡ Some x → i < length xs
within [] i x e = absurd (cc)
within (y ∷ xs) zero x e = omega arith
within (y ∷ xs) (suc i) x e = let k = within xs i x e in omega arith

pub some_there : {A : Type 0} (xs : List A) (i : ℕ) → i < length xs → (x : A) × (slice_get xs i ≡ Some x)
some_there [] i h = absurd (omega arith)
some_there (x ∷ xs) zero h = (x, refl)
some_there (x ∷ xs) (suc i) h = some_there xs i (omega arith)

pub took : {A : Type 0} (xs : List A) (i : ℕ) (d : A) → i < length xs → take (i + 1) xs ≡ take i xs ++ get_or xs i d ∷ []
took [] i d h = absurd (omega arith)
took (x ∷ xs) zero d h = refl
took (x ∷ xs) (suc i) d h = let e : suc i + 1 ≡ suc (i + 1) = omega arith in rw e (ap (λ rs. x ∷ rs) (took xs i d (omega arith)))

pub whole : {A : Type 0} (xs : List A) (i : ℕ) → length xs ≤ i → take i xs ≡ xs
whole [] zero l = refl
whole [] (suc i) l = refl
whole (x ∷ xs) zero l = absurd (omega arith)
whole (x ∷ xs) (suc i) l = ap (λ r. x ∷ r) (whole xs i (omega arith))

pub none_behind : {A : Type 0} (xs : List A) → xs ++ [] ≡ xs
none_behind [] = refl
none_behind (x ∷ xs) = ap (λ ys. x ∷ ys) (none_behind xs)

-- ---- what holds of each item by its place

module _ {A : Type 0} where
  pub each_more : (P : A → Type 0) (xs : List A) (y : A) → ((i : ℕ) (x : A) → slice_get xs i ≡ Some x → P x) → P y → (i : ℕ) (x : A) → slice_get (xs ++ y ∷ []) i ≡ Some x → P x
  each_more P [] y h k zero x e = let same : y ≡ x = cc in subst P same k
  each_more P [] y h k (suc i) x e = absurd (cc)
  each_more P (z ∷ xs) y h k zero x e = h zero x e
  each_more P (z ∷ xs) y h k (suc i) x e = each_more P xs y (λ j w f. h (suc j) w f) k i x e

  pub each_set : (P : ℕ → A → Type 0) (xs : List A) (n : ℕ) (y : A) → ((i : ℕ) (x : A) → slice_get xs i ≡ Some x → P i x) → P n y → (i : ℕ) (x : A) → slice_get (set xs n y) i ≡ Some x → P i x
  each_set P [] n y h k i x e = absurd (cc)
  each_set P (z ∷ xs) zero y h k zero x e = let same : y ≡ x = cc in subst (P zero) same k
  each_set P (z ∷ xs) zero y h k (suc i) x e = h (suc i) x e
  each_set P (z ∷ xs) (suc n) y h k zero x e = h zero x e
  each_set P (z ∷ xs) (suc n) y h k (suc i) x e = each_set (λ j w. P (suc j) w) xs n y (λ j w f. h (suc j) w f) k i x e

  pub stays_more : (xs : List A) (y : A) (j : ℕ) (x : A) → slice_get xs j ≡ Some x → slice_get (xs ++ y ∷ []) j ≡ Some x
  stays_more [] y j x e = absurd (cc)
  stays_more (z ∷ xs) y zero x e = e
  stays_more (z ∷ xs) y (suc j) x e = stays_more xs y j x e

  pub from_front : (n : ℕ) (xs : List A) (j : ℕ) (x : A) → slice_get (take n xs) j ≡ Some x → slice_get xs j ≡ Some x
  from_front zero xs j x e = absurd (cc)
  from_front (suc n) [] j x e = absurd (cc)
  from_front (suc n) (y ∷ xs) zero x e = e
  from_front (suc n) (y ∷ xs) (suc j) x e = from_front n xs j x e

pub is_none : {A : Type 0} (o : Option A) → is_some o ≡ false → o ≡ None
is_none None e = refl
is_none (Some x) e = absurd (cc)

pub both_true : (a b : Bool) → IsTrue (a && b) → IsTrue a × IsTrue b
both_true true true e = (refl, refl)
both_true true false e = absurd (cc)
both_true false b e = absurd (cc)

pub on_ok : {X E : Type 0} {A B : Type 0} (r : Result X E) → OnOk r A → (A → B) → OnOk r B
on_ok (Ok x) a f = f a
on_ok (Err e) a f = tt

pub if_ok : {X E : Type 0} {P Q : X → Type 0} (r : Result X E) → IfOk r P → ((x : X) → P x → Q x) → IfOk r Q
if_ok (Ok x) p f = f x p
if_ok (Err e) p f = tt
