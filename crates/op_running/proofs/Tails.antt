-- What is kept of the tails of values that come behind and go in front.
use Rattle.std.proofs.Common.{◌≡◌, ◌∙◌, ℕ, zero, suc, ◌+◌, ◌-◌, ◌<◌, ◌≤◌, ◌⊎◌, inl, inr, List, [], ◌∷◌, ◌++◌, length, take, drop, get_or, None, Some, refl, sym, ap, subst, arith, length-append}
use Rattle.std.specs.Prelude.{slice_get}
use Rattle.std.proofs.Math.Seq.{drop-nil}
use Rattle.std.proofs.lemmas.List.{drop-take}
use Rattle.xfrac.specs.declared.value.XFrac.{XFrac}
use Rattle.op_running.specs.Kept.{AreTails, Keeps}

-- ---- lists

get_more : {S : Type 0} (xs : List S) (t : S) (k : ℕ) (s : S) → slice_get (xs ++ t ∷ []) k ≡ Some s → (slice_get xs k ≡ Some s) ⊎ ((k ≡ length xs) × (t ≡ s))
get_more [] t zero s g = inr (refl, cc)
get_more [] t (suc k) s g = absurd (cc)
get_more (x ∷ xs) t zero s g = inl g
get_more (x ∷ xs) t (suc k) s g = elim (get_more xs t k s g) as (λ _. (slice_get (x ∷ xs) (suc k) ≡ Some s) ⊎ ((suc k ≡ length (x ∷ xs)) × (t ≡ s))) [
  | inl h ↦ inl h
  | inr h ↦ inr (ap suc h.0, h.1)
]

get_taken : {S : Type 0} (n k : ℕ) (xs : List S) (s : S) → slice_get (take n xs) k ≡ Some s → slice_get xs k ≡ Some s
get_taken zero k xs s g = absurd (cc)
get_taken (suc n) k [] s g = g
get_taken (suc n) zero (x ∷ xs) s g = g
get_taken (suc n) (suc k) (x ∷ xs) s g = get_taken n k xs s g

drop_drop : {A : Type 0} (n m : ℕ) (xs : List A) → drop m (drop n xs) ≡ drop (n + m) xs
drop_drop zero m xs = let e : m ≡ 0 + m = omega arith in ap (λ (k : ℕ). drop k xs) e
drop_drop (suc n) m [] = drop-nil m ∙ sym (drop-nil (suc n + m))
drop_drop (suc n) m (x ∷ xs) = let e : suc (n + m) ≡ suc n + m = omega arith in drop_drop n m xs ∙ ap (λ (k : ℕ). drop k (x ∷ xs)) e

pub take_all : {A : Type 0} (n : ℕ) (xs : List A) → length xs ≤ n → take n xs ≡ xs
take_all zero [] h = refl
take_all (suc n) [] h = refl
take_all zero (x ∷ xs) h = absurd (omega arith)
take_all {A} (suc n) (x ∷ xs) h = ap (λ (r : List A). x ∷ r) (take_all n xs (omega arith))

pub length_taken : {A : Type 0} (n : ℕ) (xs : List A) → n ≤ length xs → length (take n xs) ≡ n
length_taken zero xs h = refl
length_taken (suc n) [] h = absurd (omega arith)
length_taken (suc n) (x ∷ xs) h = ap suc (length_taken n xs (omega arith))

pub length_left : {A : Type 0} (n : ℕ) (xs : List A) → n ≤ length xs → length (drop n xs) + n ≡ length xs
length_left zero xs h = omega arith
length_left (suc n) [] h = absurd (omega arith)
length_left (suc n) (x ∷ xs) h = let r = length_left n xs (omega arith) in omega arith

pub drop_at : {A : Type 0} (i : ℕ) (xs : List A) (x : A) → i < length xs → x ≡ get_or xs i x → drop i xs ≡ x ∷ drop (suc i) xs
drop_at i [] x h e = absurd (omega arith)
drop_at {A} zero (y ∷ ys) x h e = ap (λ (z : A). z ∷ ys) (sym e)
drop_at (suc i) (y ∷ ys) x h e = drop_at i ys x (omega arith) e

-- ---- tails

-- one more
pub tails_more : {S : Type 0} (is_of : S → List XFrac → Type 0) (tails now : List S) (t : S) (values : List XFrac) (i : ℕ) → now ≡ tails ++ t ∷ [] → length tails + suc i ≡ length values → is_of t (drop i values) → AreTails is_of tails values → AreTails is_of now values
tails_more {S} is_of tails now t values i n m h a j k s e g = elim (get_more tails t k s (ap (λ (xs : List S). slice_get xs k) (sym n) ∙ g)) as (λ _. is_of s (drop j values)) [
  | inl old ↦ a j k s e old
  | inr new ↦ let f : i ≡ j = let p = new.0 in omega arith in subst (λ (m : ℕ). is_of s (drop m values)) f (subst (λ (u : S). is_of u (drop i values)) new.1 h)
]

-- those of what is left, where so many values went
tails_left : {S : Type 0} (is_of : S → List XFrac → Type 0) (tails : List S) (g m : ℕ) (values : List XFrac) → g + m ≤ length values → AreTails is_of tails (take (g + m) values) → AreTails is_of (take m tails) (take m (drop g values))
tails_left is_of tails g m values n a i k s e got =
    let left : length (drop g values) + g ≡ length values = length_left g values (omega arith) in
    let long : length (take m (drop g values)) ≡ m = length_taken m (drop g values) (omega arith) in
    let all : length (take (g + m) values) ≡ g + m = length_taken (g + m) values n in
    let p : (g + i) + suc k ≡ length (take (g + m) values) = omega arith in
    subst (is_of s) (sym (drop_drop g i (take (g + m) values)) ∙ ap (drop i) (drop-take g m values)) (a (g + i) k s p (get_taken m k tails s got))

none_there : {S : Type 0} (xs : List S) (i : ℕ) → i < length xs → None ≡ slice_get xs i → ⊥
none_there [] i h e = omega arith
none_there (x ∷ xs) zero h e = cc
none_there (x ∷ xs) (suc i) h e = none_there xs i (omega arith) e

-- ---- what is kept

-- of what is left
left_at : {S : Type 0} (is_of : S → List XFrac → Type 0) (tails now : List S) (last : S) (counted g m : ℕ) (values : List XFrac) → g + m ≡ length tails → length now ≡ m → now ≡ take m tails → Keeps is_of tails last counted values → Keeps is_of now last counted (drop g values)
left_at {S} is_of tails now last counted g m values n l is k =
    let within = k.within in
    let left : length (drop g values) + g ≡ length values = length_left g values (omega arith) in
    let front : AreTails is_of tails (take (g + m) values) = subst (λ (i : ℕ). AreTails is_of tails (take i values)) (sym n) k.front in
    record {
      within = omega arith;
      front = subst (λ (i : ℕ). AreTails is_of now (take i (drop g values))) (sym l) (subst (λ (xs : List S). AreTails is_of xs (take m (drop g values))) (sym is) (tails_left is_of tails g m values (omega arith) front));
      behind = subst (λ (xs : List XFrac). is_of last (take counted xs)) (ap (λ (i : ℕ). drop i values) (sym n) ∙ sym (drop_drop g m values) ∙ ap (λ (i : ℕ). drop i (drop g values)) (sym l)) k.behind;
    }

pub keeps_left : {S : Type 0} (is_of : S → List XFrac → Type 0) (tails now : List S) (last : S) (counted g : ℕ) (values : List XFrac) → g ≤ length tails → now ≡ take (length tails - g) tails → Keeps is_of tails last counted values → Keeps is_of now last counted (drop g values)
keeps_left is_of tails now last counted g values h is k =
    let m = length tails - g in
    let n : g + m ≡ length tails = omega arith in
    left_at is_of tails now last counted g m values n (ap length is ∙ length_taken m tails (omega arith)) is k

-- of all values, where each is counted and some stand in front
pub all_kept : {S : Type 0} (is_of : S → List XFrac → Type 0) (tails : List S) (last tail : S) (counted : ℕ) (values : List XFrac) → length values ≤ length tails + counted → Some tail ≡ slice_get tails (length tails - 1) → Keeps is_of tails last counted values
    → is_of tail (take (length tails) values) × is_of last (drop (length tails) values)
all_kept is_of [] last tail counted values all is k = absurd (cc)
all_kept {S} is_of (t ∷ tails) last tail counted values all is k =
    let within = k.within in
    let e : suc (length tails) - 1 ≡ length tails = omega arith in
    let n = length (t ∷ tails) in
    let long : length (take n values) ≡ n = length_taken n values (omega arith) in
    let left : length (drop n values) + n ≡ length values = length_left n values (omega arith) in
    (k.front 0 (length tails) tail (omega arith) (ap (λ (i : ℕ). slice_get (t ∷ tails) i) (sym e) ∙ sym is), subst (is_of last) (take_all counted (drop n values) (omega arith)) k.behind)

-- where none stands in front
pub last_kept : {S : Type 0} (is_of : S → List XFrac → Type 0) (tails : List S) (last : S) (counted : ℕ) (values : List XFrac) → length values ≤ length tails + counted → None ≡ slice_get tails (length tails - 1) → Keeps is_of tails last counted values → is_of last values
last_kept is_of [] last counted values all is k = subst (is_of last) (take_all counted values (omega arith)) k.behind
last_kept is_of (t ∷ tails) last counted values all is k = absurd (none_there (t ∷ tails) (length (t ∷ tails) - 1) (omega arith) is)

-- more of them
pub keeps_more : {S : Type 0} (is_of : S → List XFrac → Type 0) (tails : List S) (last : S) (counted : ℕ) (values more : List XFrac) → Keeps is_of tails last counted values → Keeps is_of tails last counted (values ++ more)
keeps_more is_of tails last counted values more k =
    let within = k.within in
    let long = length-append values more in
    let n = length tails in
    let left : length (drop n values) + n ≡ length values = length_left n values (omega arith) in
    record {
      within = omega arith;
      front = subst (AreTails is_of tails) (sym (take_front n values more (omega arith))) k.front;
      behind = subst (is_of last) (sym (ap (take counted) (drop_front n values more (omega arith)) ∙ take_front counted (drop n values) more (omega arith))) k.behind;
    }
  where
    take_front : (n : ℕ) (xs ys : List XFrac) → n ≤ length xs → take n (xs ++ ys) ≡ take n xs
    take_front zero xs ys h = refl
    take_front (suc n) [] ys h = absurd (omega arith)
    take_front (suc n) (x ∷ xs) ys h = ap (λ (r : List XFrac). x ∷ r) (take_front n xs ys (omega arith))

    drop_front : (n : ℕ) (xs ys : List XFrac) → n ≤ length xs → drop n (xs ++ ys) ≡ drop n xs ++ ys
    drop_front zero xs ys h = refl
    drop_front (suc n) [] ys h = absurd (omega arith)
    drop_front (suc n) (x ∷ xs) ys h = drop_front n xs ys (omega arith)
