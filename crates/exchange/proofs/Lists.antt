-- Lists, place by place.
use Rattle.std.proofs.Common.{◌≡◌, ◌∙◌, ℕ, zero, suc, ◌+◌, ◌<◌, ◌⊎◌, Bool, true, List, [], ◌∷◌, ◌++◌, length, map, take, slice_get, slice_set, refl, sym, ap, subst, arith, Some, None, replicate, inl, inr, ⊎_elim, length-append}
use Rattle.std.specs.Prelude.{Option, is_some, ◌&&◌}
use Rattle.std.specs.List.{AllByRecursion, AllZip, cons_option, filter_map, list_all}
use Rattle.std.proofs.lemmas.Bool.{false≢true}

pub some_same : {X : Type 0} (a b : X) → Some a ≡ Some b → a ≡ b
some_same a b e = cc

-- what stands at one place is one thing
pub same_at : {X : Type 0} (xs : List X) (i : ℕ) (a b : X) → slice_get xs i ≡ Some a → slice_get xs i ≡ Some b → a ≡ b
same_at xs i a b e f = some_same a b (sym e ∙ f)

pub get_set_same : {X : Type 0} (xs : List X) (i : ℕ) (w : X) → i < length xs → slice_get (slice_set xs i w) i ≡ Some w
get_set_same [] i w h = absurd (omega arith)
get_set_same (x ∷ xs) zero w h = refl
get_set_same (x ∷ xs) (suc i) w h = get_set_same xs i w (omega arith)

pub get_set_other : {X : Type 0} (xs : List X) (i j : ℕ) (w : X) → (j ≡ i → ⊥) → slice_get (slice_set xs i w) j ≡ slice_get xs j
get_set_other [] i j w h = refl
get_set_other (x ∷ xs) zero zero w h = absurd (h refl)
get_set_other (x ∷ xs) zero (suc j) w h = refl
get_set_other (x ∷ xs) (suc i) zero w h = refl
get_set_other (x ∷ xs) (suc i) (suc j) w h = get_set_other xs i j w (λ e. h (ap suc e))

pub get_within : {X : Type 0} (xs : List X) (i : ℕ) (x : X) → slice_get xs i ≡ Some x → i < length xs
get_within [] i x e = absurd (cc)
get_within (y ∷ xs) zero x e = omega arith
get_within (y ∷ xs) (suc i) x e = let l : i < length xs = get_within xs i x e in omega arith

pub within_get : {X : Type 0} (xs : List X) (i : ℕ) → i < length xs → (x : X) × (slice_get xs i ≡ Some x)
within_get [] i l = absurd (omega arith)
within_get (x ∷ xs) zero l = (x, refl)
within_get (x ∷ xs) (suc i) l = within_get xs i (omega arith)

pub front_get : {X : Type 0} (xs ys : List X) (k : ℕ) → k < length xs → slice_get (xs ++ ys) k ≡ slice_get xs k
front_get [] ys k l = absurd (omega arith)
front_get (x ∷ xs) ys zero l = refl
front_get (x ∷ xs) ys (suc k) l = front_get xs ys k (omega arith)

pub back_get : {X : Type 0} (xs : List X) (x : X) → slice_get (xs ++ x ∷ []) (length xs) ≡ Some x
back_get [] x = refl
back_get (y ∷ xs) x = back_get xs x

pub take_more : {X : Type 0} (xs : List X) (i : ℕ) (x : X) → slice_get xs i ≡ Some x → take i xs ++ x ∷ [] ≡ take (suc i) xs
take_more [] i x e = absurd (cc)
take_more (y ∷ xs) zero x e = ap (λ z. z ∷ []) (sym (some_same y x e))
take_more (y ∷ xs) (suc i) x e = ap (λ l. y ∷ l) (take_more xs i x e)

pub take_one_more : {X : Type 0} (xs : List X) (i : ℕ) (x : X) → slice_get xs i ≡ Some x → take i xs ++ x ∷ [] ≡ take (i + 1) xs
take_one_more xs i x e = let n : suc i ≡ i + 1 = omega arith in take_more xs i x e ∙ ap (λ k. take k xs) n

-- an item of a front stands there in the whole
pub take_get : {X : Type 0} (xs : List X) (i k : ℕ) (x : X) → slice_get (take i xs) k ≡ Some x → (slice_get xs k ≡ Some x) × (k < i)
take_get xs zero k x e = absurd (cc)
take_get [] (suc i) k x e = absurd (cc)
take_get (y ∷ xs) (suc i) zero x e = (e, omega arith)
take_get (y ∷ xs) (suc i) (suc k) x e =
    let r : (slice_get xs k ≡ Some x) × (k < i) = take_get xs i k x e in
    let l : k < i = r.1 in
    (r.0, omega arith)

pub map_get : {X Y : Type 0} (f : X → Y) (xs : List X) (k : ℕ) (y : Y) → slice_get (map f xs) k ≡ Some y → (x : X) × (slice_get xs k ≡ Some x) × (f x ≡ y)
map_get f [] k y e = absurd (cc)
map_get f (x ∷ xs) zero y e = (x, refl, some_same (f x) y e)
map_get f (x ∷ xs) (suc k) y e = map_get f xs k y e

pub get_map : {X Y : Type 0} (f : X → Y) (xs : List X) (k : ℕ) (x : X) → slice_get xs k ≡ Some x → slice_get (map f xs) k ≡ Some (f x)
get_map f [] k x e = absurd (cc)
get_map f (z ∷ xs) zero x e = ap (λ v. Some (f v)) (some_same z x e)
get_map f (z ∷ xs) (suc k) x e = get_map f xs k x e

pub map_within : {X Y : Type 0} (f : X → Y) (xs : List X) (k : ℕ) (y : Y) → slice_get (map f xs) k ≡ Some y → k < length xs
map_within f xs k y e = let m = map_get f xs k y e in get_within xs k m.0 m.1

pub map_size : {X Y : Type 0} (f : X → Y) (xs : List X) → length (map f xs) ≡ length xs
map_size f [] = refl
map_size f (x ∷ xs) = ap suc (map_size f xs)

pub map_length : {X Y : Type 0} (f : X → Y) (xs ys : List X) → length xs ≡ length ys → length (map f xs) ≡ length (map f ys)
map_length f xs ys e = map_size f xs ∙ e ∙ sym (map_size f ys)

pub replicated : {X : Type 0} (n k : ℕ) (x d : X) → slice_get (replicate n x) k ≡ Some d → d ≡ x
replicated zero k x d e = absurd (cc)
replicated (suc n) zero x d e = sym (some_same x d e)
replicated (suc n) (suc k) x d e = replicated n k x d e

pub many : {X : Type 0} (n : ℕ) (x : X) → length (replicate n x) ≡ n
many zero x = refl
many (suc n) x = ap suc (many n x)

pub zip_length : {D Q : Type 0} (R : D → Q → Type 0) (ds : List D) (qs : List Q) → AllZip R ds qs → length ds ≡ length qs
zip_length R [] [] a = refl
zip_length R [] (q ∷ qs) a = absurd a
zip_length R (d ∷ ds) [] a = absurd a
zip_length R (d ∷ ds) (q ∷ qs) a = ap suc (zip_length R ds qs a.1)

pub zip_at : {D Q : Type 0} (R : D → Q → Type 0) (ds : List D) (qs : List Q) (k : ℕ) (d : D) (q : Q) → AllZip R ds qs → slice_get ds k ≡ Some d → slice_get qs k ≡ Some q → R d q
zip_at R [] qs k d q a e f = absurd (cc)
zip_at R (x ∷ ds) [] k d q a e f = absurd a
zip_at R (x ∷ ds) (y ∷ qs) zero d q a e f = subst (λ z. R z q) (some_same x d e) (subst (λ z. R x z) (some_same y q f) a.0)
zip_at R (x ∷ ds) (y ∷ qs) (suc k) d q a e f = zip_at R ds qs k d q a.1 e f

pub zip_more : {D Q : Type 0} (R : D → Q → Type 0) (ds : List D) (qs : List Q) (d : D) (q : Q) → AllZip R ds qs → R d q → AllZip R (ds ++ d ∷ []) (qs ++ q ∷ [])
zip_more R [] [] d q a r = (r, tt)
zip_more R [] (y ∷ qs) d q a r = absurd a
zip_more R (x ∷ ds) [] d q a r = absurd a
zip_more R (x ∷ ds) (y ∷ qs) d q a r = (a.0, zip_more R ds qs d q a.1 r)

pub each_at : {X : Type 0} (P : X → Type 0) (xs : List X) (k : ℕ) (x : X) → AllByRecursion P xs → slice_get xs k ≡ Some x → P x
each_at P [] k x a e = absurd (cc)
each_at P (y ∷ xs) zero x a e = subst P (some_same y x e) a.0
each_at P (y ∷ xs) (suc k) x a e = each_at P xs k x a.1 e

pub each_more : {X : Type 0} (R : ℕ → X → Type 0) (xs : List X) (x : X) → ((k : ℕ) (a : X) → slice_get xs k ≡ Some a → R k a) → R (length xs) x → (k : ℕ) (a : X) → slice_get (xs ++ x ∷ []) k ≡ Some a → R k a
each_more R [] x h r zero a e = subst (R 0) (some_same x a e) r
each_more R [] x h r (suc k) a e = absurd (cc)
each_more R (y ∷ xs) x h r zero a e = h 0 a e
each_more R (y ∷ xs) x h r (suc k) a e = each_more (λ n z. R (suc n) z) xs x (λ n b u. h (suc n) b u) r k a e

pub filter_same : {X Y : Type 0} (f : X → Option Y) (xs ys : List X) → length xs ≡ length ys → ((k : ℕ) (x y : X) → slice_get xs k ≡ Some x → slice_get ys k ≡ Some y → f x ≡ f y) → filter_map f xs ≡ filter_map f ys
filter_same f [] [] l h = refl
filter_same f [] (y ∷ ys) l h = absurd (omega arith)
filter_same f (x ∷ xs) [] l h = absurd (omega arith)
filter_same f (x ∷ xs) (y ∷ ys) l h = (λ i. cons_option (h 0 x y refl refl i) (filter_same f xs ys (omega arith) (λ k a b u v. h (suc k) a b u v) i))

-- where each item gives something, what all give stands item by item
pub filter_all : {X Y : Type 0} (f : X → Option Y) (xs : List X) → ((k : ℕ) (x : X) → slice_get xs k ≡ Some x → is_some (f x) ≡ true) → length (filter_map f xs) ≡ length xs
filter_all f [] h = refl
filter_all f (x ∷ xs) h = by (f x) (h 0 x refl) ∙ ap suc (filter_all f xs (λ k z e. h (suc k) z e))
  where
    by : (o : Option _) → is_some o ≡ true → length (cons_option o (filter_map f xs)) ≡ suc (length (filter_map f xs))
    by None e = absurd (false≢true e)
    by (Some y) e = refl

pub filter_get : {X Y : Type 0} (f : X → Option Y) (xs : List X) (k : ℕ) (x : X) → ((k : ℕ) (x : X) → slice_get xs k ≡ Some x → is_some (f x) ≡ true) → slice_get xs k ≡ Some x → slice_get (filter_map f xs) k ≡ f x
filter_get f [] k x h e = absurd (cc)
filter_get f (z ∷ xs) zero x h e = first (f z) (h 0 z refl) ∙ ap f (some_same z x e)
  where
    first : (o : Option _) → is_some o ≡ true → slice_get (cons_option o (filter_map f xs)) 0 ≡ o
    first None g = absurd (false≢true g)
    first (Some y) g = refl
filter_get f (z ∷ xs) (suc k) x h e = later (f z) (h 0 z refl) ∙ filter_get f xs k x (λ j y u. h (suc j) y u) e
  where
    later : (o : Option _) → is_some o ≡ true → slice_get (cons_option o (filter_map f xs)) (suc k) ≡ slice_get (filter_map f xs) k
    later None g = absurd (false≢true g)
    later (Some y) g = refl

pub one_longer : {X : Type 0} (xs ys : List X) (x : X) (k : ℕ) → length xs ≡ k → ys ≡ xs ++ x ∷ [] → length ys ≡ k + 1
one_longer xs ys x k l e = ap length e ∙ length-append xs (x ∷ []) ∙ ap (λ n. n + 1) l

-- a place of a list with one more item is one of the list, or that of the last item
pub split_get : {X : Type 0} (xs : List X) (x : X) (j : ℕ) (z : X) → slice_get (xs ++ x ∷ []) j ≡ Some z → (slice_get xs j ≡ Some z) ⊎ ((j ≡ length xs) × (z ≡ x))
split_get [] x zero z e = inr (refl, sym (some_same x z e))
split_get [] x (suc j) z e = absurd (cc)
split_get (y ∷ xs) x zero z e = inl e
split_get (y ∷ xs) x (suc j) z e = ⊎_elim (λ l. inl l) (λ r. inr (ap suc r.0, r.1)) (split_get xs x j z e)

pub all_same : {X : Type 0} (f g : X → Bool) (xs : List X) → ((x : X) → f x ≡ g x) → list_all f xs ≡ list_all g xs
all_same f g [] h = refl
all_same f g (x ∷ xs) h = (λ i. h x i && all_same f g xs h i)

pub map_inside : {X Y : Type 0} (f : X → Y) (xs ys : List X) (i : ℕ) → i < length xs → length ys ≡ length xs → i < length (map f ys)
map_inside f xs ys i l e = subst (λ n. i < n) (sym (map_size f ys ∙ e)) l

pub set_same : {X : Type 0} (xs : List X) (k : ℕ) (x : X) → slice_get xs k ≡ Some x → slice_set xs k x ≡ xs
set_same [] k x e = refl
set_same (y ∷ xs) zero x e = ap (λ z. z ∷ xs) (sym (some_same y x e))
set_same (y ∷ xs) (suc k) x e = ap (λ l. y ∷ l) (set_same xs k x e)

pub take_whole : {X : Type 0} (xs : List X) (n : ℕ) → n ≡ length xs → take n xs ≡ xs
take_whole [] zero e = refl
take_whole [] (suc n) e = refl
take_whole (x ∷ xs) zero e = absurd (omega arith)
take_whole (x ∷ xs) (suc n) e = ap (λ l. x ∷ l) (take_whole xs n (omega arith))
