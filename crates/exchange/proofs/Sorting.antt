-- A stable sort, and requests in the order of their asks.
use Rattle.std.proofs.Common.{◌≡◌, ◌∙◌, ℕ, zero, suc, ◌+◌, ◌<◌, ◌≤◌, Bool, true, false, cond, List, [], ◌∷◌, ◌++◌, length, map, take, slice_get, refl, sym, ap, subst, arith, Some, append-nil, append_assoc}
use Rattle.std.specs.Prelude.{◌==◌, ⊤, filter, fold, nat_lt, if◌then◌else◌}
use Rattle.std.specs.BTreeSet.{insert_key}
use Rattle.std.specs.List.{AllByRecursion}
use Rattle.std.specs.Ordering.{match_ordering, nat_cmp, ordering_then}
use Rattle.std.specs.declared.cmp.Ordering.{Ordering}
use Rattle.std.specs.declared.cmp.Ordering.TheVariants.{Less, Equal, Greater}
use Rattle.std.proofs.lemmas.Bool.{eqb-true, le-ltb, ltb-false, ltb-true, ne_eqb}
use Rattle.exchange.specs.declared.request.Request.{Request}
use Rattle.exchange.specs.InOrder.{AsksAreInOrder, IsAskOrder, begins_at, in_order, in_order_of_asks, in_turn, numbered, put_behind, turn_key}
use Rattle.exchange.proofs.Lists.{get_map, map_get, map_size, some_same, take_one_more, take_whole, within_get}

-- ---- one item more

module _ {X : Type 0} (at : X → ℕ) where
  each_behind : (P : X → Type 0) (x : X) (xs : List X) → P x → AllByRecursion P xs → AllByRecursion P (put_behind at x xs)
  each_behind P x [] h a = (h, tt)
  each_behind P x (y ∷ ys) h a = by (nat_lt (at x) (at y)) (each_behind P x ys h a.1)
    where
      by : (b : Bool) → AllByRecursion P (put_behind at x ys) → AllByRecursion P (if b then x ∷ y ∷ ys else y ∷ put_behind at x ys)
      by true rest = (h, a)
      by false rest = (a.0, rest)

  one_more : (x : X) (xs : List X) → length (put_behind at x xs) ≡ suc (length xs)
  one_more x [] = refl
  one_more x (y ∷ ys) = by (nat_lt (at x) (at y)) (one_more x ys)
    where
      by : (b : Bool) → length (put_behind at x ys) ≡ suc (length ys) → length (if b then x ∷ y ∷ ys else y ∷ put_behind at x ys) ≡ suc (suc (length ys))
      by true rest = refl
      by false rest = ap suc rest

  goes_in : (x : X) (xs : List X) → (k : ℕ) × (slice_get (put_behind at x xs) k ≡ Some x)
  goes_in x [] = (0, refl)
  goes_in x (y ∷ ys) = by (nat_lt (at x) (at y)) (goes_in x ys)
    where
      by : (b : Bool) → (k : ℕ) × (slice_get (put_behind at x ys) k ≡ Some x) → (k : ℕ) × (slice_get (if b then x ∷ y ∷ ys else y ∷ put_behind at x ys) k ≡ Some x)
      by true rest = (0, refl)
      by false rest = (suc rest.0, rest.1)

  stays_in : (x : X) (xs : List X) (j : ℕ) (z : X) → slice_get xs j ≡ Some z → (k : ℕ) × (slice_get (put_behind at x xs) k ≡ Some z)
  stays_in x [] j z e = absurd (cc)
  stays_in x (y ∷ ys) zero z e = by (nat_lt (at x) (at y))
    where
      by : (b : Bool) → (k : ℕ) × (slice_get (if b then x ∷ y ∷ ys else y ∷ put_behind at x ys) k ≡ Some z)
      by true = (1, e)
      by false = (0, e)
  stays_in x (y ∷ ys) (suc j) z e = by (nat_lt (at x) (at y)) (stays_in x ys j z e)
    where
      by : (b : Bool) → (k : ℕ) × (slice_get (put_behind at x ys) k ≡ Some z) → (k : ℕ) × (slice_get (if b then x ∷ y ∷ ys else y ∷ put_behind at x ys) k ≡ Some z)
      by true rest = (suc (suc j), e)
      by false rest = (suc rest.0, rest.1)

  -- ---- all items

  abbrev sorted_with : List X → List X → List X
  sorted_with front xs = fold (λ (sorted : List X) (x : X). put_behind at x sorted) front xs

  each_sorted : (P : X → Type 0) (front xs : List X) → AllByRecursion P front → AllByRecursion P xs → AllByRecursion P (sorted_with front xs)
  each_sorted P front [] a b = a
  each_sorted P front (x ∷ xs) a b = each_sorted P (put_behind at x front) xs (each_behind P x front b.0 a) b.1

  as_long : (front xs : List X) → length (sorted_with front xs) ≡ length front + length xs
  as_long front [] = omega arith
  as_long front (x ∷ xs) =
      let rest : length (sorted_with (put_behind at x front) xs) ≡ length (put_behind at x front) + length xs = as_long (put_behind at x front) xs in
      let one : length (put_behind at x front) ≡ suc (length front) = one_more x front in
      omega (arith, rest, one)

  stays : (front xs : List X) (j : ℕ) (z : X) → slice_get front j ≡ Some z → (k : ℕ) × (slice_get (sorted_with front xs) k ≡ Some z)
  stays front [] j z e = (j, e)
  stays front (x ∷ xs) j z e = let there = stays_in x front j z e in stays (put_behind at x front) xs there.0 z there.1

  comes : (front xs : List X) (j : ℕ) (z : X) → slice_get xs j ≡ Some z → (k : ℕ) × (slice_get (sorted_with front xs) k ≡ Some z)
  comes front [] j z e = absurd (cc)
  comes front (x ∷ xs) zero z e = let there = goes_in x front in stays (put_behind at x front) xs there.0 z (there.1 ∙ e)
  comes front (x ∷ xs) (suc j) z e = comes (put_behind at x front) xs j z e

  sorted_more : (front xs : List X) (x : X) → sorted_with front (xs ++ x ∷ []) ≡ put_behind at x (sorted_with front xs)
  sorted_more front [] x = refl
  sorted_more front (y ∷ xs) x = sorted_more (put_behind at y front) xs x

  -- ---- none is later than one behind it

  abbrev Rise : List X → Type 0
  Rise [] = ⊤
  Rise (x ∷ xs) = AllByRecursion (λ (y : X). at x ≤ at y) xs × Rise xs

  later_too : (m n : ℕ) (xs : List X) → m ≤ n → AllByRecursion (λ (y : X). n ≤ at y) xs → AllByRecursion (λ (y : X). m ≤ at y) xs
  later_too m n [] l a = tt
  later_too m n (x ∷ xs) l a = let h : n ≤ at x = a.0 in (omega (arith, l, h), later_too m n xs l a.1)

  rise_behind : (x : X) (xs : List X) → Rise xs → Rise (put_behind at x xs)
  rise_behind x [] a = (tt, tt)
  rise_behind x (y ∷ ys) a = by (nat_lt (at x) (at y)) refl (rise_behind x ys a.1)
    where
      by : (b : Bool) → nat_lt (at x) (at y) ≡ b → Rise (put_behind at x ys) → Rise (if b then x ∷ y ∷ ys else y ∷ put_behind at x ys)
      by true e rest =
          let l : at x < at y = ltb-true (at x) (at y) e in
          let m : at x ≤ at y = omega (arith, l) in
          ((m, later_too (at x) (at y) ys m a.0), a)
      by false e rest = (each_behind (λ (z : X). at y ≤ at z) x ys (ltb-false (at x) (at y) e) a.0, rest)

  rise_sorted : (front xs : List X) → Rise front → Rise (sorted_with front xs)
  rise_sorted front [] a = a
  rise_sorted front (x ∷ xs) a = rise_sorted (put_behind at x front) xs (rise_behind x front a)

  item_of : (P : X → Type 0) (xs : List X) (k : ℕ) (x : X) → slice_get xs k ≡ Some x → AllByRecursion P xs → P x
  item_of P [] k x e a = absurd (cc)
  item_of P (y ∷ ys) zero x e a = subst P (some_same y x e) a.0
  item_of P (y ∷ ys) (suc k) x e a = item_of P ys k x e a.1

  rise_at : (xs : List X) (j k : ℕ) (x y : X) → Rise xs → slice_get xs j ≡ Some x → slice_get xs k ≡ Some y → j < k → at x ≤ at y
  rise_at [] j k x y a e f l = absurd (cc)
  rise_at (z ∷ zs) j zero x y a e f l = absurd (omega (arith, l))
  rise_at (z ∷ zs) zero (suc k) x y a e f l = subst (λ (w : X). at w ≤ at y) (some_same z x e) (item_of (λ (w : X). at z ≤ at w) zs k y f a.0)
  rise_at (z ∷ zs) (suc j) (suc k) x y a e f l = rise_at zs j k x y a.1 e f (omega (arith, l))

  -- ---- those that are equally early stand as they stood

  module _ (n : ℕ) where
    abbrev just_then : X → Bool
    just_then x = at x == n

    none_then : (xs : List X) → AllByRecursion (λ (y : X). suc n ≤ at y) xs → filter just_then xs ≡ []
    none_then [] a = refl
    none_then (x ∷ xs) a =
        let l : suc n ≤ at x = a.0 in
        ap (λ (b : Bool). cond b (x ∷ filter just_then xs) (filter just_then xs)) (ne_eqb (at x) n (λ e. absurd (omega (arith, l, e)))) ∙ none_then xs a.1

    same_behind : (x : X) (xs : List X) → Rise xs → filter just_then (put_behind at x xs) ≡ filter just_then xs ++ filter just_then (x ∷ [])
    same_behind x [] a = refl
    same_behind x (y ∷ ys) a = by (nat_lt (at x) (at y)) refl (same_behind x ys a.1)
      where
        behind : (b : Bool) → filter just_then (put_behind at x ys) ≡ filter just_then ys ++ filter just_then (x ∷ [])
            → cond b (y ∷ filter just_then (put_behind at x ys)) (filter just_then (put_behind at x ys)) ≡ cond b (y ∷ filter just_then ys) (filter just_then ys) ++ filter just_then (x ∷ [])
        behind true rest = ap (λ (l : List X). y ∷ l) rest
        behind false rest = rest

        ahead : (b : Bool) → just_then x ≡ b → at x < at y → cond b (x ∷ filter just_then (y ∷ ys)) (filter just_then (y ∷ ys)) ≡ filter just_then (y ∷ ys) ++ cond b (x ∷ []) []
        ahead true e l =
            let here : at x ≡ n = eqb-true (at x) n e in
            let m : suc n ≤ at y = omega (arith, here, l) in
            let none : filter just_then (y ∷ ys) ≡ [] = none_then (y ∷ ys) (m, later_too (suc n) (at y) ys m a.0) in
            (λ i. x ∷ none i) ∙ sym (λ i. none i ++ x ∷ [])
        ahead false e l = sym (append-nil (filter just_then (y ∷ ys)))

        by : (b : Bool) → nat_lt (at x) (at y) ≡ b → filter just_then (put_behind at x ys) ≡ filter just_then ys ++ filter just_then (x ∷ [])
            → filter just_then (if b then x ∷ y ∷ ys else y ∷ put_behind at x ys) ≡ filter just_then (y ∷ ys) ++ filter just_then (x ∷ [])
        by true e rest = ahead (just_then x) refl (ltb-true (at x) (at y) e)
        by false e rest = behind (just_then y) rest

    front_first : (x : X) (xs : List X) → filter just_then (x ∷ xs) ≡ filter just_then (x ∷ []) ++ filter just_then xs
    front_first x xs = by (just_then x)
      where
        by : (b : Bool) → cond b (x ∷ filter just_then xs) (filter just_then xs) ≡ cond b (x ∷ []) [] ++ filter just_then xs
        by true = refl
        by false = refl

    same_sorted : (front xs : List X) → Rise front → filter just_then (sorted_with front xs) ≡ filter just_then front ++ filter just_then xs
    same_sorted front [] a = sym (append-nil (filter just_then front))
    same_sorted front (x ∷ xs) a =
        same_sorted (put_behind at x front) xs (rise_behind x front a) ∙ ap (λ (l : List X). l ++ filter just_then xs) (same_behind x front a)
        ∙ append_assoc (filter just_then front) (filter just_then (x ∷ [])) (filter just_then xs) ∙ ap (λ (l : List X). filter just_then front ++ l) (sym (front_first x xs))

pub in_order_is : AsksAreInOrder
in_order_is requests = record {
  rising = λ j k r s e f l. rise_at begins_at (in_order_of_asks requests) j k r s (rise_sorted begins_at [] requests tt) e f l;
  same = λ byte. same_sorted begins_at byte [] requests tt;
}

-- ---- items beside something

module _ {X Y : Type 0} (f : X → Y) (at : Y → ℕ) where
  map_behind : (x : X) (xs : List X) → map f (put_behind (λ (z : X). at (f z)) x xs) ≡ put_behind at (f x) (map f xs)
  map_behind x [] = refl
  map_behind x (y ∷ ys) = by (nat_lt (at (f x)) (at (f y))) (map_behind x ys)
    where
      by : (b : Bool) → map f (put_behind (λ (z : X). at (f z)) x ys) ≡ put_behind at (f x) (map f ys)
          → map f (if b then x ∷ y ∷ ys else y ∷ put_behind (λ (z : X). at (f z)) x ys) ≡ (if b then f x ∷ f y ∷ map f ys else f y ∷ put_behind at (f x) (map f ys))
      by true rest = refl
      by false rest = ap (λ (l : List Y). f y ∷ l) rest

  map_sorted : (front xs : List X) → map f (sorted_with (λ (z : X). at (f z)) front xs) ≡ sorted_with at (map f front) (map f xs)
  map_sorted front [] = refl
  map_sorted front (x ∷ xs) = map_sorted (put_behind (λ (z : X). at (f z)) x front) xs ∙ ap (λ (l : List Y). sorted_with at l (map f xs)) (map_behind x front)

module _ {X : Type 0} where
  pub number_size : (n : ℕ) (xs : List X) → length (numbered n xs) ≡ length xs
  number_size n [] = refl
  number_size n (x ∷ xs) = ap suc (number_size (suc n) xs)

  items_of : (n : ℕ) (xs : List X) → map (λ (t : ℕ × X). t.1) (numbered n xs) ≡ xs
  items_of n [] = refl
  items_of n (x ∷ xs) = ap (λ (l : List X). x ∷ l) (items_of (suc n) xs)

  pub number_at : (n : ℕ) (xs : List X) (k : ℕ) (x : X) → slice_get xs k ≡ Some x → slice_get (numbered n xs) k ≡ Some (n + k, x)
  number_at n [] k x e = absurd (cc)
  number_at n (y ∷ xs) zero x e = let same : n ≡ n + zero = omega arith in (λ i. Some (same i, some_same y x e i))
  number_at n (y ∷ xs) (suc k) x e = let same : suc n + k ≡ n + suc k = omega arith in number_at (suc n) xs k x e ∙ ap (λ (m : ℕ). Some (m, x)) same

  pub number_first : (xs : List X) (k : ℕ) (x : X) → slice_get xs k ≡ Some x → slice_get (numbered 0 xs) k ≡ Some (k, x)
  number_first xs k x e = let same : 0 + k ≡ k = omega arith in number_at 0 xs k x e ∙ ap (λ (m : ℕ). Some (m, x)) same

  each_numbered : (P : ℕ × X → Type 0) (n : ℕ) (xs : List X) → ((k : ℕ) (x : X) → slice_get xs k ≡ Some x → P (n + k, x)) → AllByRecursion P (numbered n xs)
  each_numbered P n [] h = tt
  each_numbered P n (x ∷ xs) h =
      let same : n + zero ≡ n = omega arith in
      (subst (λ (m : ℕ). P (m, x)) same (h zero x refl), each_numbered P (suc n) xs (λ k y e. let next : n + suc k ≡ suc n + k = omega arith in subst (λ (m : ℕ). P (m, y)) next (h (suc k) y e)))

-- ---- turns

abbrev begins_in : ℕ × Request → ℕ
begins_in t = begins_at t.1

abbrev key_cmp : ℕ × ℕ → ℕ × ℕ → Ordering
key_cmp x y = ordering_then (nat_cmp x.0 y.0) (nat_cmp x.1 y.1)

greater_is : (m n : ℕ) → n < m → nat_cmp m n ≡ Greater
greater_is m n l = (λ i. cond (le-ltb m n (omega (arith, l)) i) Less (cond (ne_eqb m n (λ e. absurd (omega (arith, l, e))) i) Equal Greater))

-- a key of a later place goes behind those of equal first bytes
key_put : (k : ℕ) (r : Request) (ts : List (ℕ × Request)) → AllByRecursion (λ (t : ℕ × Request). t.0 < k) ts → insert_key key_cmp (map turn_key ts) (turn_key (k, r)) ≡ map turn_key (put_behind begins_in (k, r) ts)
key_put k r [] a = refl
key_put k r (t ∷ ts) a = by (nat_lt (begins_at r) (begins_at t.1)) (begins_at r == begins_at t.1) (nat_cmp k t.0) (greater_is k t.0 a.0) (key_put k r ts a.1)
  where
    by : (b e : Bool) (o : Ordering) → o ≡ Greater → insert_key key_cmp (map turn_key ts) (turn_key (k, r)) ≡ map turn_key (put_behind begins_in (k, r) ts)
        → match_ordering (ordering_then (cond b Less (cond e Equal Greater)) o) (turn_key (k, r) ∷ turn_key t ∷ map turn_key ts) (turn_key t ∷ map turn_key ts) (turn_key t ∷ insert_key key_cmp (map turn_key ts) (turn_key (k, r)))
        ≡ map turn_key (if b then (k, r) ∷ t ∷ ts else t ∷ put_behind begins_in (k, r) ts)
    by true e o g rest = refl
    by false true o g rest =
        ap (λ (q : Ordering). match_ordering q (turn_key (k, r) ∷ turn_key t ∷ map turn_key ts) (turn_key t ∷ map turn_key ts) (turn_key t ∷ insert_key key_cmp (map turn_key ts) (turn_key (k, r)))) g
        ∙ ap (λ (l : List (ℕ × ℕ)). turn_key t ∷ l) rest
    by false false o g rest = ap (λ (l : List (ℕ × ℕ)). turn_key t ∷ l) rest

-- one turn more
take_all : {X : Type 0} (P : X → Type 0) (n : ℕ) (xs : List X) → AllByRecursion P xs → AllByRecursion P (take n xs)
take_all P zero xs a = tt
take_all P (suc n) [] a = tt
take_all P (suc n) (x ∷ xs) a = (a.0, take_all P n xs a.1)

below : {X : Type 0} (n k : ℕ) (xs : List X) → AllByRecursion (λ (t : ℕ × X). t.0 < n + k) (take k (numbered n xs))
below n zero xs = tt
below n (suc k) [] = tt
below {X} n (suc k) (x ∷ xs) = (omega arith, subst (λ (m : ℕ). AllByRecursion (λ (t : ℕ × X). t.0 < m) (take k (numbered (suc n) xs))) (let same : suc n + k ≡ n + suc k = omega arith in same) (below (suc n) k xs))

below_first : {X : Type 0} (k : ℕ) (xs : List X) → AllByRecursion (λ (t : ℕ × X). t.0 < k) (take k (numbered 0 xs))
below_first {X} k xs = let same : 0 + k ≡ k = omega arith in subst (λ (m : ℕ). AllByRecursion (λ (t : ℕ × X). t.0 < m) (take k (numbered 0 xs))) same (below 0 k xs)

pub turn_more : (requests : List Request) (k byte : ℕ) (keys new : List (ℕ × ℕ)) → k < length requests → ((r : Request) → slice_get requests k ≡ Some r → byte ≡ begins_at r) → keys ≡ map turn_key (in_order begins_in (take k (numbered 0 requests)))
    → new ≡ insert_key key_cmp keys (byte, k) → new ≡ map turn_key (in_order begins_in (take (k + 1) (numbered 0 requests)))
turn_more requests k byte keys new l b e n =
    let r = within_get requests k l in
    let all = numbered 0 requests in
    let at : slice_get all k ≡ Some (k, r.0) = number_first requests k r.0 r.1 in
    let few : AllByRecursion (λ (t : ℕ × Request). t.0 < k) (in_order begins_in (take k all)) = each_sorted begins_in (λ (t : ℕ × Request). t.0 < k) [] (take k all) tt (below_first k requests) in
    let first : new ≡ insert_key key_cmp (map turn_key (in_order begins_in (take k all))) (turn_key (k, r.0)) = n ∙ ap (λ (ks : List (ℕ × ℕ)). insert_key key_cmp ks (byte, k)) e ∙ ap (λ (m : ℕ). insert_key key_cmp (map turn_key (in_order begins_in (take k all))) (m, k)) (b r.0 r.1) in
    first ∙ key_put k r.0 (in_order begins_in (take k all)) few
    ∙ ap (map turn_key) (sym (sorted_more begins_in [] (take k all) (k, r.0)) ∙ ap (in_order begins_in) (take_one_more all k (k, r.0) at))

pub turns_all : (requests : List Request) (k : ℕ) (keys : List (ℕ × ℕ)) → k ≡ length requests → keys ≡ map turn_key (in_order begins_in (take k (numbered 0 requests))) → keys ≡ map turn_key (in_turn requests)
turns_all requests k keys l e = e ∙ ap (λ (ts : List (ℕ × Request)). map turn_key (in_order begins_in ts)) (take_whole (numbered 0 requests) k (l ∙ sym (number_size 0 requests)))

-- ---- the order of asks

map_twice : (ts : List (ℕ × Request)) → map (λ (x : ℕ × ℕ). x.1) (map turn_key ts) ≡ map (λ (t : ℕ × Request). t.0) ts
map_twice [] = refl
map_twice (t ∷ ts) = ap (λ (l : List ℕ). t.0 ∷ l) (map_twice ts)

requests_in : (requests : List Request) → map (λ (t : ℕ × Request). t.1) (in_turn requests) ≡ in_order_of_asks requests
requests_in requests = map_sorted (λ (t : ℕ × Request). t.1) begins_at [] (numbered 0 requests) ∙ ap in_order_of_asks (items_of 0 requests)

each_named : (requests : List Request) → AllByRecursion (λ (t : ℕ × Request). slice_get requests t.0 ≡ Some t.1) (in_turn requests)
each_named requests =
    each_sorted begins_in (λ (t : ℕ × Request). slice_get requests t.0 ≡ Some t.1) [] (numbered 0 requests) tt
    (each_numbered (λ (t : ℕ × Request). slice_get requests t.0 ≡ Some t.1) 0 requests (λ k r e. let same : k ≡ 0 + k = omega arith in subst (λ (m : ℕ). slice_get requests m ≡ Some r) same e))

places_order : (requests : List Request) → IsAskOrder requests (map (λ (t : ℕ × Request). t.0) (in_turn requests))
places_order requests = record {
  as_many = map_size (λ (t : ℕ × Request). t.0) (in_turn requests) ∙ sym (map_size (λ (t : ℕ × Request). t.1) (in_turn requests)) ∙ ap length (requests_in requests);
  all = λ k l.
      (let r = within_get requests k l in
      let there = comes begins_in [] (numbered 0 requests) k (k, r.0) (number_first requests k r.0 r.1) in
      (there.0, get_map (λ (t : ℕ × Request). t.0) (in_turn requests) there.0 (k, r.0) there.1));
  each = λ j k at.
      (let t = map_get (λ (t : ℕ × Request). t.0) (in_turn requests) j k at in
      let own : slice_get requests t.0.0 ≡ Some t.0.1 = item_of begins_in (λ (t : ℕ × Request). slice_get requests t.0 ≡ Some t.1) (in_turn requests) j t.0 t.1 (each_named requests) in
      (t.0.1, ap (slice_get requests) (sym t.2) ∙ own, ap (λ (l : List Request). slice_get l j) (sym (requests_in requests)) ∙ get_map (λ (t : ℕ × Request). t.1) (in_turn requests) j t.0 t.1));
}

pub order_is : (requests : List Request) (keys : List (ℕ × ℕ)) (order : List ℕ) → keys ≡ map turn_key (in_turn requests) → order ≡ map (λ (x : ℕ × ℕ). x.1) keys → IsAskOrder requests order
order_is requests keys order e f = subst (IsAskOrder requests) (sym (f ∙ ap (map (λ (x : ℕ × ℕ). x.1)) e ∙ map_twice (in_turn requests))) (places_order requests)
