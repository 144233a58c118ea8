-- What stays true of those that are kept of a list while it grows, and once it is cut.
use Rattle.std.proofs.Common.{◌≡◌, ◌∙◌, ℕ, zero, suc, ◌+◌, ◌<◌, ◌≤◌, Bool, true, false, cond, List, [], ◌∷◌, ◌++◌, length, get_or, slice_get, take, drop, ◌-◌, refl, sym, ap, subst, arith, append_assoc, Some}
use Rattle.std.specs.Prelude.{not, nat_lt, count_by}
use Rattle.std.specs.Cmp.{IsStrictWeakOrder}
use Rattle.std.specs.List.{AllByRecursion}
use Rattle.std.specs.List.Sorted.{IsPermutation, IsSortedBy}
use Rattle.std.proofs.lemmas.Bool.{ltb-false, ltb-true}
use Rattle.std.proofs.lemmas.List.{get_or-drop, get_or-take, get_or_default, length-append, length-drop, length-take-le}
use Rattle.std.proofs.lemmas.List.Sums.{count_by-le-length, sum_by-append, sum_by-cons}
use Rattle.std.proofs.Math.Seq.{split_at}
use Rattle.std.proofs.lemmas.List.Sorted.{sorted_far, IsPermutation-refl, IsPermutation-trans, IsPermutation-append_comm, IsPermutation-append_left, IsPermutation-append_right, length_permutation, sum_by-IsPermutation}
use Rattle.op_rank.specs.Best.{HasLast, HoldsBest, Keeps}

-- ---- lists

pub both : {X : Type 0} (P : X → Type 0) (xs ys : List X) → AllByRecursion P xs → AllByRecursion P ys → AllByRecursion P (xs ++ ys)
both P [] ys a b = b
both P (x ∷ xs) ys a b = (a.0, both P xs ys a.1 b)

each : {X : Type 0} (P Q : X → Type 0) (xs : List X) → ((x : X) → P x → Q x) → AllByRecursion P xs → AllByRecursion Q xs
each P Q [] f a = tt
each P Q (x ∷ xs) f a = (f x a.0, each P Q xs f a.1)

module _ {X : Type 0} (p : X → Bool) where
  pub count_of_two : (xs ys : List X) → count_by p (xs ++ ys) ≡ count_by p xs + count_by p ys
  count_of_two xs ys = sum_by-append (λ x. cond (p x) 1 0) xs ys

  pub count_of_more : (x : X) (xs : List X) → count_by p (x ∷ xs) ≡ cond (p x) 1 0 + count_by p xs
  count_of_more x xs = sum_by-cons (λ y. cond (p y) 1 0) x xs

  pub count_all : (xs : List X) → AllByRecursion (λ x. p x ≡ true) xs → count_by p xs ≡ length xs
  count_all [] a = refl
  count_all (x ∷ xs) a =
      let here : count_by p (x ∷ xs) ≡ 1 + count_by p xs = count_of_more x xs ∙ ap (λ b. cond b 1 0 + count_by p xs) a.0 in
      let rest : count_by p xs ≡ length xs = count_all xs a.1 in
      omega (arith, here, rest)

  pub count_none : (xs : List X) → AllByRecursion (λ x. p x ≡ false) xs → count_by p xs ≡ 0
  count_none [] a = refl
  count_none (x ∷ xs) a =
      let here : count_by p (x ∷ xs) ≡ 0 + count_by p xs = count_of_more x xs ∙ ap (λ b. cond b 1 0 + count_by p xs) a.0 in
      let rest : count_by p xs ≡ 0 = count_none xs a.1 in
      omega (arith, here, rest)

-- ---- what is kept

pub keeps_none : {X : Type 0} (lt : X → X → Bool) (k : ℕ) → 0 < k → Keeps lt k [] []
keeps_none lt k some = (record { left_out = []; parted = IsPermutation-refl []; ahead = tt }, λ l. absurd (omega (arith, some, l)))

module _ {X : Type 0} (lt : X → X → Bool) (order : IsStrictWeakOrder lt) (k : ℕ) where
  -- those that x doesn't come before
  stands : X → X → Bool
  stands x b = not (lt x b)

  -- the first k are at or before what doesn't come before their last
  front_stands : (x last : X) (front : List X) → lt x last ≡ false → AllByRecursion (λ f. lt last f ≡ false) front → AllByRecursion (λ f. not (lt x f) ≡ true) front
  front_stands x last [] h a = tt
  front_stands x last (f ∷ front) h a = (ap not (order.chain x last f h a.0), front_stands x last front h a.1)

  first_stand : (x last : X) (front : List X) → length front + 1 ≡ k → lt x last ≡ false → AllByRecursion (λ f. lt last f ≡ false) front → count_by (λ b. not (lt x b)) (front ++ last ∷ []) ≡ k
  first_stand x last front n h a =
      let all = count_all (λ b. not (lt x b)) (front ++ last ∷ []) (both (λ f. not (lt x f) ≡ true) front (last ∷ []) (front_stands x last front h a) (ap not h, tt)) in
      let long = length-append front (last ∷ []) in
      omega (arith, all, long, n)

  -- one more comes, and isn't kept
  pub keeps_but_one : (all kept : List X) (x : X) (front : List X) (last : X) (more : List X) → kept ≡ front ++ last ∷ more → length front + 1 ≡ k → AllByRecursion (λ f. lt last f ≡ false) front → lt x last ≡ false
      → HoldsBest lt k all kept → HoldsBest lt k (all ++ x ∷ []) kept
  keeps_but_one all kept x front last more is n a h holds = record {
    left_out = x ∷ holds.left_out;
    parted = IsPermutation-trans (all ++ x ∷ []) ((kept ++ holds.left_out) ++ x ∷ []) (kept ++ x ∷ holds.left_out) (IsPermutation-append_left (x ∷ []) all (kept ++ holds.left_out) holds.parted)
        (subst (λ l. IsPermutation l (kept ++ x ∷ holds.left_out)) (sym (append_assoc kept holds.left_out (x ∷ []))) (IsPermutation-append_right kept (holds.left_out ++ x ∷ []) (x ∷ holds.left_out) (IsPermutation-append_comm holds.left_out (x ∷ []))));
    ahead = (enough, holds.ahead);
  }
    where
      whole : kept ≡ (front ++ last ∷ []) ++ more
      whole = is ∙ sym (append_assoc front (last ∷ []) more)

      enough : k ≤ count_by (λ b. not (lt x b)) kept
      enough =
          let parts : count_by (λ b. not (lt x b)) kept ≡ count_by (λ b. not (lt x b)) (front ++ last ∷ []) + count_by (λ b. not (lt x b)) more = ap (count_by (λ b. not (lt x b))) whole ∙ count_of_two (λ b. not (lt x b)) (front ++ last ∷ []) more in
          let first = first_stand x last front n h a in
          omega (arith, parts, first)

  -- one more comes, and is kept
  pub keeps_one_more : (all kept : List X) (x : X) → HoldsBest lt k all kept → HoldsBest lt k (all ++ x ∷ []) (kept ++ x ∷ [])
  keeps_one_more all kept x holds = record {
    left_out = holds.left_out;
    parted = IsPermutation-trans (all ++ x ∷ []) ((kept ++ holds.left_out) ++ x ∷ []) ((kept ++ x ∷ []) ++ holds.left_out) (IsPermutation-append_left (x ∷ []) all (kept ++ holds.left_out) holds.parted)
        (subst (λ l. IsPermutation l ((kept ++ x ∷ []) ++ holds.left_out)) (sym (append_assoc kept holds.left_out (x ∷ [])))
        (subst (IsPermutation (kept ++ (holds.left_out ++ x ∷ []))) (sym (append_assoc kept (x ∷ []) holds.left_out)) (IsPermutation-append_right kept (holds.left_out ++ x ∷ []) (x ∷ holds.left_out) (IsPermutation-append_comm holds.left_out (x ∷ [])))));
    ahead = each (λ o. k ≤ count_by (λ b. not (lt o b)) kept) (λ o. k ≤ count_by (λ b. not (lt o b)) (kept ++ x ∷ [])) holds.left_out (λ o l. let parts = count_of_two (λ b. not (lt o b)) kept (x ∷ []) in omega (arith, l, parts)) holds.ahead;
  }

  -- the first k of some that hold the best hold them
  module _ (all kept front : List X) (last : X) (back : List X) (holds : HoldsBest lt k all kept) (moved : IsPermutation kept (front ++ last ∷ back)) (n : length front + 1 ≡ k)
      (behind : AllByRecursion (λ f. lt last f ≡ false) front) (ahead : AllByRecursion (λ b. lt b last ≡ false) back) where
    back_enough : (some : List X) → AllByRecursion (λ b. lt b last ≡ false) some → AllByRecursion (λ o. k ≤ count_by (λ b. not (lt o b)) (front ++ last ∷ [])) some
    back_enough [] a = tt
    back_enough (o ∷ some) a = ((let first = first_stand o last front n a.0 behind in omega (arith, first)), back_enough some a.1)

    none_behind : (o : X) → lt o last ≡ true → (some : List X) → AllByRecursion (λ b. lt b last ≡ false) some → AllByRecursion (λ b. not (lt o b) ≡ false) some
    none_behind o h [] a = tt
    none_behind o h (b ∷ some) a = (by (lt o b) refl, none_behind o h some a.1)
      where
        by : (t : Bool) → lt o b ≡ t → not (lt o b) ≡ false
        by true e = ap not e
        by false e = let wrong : lt o last ≡ false = order.chain o b last e a.0 in absurd (cc)

    one_enough : (o : X) → k ≤ count_by (λ b. not (lt o b)) kept → k ≤ count_by (λ b. not (lt o b)) (front ++ last ∷ [])
    one_enough o l = by (lt o last) refl
      where
        by : (t : Bool) → lt o last ≡ t → k ≤ count_by (λ b. not (lt o b)) (front ++ last ∷ [])
        by false e = let first = first_stand o last front n e behind in omega (arith, first)
        by true e =
            let same : count_by (λ b. not (lt o b)) (front ++ last ∷ back) ≡ count_by (λ b. not (lt o b)) kept = sum_by-IsPermutation (λ b. cond (not (lt o b)) 1 0) kept (front ++ last ∷ back) moved in
            let parts = count_of_two (λ b. not (lt o b)) front (last ∷ back) in
            let most = count_by-le-length (λ b. not (lt o b)) front in
            let none = count_none (λ b. not (lt o b)) (last ∷ back) (ap not e, none_behind o e back ahead) in
            absurd (omega (arith, l, same, parts, most, none, n))

    all_enough : (some : List X) → AllByRecursion (λ o. k ≤ count_by (λ b. not (lt o b)) kept) some → AllByRecursion (λ o. k ≤ count_by (λ b. not (lt o b)) (front ++ last ∷ [])) some
    all_enough some a = each (λ o. k ≤ count_by (λ b. not (lt o b)) kept) (λ o. k ≤ count_by (λ b. not (lt o b)) (front ++ last ∷ [])) some one_enough a

    pub cut_holds : HoldsBest lt k all (front ++ last ∷ [])
    cut_holds = record {
      left_out = back ++ holds.left_out;
      parted = IsPermutation-trans all (kept ++ holds.left_out) ((front ++ last ∷ []) ++ (back ++ holds.left_out)) holds.parted
          (subst (IsPermutation (kept ++ holds.left_out)) same (IsPermutation-append_left holds.left_out kept (front ++ last ∷ back) moved));
      ahead = both (λ o. k ≤ count_by (λ b. not (lt o b)) (front ++ last ∷ [])) back holds.left_out (back_enough back ahead) (all_enough holds.left_out holds.ahead);
    }
      where
        same : (front ++ last ∷ back) ++ holds.left_out ≡ (front ++ last ∷ []) ++ (back ++ holds.left_out)
        same = ap (λ l. l ++ holds.left_out) (sym (append_assoc front (last ∷ []) back)) ∙ append_assoc (front ++ last ∷ []) back holds.left_out

-- ---- what a sort gives

by_place : {X : Type 0} (P : X → Type 0) (xs : List X) → ((k : ℕ) (d : X) → k < length xs → P (get_or xs k d)) → AllByRecursion P xs
by_place P [] f = tt
by_place P (x ∷ xs) f = (f 0 x (omega arith), by_place P xs (λ k d l. f (suc k) d (omega arith)))

-- in front of the one at a place stand those that it doesn't come before, and behind it those that don't come before it
record IsSplit {X : Type 0} (lt : X → X → Bool) (k : ℕ) (some : List X) : Type 0 where
  front : List X
  last : X
  back : List X
  is : some ≡ front ++ last ∷ back
  count : length front + 1 ≡ k
  behind : AllByRecursion (λ (x : X). lt last x ≡ false) front
  ahead : AllByRecursion (λ (x : X). lt x last ≡ false) back

split_sorted : {X : Type 0} (lt : X → X → Bool) → IsStrictWeakOrder lt → (k : ℕ) (xs : List X) → 0 < k → k ≤ length xs → IsSortedBy lt xs → IsSplit lt k xs
split_sorted lt order k [] some many up = absurd (omega arith)
split_sorted {X} lt order k (x ∷ xs) some many up = record {
  front = take (k - 1) (x ∷ xs);
  last = get_or (x ∷ xs) (k - 1) x;
  back = drop (suc (k - 1)) (x ∷ xs);
  is = split_at (x ∷ xs) (k - 1) x within;
  count = omega (arith, long, some);
  behind = by_place (λ y. lt (get_or (x ∷ xs) (k - 1) x) y ≡ false) (take (k - 1) (x ∷ xs)) in_front;
  ahead = by_place (λ y. lt y (get_or (x ∷ xs) (k - 1) x) ≡ false) (drop (suc (k - 1)) (x ∷ xs)) in_back;
}
  where
    within : k - 1 < length (x ∷ xs)
    within = omega (arith, some, many)

    long : length (take (k - 1) (x ∷ xs)) ≡ k - 1
    long = length-take-le (k - 1) (x ∷ xs) (omega (arith, some, many))

    in_front : (j : ℕ) (d : X) → j < length (take (k - 1) (x ∷ xs)) → lt (get_or (x ∷ xs) (k - 1) x) (get_or (take (k - 1) (x ∷ xs)) j d) ≡ false
    in_front j d l =
        let less : j < k - 1 = omega (arith, l, long) in
        let sorted : lt (get_or (x ∷ xs) (k - 1) d) (get_or (x ∷ xs) j d) ≡ false = sorted_far lt order (x ∷ xs) up j (k - 1) d (omega (arith, less)) within in
        (λ i. lt (get_or_default (x ∷ xs) (k - 1) x d within i) (get_or-take (k - 1) (x ∷ xs) j d less i)) ∙ sorted

    in_back : (j : ℕ) (d : X) → j < length (drop (suc (k - 1)) (x ∷ xs)) → lt (get_or (drop (suc (k - 1)) (x ∷ xs)) j d) (get_or (x ∷ xs) (k - 1) x) ≡ false
    in_back j d l =
        let rest = length-drop (suc (k - 1)) (x ∷ xs) in
        let sorted : lt (get_or (x ∷ xs) (suc (k - 1) + j) d) (get_or (x ∷ xs) (k - 1) d) ≡ false = sorted_far lt order (x ∷ xs) up (k - 1) (suc (k - 1) + j) d (omega arith) (omega (arith, l, rest)) in
        (λ i. lt (get_or-drop (suc (k - 1)) (x ∷ xs) j d i) (get_or_default (x ∷ xs) (k - 1) x d within i)) ∙ sorted

module _ {X : Type 0} where
  front_of : (front : List X) (last : X) (back : List X) → take (length front + 1) (front ++ last ∷ back) ≡ front ++ last ∷ []
  front_of [] last back = refl
  front_of (x ∷ front) last back =
      let n : length (x ∷ front) + 1 ≡ suc (length front + 1) = omega arith in
      rw n (ap (λ xs. x ∷ xs) (front_of front last back))

  last_there : (front : List X) (last : X) (more : List X) → slice_get (front ++ last ∷ more) (length front) ≡ Some last
  last_there [] last more = refl
  last_there (x ∷ front) last more = last_there front last more

-- ---- what stays true

module _ {X : Type 0} (lt : X → X → Bool) (order : IsStrictWeakOrder lt) (k : ℕ) where
  -- once they are cut
  pub cut_keeps : (all kept sorted cut : List X) → 0 < k → k ≤ length kept → IsPermutation kept sorted → IsSortedBy lt sorted → cut ≡ take k sorted → HoldsBest lt k all kept → Keeps lt k all cut
  cut_keeps all kept sorted cut some many p up e holds =
      let long = length_permutation kept sorted p in
      let s = split_sorted lt order k sorted some (omega (arith, many, long)) up in
      let is : cut ≡ s.front ++ s.last ∷ [] = e ∙ (λ j. take (sym s.count j) (s.is j)) ∙ front_of s.front s.last s.back in
      let best : HoldsBest lt k all (s.front ++ s.last ∷ []) = cut_holds lt order k all kept s.front s.last s.back holds (subst (IsPermutation kept) s.is p) s.count s.behind s.ahead in
      (subst (HoldsBest lt k all) (sym is) best, λ l. record { front = s.front; last = s.last; more = []; is = is; count = s.count; behind = s.behind })

  pub cut_count : (kept sorted cut : List X) → k ≤ length kept → IsPermutation kept sorted → cut ≡ take k sorted → length cut ≡ k
  cut_count kept sorted cut many p e = let long = length_permutation kept sorted p in ap length e ∙ length-take-le k sorted (omega (arith, many, long))

  -- when one more comes that isn't kept
  pub left_out_keeps : (all kept : List X) (x : X) → k ≤ length kept → ((last : X) → slice_get kept (k - 1) ≡ Some last → lt x last ≡ false) → Keeps lt k all kept → Keeps lt k (all ++ x ∷ []) kept
  left_out_keeps all kept x l f keeps =
      let h = keeps.1 l in
      let place : length h.front ≡ k - 1 = omega (arith, h.count) in
      let last : slice_get kept (k - 1) ≡ Some h.last = (λ j. slice_get (h.is j) (sym place j)) ∙ last_there h.front h.last h.more in
      (keeps_but_one lt order k all kept x h.front h.last h.more h.is h.count h.behind (f h.last last) keeps.0, keeps.1)

  -- and that is, where they aren't cut
  pub more_keeps : (all kept new : List X) (x : X) → new ≡ kept ++ x ∷ [] → (length new ≡ k → ⊥) → Keeps lt k all kept → Keeps lt k (all ++ x ∷ []) new
  more_keeps all kept new x e f keeps = (subst (HoldsBest lt k (all ++ x ∷ [])) (sym e) (keeps_one_more lt order k all kept x keeps.0), has)
    where
      grown : HasLast lt k kept → HasLast lt k new
      grown h = record {
        front = h.front;
        last = h.last;
        more = h.more ++ x ∷ [];
        is = e ∙ ap (λ xs. xs ++ x ∷ []) h.is ∙ append_assoc h.front (h.last ∷ h.more) (x ∷ []);
        count = h.count;
        behind = h.behind;
      }

      has : k ≤ length new → HasLast lt k new
      has l =
          let long : length new ≡ length kept + 1 = ap length e ∙ length-append kept (x ∷ []) in
          grown (keeps.1 (enough (length kept) (length new) l long f))
        where
          enough : (n m : ℕ) → k ≤ m → m ≡ n + 1 → (m ≡ k → ⊥) → k ≤ n
          enough n m l e f = pick (nat_lt n k) refl
            where
              pick : (b : Bool) → nat_lt n k ≡ b → k ≤ n
              pick true h = let less : n < k = ltb-true n k h in absurd (f (omega arith))
              pick false h = ltb-false n k h

pub not_true : (b : Bool) → not b ≡ true → b ≡ false
not_true true h = absurd (cc)
not_true false h = refl

pub same_there : {X : Type 0} (xs : List X) (i : ℕ) (x y : X) → i < length xs → slice_get xs i ≡ Some x → y ≡ get_or xs i y → y ≡ x
same_there [] i x y l e f = absurd (omega arith)
same_there (z ∷ xs) zero x y l e f = f ∙ cc
same_there (z ∷ xs) (suc i) x y l e f = same_there xs i x y (omega arith) e f
