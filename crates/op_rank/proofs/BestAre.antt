-- Among the k best are those that fewer than k come before.
use Rattle.std.proofs.Common.{◌≡◌, ◌∙◌, ℕ, ◌+◌, ◌<◌, ◌≤◌, Bool, true, false, cond, List, [], ◌∷◌, ◌++◌, length, refl, sym, ap, subst, arith}
use Rattle.std.specs.Prelude.{◌||◌, not, nat_lt, count_by}
use Rattle.std.specs.Cmp.{IsTotalOrder, eq_by_cmp_equiv}
use Rattle.std.specs.List.{AllByRecursion, IsDistinct, list_any}
use Rattle.std.specs.Ordering.{eq_by_cmp, is_eq, is_lt, ordering_reverse}
use Rattle.std.specs.declared.cmp.Ordering.{Ordering}
use Rattle.std.specs.declared.cmp.Ordering.TheVariants.{Less, Equal, Greater}
use Rattle.std.proofs.lemmas.Bool.{le-ltb, lt-ltb}
use Rattle.std.proofs.lemmas.Cmp.{tied_itself}
use Rattle.std.proofs.lemmas.List.{length-append}
use Rattle.std.proofs.lemmas.List.Sums.{count_by-le-length}
use Rattle.std.proofs.lemmas.List.Elements.{All-from_recursion, recursion_from_All}
use Rattle.std.proofs.lemmas.List.Sorted.{All-permutation, list_any-IsPermutation, sum_by-IsPermutation}
use Rattle.std.proofs.lemmas.Map.Keys.{IsDistinct-IsPermutation, IsDistinct-head, IsDistinct-tail}
use Rattle.op_rank.specs.Best.{AreBest}
use Rattle.op_rank.proofs.BestKept.{count_none, count_of_more, count_of_two}

-- ---- lists

pub parts_of : {X : Type 0} (P : X → Type 0) (xs ys : List X) → AllByRecursion P (xs ++ ys) → AllByRecursion P xs × AllByRecursion P ys
parts_of P [] ys a = (tt, a)
parts_of P (x ∷ xs) ys a = let rest = parts_of P xs ys a.1 in ((a.0, rest.0), rest.1)

module _ {X : Type 0} (p : X → Bool) where
  -- where all pass that there are, each one does
  count_full : (xs : List X) → length xs ≤ count_by p xs → AllByRecursion (λ x. p x ≡ true) xs
  count_full [] l = tt
  count_full (x ∷ xs) l = by (count_full xs) (p x) refl
    where
      by : (length xs ≤ count_by p xs → AllByRecursion (λ x. p x ≡ true) xs) → (b : Bool) → p x ≡ b → (p x ≡ true) × AllByRecursion (λ x. p x ≡ true) xs
      by rest true e =
          let here : count_by p (x ∷ xs) ≡ 1 + count_by p xs = count_of_more p x xs ∙ ap (λ b. cond b 1 0 + count_by p xs) e in
          (e, rest (omega (arith, l, here)))
      by rest false e =
          let here : count_by p (x ∷ xs) ≡ 0 + count_by p xs = count_of_more p x xs ∙ ap (λ b. cond b 1 0 + count_by p xs) e in
          let most = count_by-le-length p xs in
          absurd (omega (arith, l, here, most))

  -- one that passes stands between others
  pub any_split : (xs : List X) → list_any p xs ≡ true → (x : X) × (p x ≡ true) × ((front : List X) × (back : List X) × (xs ≡ front ++ x ∷ back))
  any_split [] h = absurd (cc)
  any_split (x ∷ xs) h = by (any_split xs) (p x) refl
    where
      by : (list_any p xs ≡ true → (y : X) × (p y ≡ true) × ((front : List X) × (back : List X) × (xs ≡ front ++ y ∷ back))) → (b : Bool) → p x ≡ b → (y : X) × (p y ≡ true) × ((front : List X) × (back : List X) × (x ∷ xs ≡ front ++ y ∷ back))
      by more true e = (x, e, ([], xs, refl))
      by more false e =
          let rest = more (sym (ap (λ b. b || list_any p xs) e) ∙ h) in
          (rest.0, rest.1, (x ∷ rest.2.0, rest.2.1, ap (λ l. x ∷ l) rest.2.2))

  pub any_of_two : (xs ys : List X) → list_any p (xs ++ ys) ≡ (list_any p xs || list_any p ys)
  any_of_two [] ys = refl
  any_of_two (x ∷ xs) ys = ap (λ b. p x || b) (any_of_two xs ys) ∙ assoc (p x) (list_any p xs) (list_any p ys)
    where
      assoc : (a b c : Bool) → (a || (b || c)) ≡ ((a || b) || c)
      assoc true b c = refl
      assoc false b c = refl

count_same : {X : Type 0} (p q : X → Bool) (xs : List X) → AllByRecursion (λ x. p x ≡ q x) xs → count_by p xs ≡ count_by q xs
count_same p q [] a = refl
count_same p q (x ∷ xs) a =
    count_of_more p x xs ∙ ap (λ b. cond b 1 0 + count_by p xs) a.0 ∙ ap (λ n. cond (q x) 1 0 + n) (count_same p q xs a.1) ∙ sym (count_of_more q x xs)

each_of : {X : Type 0} (P Q : X → Type 0) (xs : List X) → ((x : X) → P x → Q x) → AllByRecursion P xs → AllByRecursion Q xs
each_of P Q [] f a = tt
each_of P Q (x ∷ xs) f a = (f x a.0, each_of P Q xs f a.1)

-- ---- the k best

module _ {X : Type 0} (R : X → X → Ordering) (total : IsTotalOrder R) (k : ℕ) (all : List X) (c : X) where
  comes : X → Bool
  comes o = is_lt (R o c)

  not_itself : is_lt (R c c) ≡ false
  not_itself = ap is_lt (tied_itself total c)

  -- none that is left out comes before one of the best
  left_none : (front back : List X) (some : List X) → length (front ++ c ∷ back) ≤ k → AllByRecursion (λ o. k ≤ count_by (λ b. not (is_lt (R o b))) (front ++ c ∷ back)) some → AllByRecursion (λ o. is_lt (R o c) ≡ false) some
  left_none front back [] l a = tt
  left_none front back (o ∷ some) l a =
      let passed = parts_of (λ b. not (is_lt (R o b)) ≡ true) front (c ∷ back) (count_full (λ b. not (is_lt (R o b))) (front ++ c ∷ back) (omega (arith, l, a.0))) in
      (turned (is_lt (R o c)) passed.1.0, left_none front back some l a.1)
    where
      turned : (b : Bool) → not b ≡ true → b ≡ false
      turned true h = absurd (cc)
      turned false h = refl

  pub few_before : (best front back : List X) → best ≡ front ++ c ∷ back → AreBest (λ a b. is_lt (R a b)) k all best → count_by (λ o. is_lt (R o c)) all < k
  few_before best front back is are =
      let here : AreBest (λ a b. is_lt (R a b)) k all (front ++ c ∷ back) = subst (AreBest (λ a b. is_lt (R a b)) k all) is are in
      let whole = sum_by-IsPermutation (λ o. cond (is_lt (R o c)) 1 0) all ((front ++ c ∷ back) ++ here.0.left_out) here.0.parted in
      let parts = count_of_two (λ o. is_lt (R o c)) (front ++ c ∷ back) here.0.left_out in
      let inner = count_of_two (λ o. is_lt (R o c)) front (c ∷ back) in
      let own : count_by (λ o. is_lt (R o c)) (c ∷ back) ≡ 0 + count_by (λ o. is_lt (R o c)) back = count_of_more (λ o. is_lt (R o c)) c back ∙ ap (λ b. cond b 1 0 + count_by (λ o. is_lt (R o c)) back) not_itself in
      let none = count_none (λ o. is_lt (R o c)) here.0.left_out (left_none front back here.0.left_out here.1 here.0.ahead) in
      let first = count_by-le-length (λ o. is_lt (R o c)) front in
      let second = count_by-le-length (λ o. is_lt (R o c)) back in
      let long = length-append front (c ∷ back) in
      let most : length (front ++ c ∷ back) ≤ k = here.1 in
      omega (arith, whole, parts, inner, own, none, first, second, long, most)

  -- of two that don't tie one comes before the other
  one_first : (b : X) → is_eq (R b c) ≡ false → not (is_lt (R c b)) ≡ is_lt (R b c)
  one_first b h = ap (λ o. not (is_lt o)) (total.antisymm c b) ∙ by (R b c) h
    where
      by : (o : Ordering) → is_eq o ≡ false → not (is_lt (ordering_reverse o)) ≡ is_lt o
      by Less h = refl
      by Equal h = absurd (cc)
      by Greater h = refl

  pub many_before : (best : List X) (are : AreBest (λ a b. is_lt (R a b)) k all best) (front back : List X) → are.0.left_out ≡ front ++ c ∷ back → AllByRecursion (λ b. is_eq (R b c) ≡ false) best → k ≤ count_by (λ o. is_lt (R o c)) all
  many_before best are front back is apart =
      let ahead = subst (AllByRecursion (λ o. k ≤ count_by (λ b. not (is_lt (R o b))) best)) is are.0.ahead in
      let own : k ≤ count_by (λ b. not (is_lt (R c b))) best = (parts_of (λ o. k ≤ count_by (λ b. not (is_lt (R o b))) best) front (c ∷ back) ahead).1.0 in
      let same = count_same (λ b. not (is_lt (R c b))) (λ b. is_lt (R b c)) best (each_of (λ b. is_eq (R b c) ≡ false) (λ b. not (is_lt (R c b)) ≡ is_lt (R b c)) best one_first apart) in
      let whole = sum_by-IsPermutation (λ o. cond (is_lt (R o c)) 1 0) all (best ++ are.0.left_out) are.0.parted in
      let parts = count_of_two (λ o. is_lt (R o c)) best are.0.left_out in
      omega (arith, own, same, whole, parts)

  pub apart_from : (best front back : List X) → IsDistinct (eq_by_cmp R) (best ++ (front ++ c ∷ back)) → AllByRecursion (λ b. is_eq (R b c) ≡ false) best
  apart_from [] front back d = tt
  apart_from (b ∷ best) front back d =
      let head = parts_of (λ o. eq_by_cmp R b o ≡ false) best (front ++ c ∷ back) (IsDistinct-head (eq_by_cmp R) b (best ++ (front ++ c ∷ back)) d) in
      ((parts_of (λ o. eq_by_cmp R b o ≡ false) front (c ∷ back) head.1).1.0, apart_from best front back (IsDistinct-tail (eq_by_cmp R) b (best ++ (front ++ c ∷ back)) d))

  -- one that alone passes a test is among the best exactly where fewer than k come before it
  pub is_best : (p : X → Bool) (best : List X) → AreBest (λ a b. is_lt (R a b)) k all best → IsDistinct (eq_by_cmp R) all → list_any p all ≡ true → AllByRecursion (λ o. p o ≡ true → o ≡ c) all
      → list_any p best ≡ nat_lt (count_by (λ o. is_lt (R o c)) all) k
  is_best p best are apart some alone = by (list_any p best) refl
    where
      left : List X
      left = are.0.left_out

      only : AllByRecursion (λ o. p o ≡ true → o ≡ c) best × AllByRecursion (λ o. p o ≡ true → o ≡ c) left
      only = parts_of (λ o. p o ≡ true → o ≡ c) best left (recursion_from_All (λ o. p o ≡ true → o ≡ c) (best ++ left) (All-permutation (λ o. p o ≡ true → o ≡ c) all (best ++ left) are.0.parted (All-from_recursion (λ o. p o ≡ true → o ≡ c) all alone)))

      found : (xs : List X) → AllByRecursion (λ o. p o ≡ true → o ≡ c) xs → list_any p xs ≡ true → (front : List X) × (back : List X) × (xs ≡ front ++ c ∷ back)
      found xs a h =
          let one = any_split p xs h in
          let same : one.0 ≡ c = (parts_of (λ o. p o ≡ true → o ≡ c) one.2.0 (one.0 ∷ one.2.1) (subst (AllByRecursion (λ o. p o ≡ true → o ≡ c)) one.2.2 a)).1.0 one.1 in
          (one.2.0, one.2.1, one.2.2 ∙ ap (λ x. one.2.0 ++ x ∷ one.2.1) same)

      by : (b : Bool) → list_any p best ≡ b → list_any p best ≡ nat_lt (count_by (λ o. is_lt (R o c)) all) k
      by true e =
          let there = found best only.0 e in
          e ∙ sym (lt-ltb (count_by (λ o. is_lt (R o c)) all) k (few_before best there.0 there.1 there.2 are))
      by false e =
          let out : list_any p left ≡ true = ap (λ b. b || list_any p left) (sym e) ∙ sym (any_of_two p best left) ∙ sym (list_any-IsPermutation p all (best ++ left) are.0.parted) ∙ some in
          let there = found left only.1 out in
          let moved = IsDistinct-IsPermutation (eq_by_cmp R) (eq_by_cmp_equiv total).symm all (best ++ left) are.0.parted apart in
          let clear = apart_from best there.0 there.1 (subst (λ l. IsDistinct (eq_by_cmp R) (best ++ l)) there.2 moved) in
          e ∙ sym (le-ltb (count_by (λ o. is_lt (R o c)) all) k (many_before best are there.0 there.1 there.2 clear))
