-- The k best of a list without ties are, in some order, the first k of the sorted list.
use Rattle.std.proofs.Common.{◌≡◌, ◌∙◌, ℕ, zero, suc, ◌+◌, ◌≤◌, Bool, true, false, cond, List, [], ◌∷◌, ◌++◌, length, take, drop, refl, sym, ap, subst, arith, append_assoc, append-nil}
use Rattle.std.specs.Prelude.{not, nat_lt, count_by, filter}
use Rattle.std.specs.Cmp.{IsTotalOrder, eq_by_cmp_equiv}
use Rattle.std.specs.List.{AllByRecursion, IsDistinct}
use Rattle.std.specs.List.Sorted.{IsPermutation, IsStrictlySortedBy}
use Rattle.std.specs.Ordering.{eq_by_cmp, is_lt, ordering_reverse}
use Rattle.std.specs.declared.cmp.Ordering.{Ordering}
use Rattle.std.specs.declared.cmp.Ordering.TheVariants.{Less}
use Rattle.std.proofs.lemmas.Bool.{le-ltb, lt-ltb}
use Rattle.std.proofs.lemmas.List.{length-append, length-drop, length-take-le, take-append-drop}
use Rattle.std.proofs.lemmas.List.Sorted.{IsPermutation-refl, IsPermutation-sym, IsPermutation-trans}
use Rattle.std.proofs.lemmas.Map.Keys.{IsDistinct-IsPermutation}
use Rattle.step_table.specs.KeySets.{all_before}
use Rattle.step_table.specs.Shuffling.{filtered_shuffled, from_permutation, to_permutation}
use Rattle.op_rank.specs.Best.{AreBest}
use Rattle.op_rank.proofs.BestAre.{apart_from, few_before, many_before}
use Rattle.op_rank.proofs.BestKept.{count_all}

each_split : {X : Type 0} (P : X → Type 0) (xs : List X) → ((front back : List X) (c : X) → xs ≡ front ++ c ∷ back → P c) → AllByRecursion P xs
each_split P [] f = tt
each_split P (x ∷ xs) f = (f [] xs x refl, each_split P xs (λ front back c e. f (x ∷ front) back c (ap (λ l. x ∷ l) e)))

front_of : {X : Type 0} (P : X → Type 0) (xs ys : List X) → AllByRecursion P (xs ++ ys) → AllByRecursion P xs
front_of P [] ys a = tt
front_of P (x ∷ xs) ys a = (a.0, front_of P xs ys a.1)

module _ {X : Type 0} (p : X → Bool) where
  filter_two : (xs ys : List X) → filter p (xs ++ ys) ≡ filter p xs ++ filter p ys
  filter_two [] ys = refl
  filter_two (x ∷ xs) ys = ap (λ r. cond (p x) (x ∷ r) r) (filter_two xs ys) ∙ inside (p x)
    where
      inside : (b : Bool) → cond b (x ∷ (filter p xs ++ filter p ys)) (filter p xs ++ filter p ys) ≡ cond b (x ∷ filter p xs) (filter p xs) ++ filter p ys
      inside true = refl
      inside false = refl

  filter_all : (xs : List X) → AllByRecursion (λ x. p x ≡ true) xs → filter p xs ≡ xs
  filter_all [] a = refl
  filter_all (x ∷ xs) a = ap (λ b. cond b (x ∷ filter p xs) (filter p xs)) a.0 ∙ ap (λ r. x ∷ r) (filter_all xs a.1)

  filter_none : (xs : List X) → AllByRecursion (λ x. p x ≡ false) xs → filter p xs ≡ []
  filter_none [] a = refl
  filter_none (x ∷ xs) a = ap (λ b. cond b (x ∷ filter p xs) (filter p xs)) a.0 ∙ filter_none xs a.1

module _ {X : Type 0} (R : X → X → Ordering) (total : IsTotalOrder R) (k : ℕ) where
  -- the k best are those that fewer than k come before
  best_are_few : (all best : List X) → IsDistinct (eq_by_cmp R) all → AreBest (λ a b. is_lt (R a b)) k all best → IsPermutation (filter (λ c. nat_lt (count_by (λ o. is_lt (R o c)) all) k) all) best
  best_are_few all best apart are =
      subst (IsPermutation (filter few all)) (filter_two few best left ∙ (λ j. filter_all few best inside j ++ filter_none few left outside j) ∙ append-nil best)
      (to_permutation (filter few all) (filter few (best ++ left)) (filtered_shuffled few all (best ++ left) (from_permutation all (best ++ left) are.0.parted)))
    where
      few : X → Bool
      few c = nat_lt (count_by (λ o. is_lt (R o c)) all) k

      left : List X
      left = are.0.left_out

      inside : AllByRecursion (λ c. few c ≡ true) best
      inside = each_split (λ c. few c ≡ true) best (λ front back c e. lt-ltb (count_by (λ o. is_lt (R o c)) all) k (few_before R total k all c best front back e are))

      moved : IsDistinct (eq_by_cmp R) (best ++ left)
      moved = IsDistinct-IsPermutation (eq_by_cmp R) (eq_by_cmp_equiv total).symm all (best ++ left) are.0.parted apart

      outside : AllByRecursion (λ c. few c ≡ false) left
      outside = each_split (λ c. few c ≡ false) left (λ front back c e. le-ltb (count_by (λ o. is_lt (R o c)) all) k
          (many_before R total k all c best are front back e (apart_from R total k all c best front back (subst (λ l. IsDistinct (eq_by_cmp R) (best ++ l)) e moved))))

  -- so there is one such part, but for its order
  pub best_are_one : (all one other : List X) → IsDistinct (eq_by_cmp R) all → AreBest (λ a b. is_lt (R a b)) k all one → AreBest (λ a b. is_lt (R a b)) k all other → IsPermutation one other
  best_are_one all one other apart a b =
      IsPermutation-trans one (filter (λ c. nat_lt (count_by (λ o. is_lt (R o c)) all) k) all) other
      (IsPermutation-sym (filter (λ c. nat_lt (count_by (λ o. is_lt (R o c)) all) k) all) one (best_are_few all one apart a)) (best_are_few all other apart b)

  -- the first k of a sorted list are its k best
  pub first_are_best : (sorted : List X) → IsStrictlySortedBy R sorted → AreBest (λ a b. is_lt (R a b)) k sorted (take k sorted)
  first_are_best sorted up = (record { left_out = drop k sorted; parted = subst (IsPermutation sorted) (sym (take-append-drop k sorted)) (IsPermutation-refl sorted); ahead = each_split (λ x. k ≤ count_by (λ b. not (is_lt (R x b))) (take k sorted)) (drop k sorted) enough }, most k sorted)
    where
      most : (n : ℕ) (xs : List X) → length (take n xs) ≤ n
      most zero xs = omega arith
      most (suc n) [] = omega arith
      most (suc n) (x ∷ xs) = let rest = most n xs in omega (arith, rest)

      turned : (c : X) (xs : List X) → AllByRecursion (λ x. R x c ≡ Less) xs → AllByRecursion (λ x. not (is_lt (R c x)) ≡ true) xs
      turned c [] a = tt
      turned c (x ∷ xs) a = (ap (λ o. not (is_lt o)) (total.antisymm c x ∙ ap ordering_reverse a.0), turned c xs a.1)

      enough : (front back : List X) (c : X) → drop k sorted ≡ front ++ c ∷ back → k ≤ count_by (λ b. not (is_lt (R c b))) (take k sorted)
      enough front back c e =
          let rest = length-drop k sorted in
          let some : length (drop k sorted) ≡ length (front ++ c ∷ back) = ap length e in
          let long = length-append front (c ∷ back) in
          let all : length (take k sorted) ≡ k = length-take-le k sorted (omega (arith, rest, some, long)) in
          let parts : sorted ≡ (take k sorted ++ front) ++ c ∷ back = sym (take-append-drop k sorted) ∙ ap (λ l. take k sorted ++ l) e ∙ sym (append_assoc (take k sorted) front (c ∷ back)) in
          let ahead = front_of (λ x. R x c ≡ Less) (take k sorted) front (all_before total (take k sorted ++ front) c back (subst (IsStrictlySortedBy R) parts up)) in
          let count = count_all (λ b. not (is_lt (R c b))) (take k sorted) (turned c (take k sorted) ahead) in
          omega (arith, count, all)
