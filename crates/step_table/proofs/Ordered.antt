-- Unions and filters of lists in order are in order.
use Rattle.std.proofs.Common.{◌≡◌, ◌∙◌, Bool, true, false, cond, List, [], ◌∷◌, map, refl, ap}
use Rattle.std.specs.Prelude.{◌||◌, filter}
use Rattle.std.specs.declared.cmp.Ordering.{Ordering}
use Rattle.std.specs.declared.cmp.Ordering.TheVariants.{Less, Equal, Greater}
use Rattle.std.specs.Cmp.{IsTotalOrder}
use Rattle.std.specs.Ordering.{match_ordering, ordering_reverse}
use Rattle.std.specs.List.{AllByRecursion, list_any}
use Rattle.std.specs.List.Sorted.{IsStrictlySortedBy}
use Rattle.std.specs.Set.{merge_step, sorted_merge}
use Rattle.label_set.specs.Entries.{recursion_map}

module _ {K : Type 0} (R : K → K → Ordering) where
  all_onto : (P : K → Type 0) (x : K) (xs : List K) (on : List K → List K) → P x → AllByRecursion P xs → ((ys : List K) → AllByRecursion P ys → AllByRecursion P (on ys)) → (ys : List K) → AllByRecursion P ys → AllByRecursion P (merge_step R true x xs on ys)
  all_onto P x xs on p a h [] b = (p, a)
  all_onto P x xs on p a h (y ∷ ys) b =
      elim (R x y) as (λ r. AllByRecursion P (match_ordering r (x ∷ on (y ∷ ys)) (x ∷ on ys) (y ∷ merge_step R true x xs on ys))) [
        | Less ↦ (p, h (y ∷ ys) b)
        | Equal ↦ (p, h ys b.1)
        | Greater ↦ (b.0, all_onto P x xs on p a h ys b.1)
      ]

  all_merged : (P : K → Type 0) (xs ys : List K) → AllByRecursion P xs → AllByRecursion P ys → AllByRecursion P (sorted_merge R true xs ys)
  all_merged P [] ys a b = b
  all_merged P (x ∷ xs) ys a b = all_onto P x xs (sorted_merge R true xs) a.0 a.1 (λ zs. all_merged P xs zs a.1) ys b

module _ {K : Type 0} {R : K → K → Ordering} (o : IsTotalOrder R) where
  sorted_onto : (x : K) (xs : List K) → IsStrictlySortedBy R (x ∷ xs) → ((ys : List K) → IsStrictlySortedBy R ys → IsStrictlySortedBy R (sorted_merge R true xs ys)) → (ys : List K) → IsStrictlySortedBy R ys → IsStrictlySortedBy R (sorted_merge R true (x ∷ xs) ys)
  unfolding IsStrictlySortedBy
  sorted_onto x xs s h [] t = s
  sorted_onto x xs s h (y ∷ ys) t =
      elim (R x y) as (λ r. R x y ≡ r → IsStrictlySortedBy R (match_ordering r (x ∷ sorted_merge R true xs (y ∷ ys)) (x ∷ sorted_merge R true xs ys) (y ∷ sorted_merge R true (x ∷ xs) ys))) [
        | Less ↦ λ k. (all_merged R (λ z. R x z ≡ Less) xs (y ∷ ys) s.0 (k, recursion_map (λ z. R y z ≡ Less) (λ z. R x z ≡ Less) (λ z l. o.trans x y z k l) ys t.0), h (y ∷ ys) t)
        | Equal ↦ λ k. (all_merged R (λ z. R x z ≡ Less) xs ys s.0 (recursion_map (λ z. R y z ≡ Less) (λ z. R x z ≡ Less) (λ z l. o.congr x y z k ∙ l) ys t.0), h ys t.1)
        | Greater ↦ λ k.
            let below : R y x ≡ Less = o.antisymm y x ∙ ap ordering_reverse k in
            (all_merged R (λ z. R y z ≡ Less) (x ∷ xs) ys (below, recursion_map (λ z. R x z ≡ Less) (λ z. R y z ≡ Less) (λ z l. o.trans y x z below l) xs s.0) t.0, sorted_onto x xs s h ys t.1)
      ] refl

  -- a union of lists in order is in order
  pub sorted_union : (xs ys : List K) → IsStrictlySortedBy R xs → IsStrictlySortedBy R ys → IsStrictlySortedBy R (sorted_merge R true xs ys)
  unfolding IsStrictlySortedBy
  sorted_union [] ys s t = t
  sorted_union (x ∷ xs) ys s t = sorted_onto x xs s (λ zs. sorted_union xs zs s.1) ys t

  module _ (ties : (x y : K) → R x y ≡ Equal → x ≡ y) (p : K → Bool) where
    or_left : (a b c : Bool) → (a || (b || c)) ≡ ((a || b) || c)
    or_left true b c = refl
    or_left false b c = refl

    or_twice : (a b c : Bool) → (a || (b || c)) ≡ ((a || b) || (a || c))
    or_twice true b c = refl
    or_twice false b c = refl

    or_middle : (a b c d : Bool) → (a || ((b || c) || d)) ≡ ((b || c) || (a || d))
    or_middle true true c d = refl
    or_middle true false true d = refl
    or_middle true false false d = refl
    or_middle false true c d = refl
    or_middle false false c d = refl

    or_none : (b : Bool) → b ≡ (b || false)
    or_none true = refl
    or_none false = refl

    any_onto : (x : K) (xs : List K) → ((ys : List K) → list_any p (sorted_merge R true xs ys) ≡ (list_any p xs || list_any p ys)) → (ys : List K) → list_any p (sorted_merge R true (x ∷ xs) ys) ≡ (list_any p (x ∷ xs) || list_any p ys)
    any_onto x xs h [] = or_none (list_any p (x ∷ xs))
    any_onto x xs h (y ∷ ys) =
        elim (R x y) as (λ r. R x y ≡ r → list_any p (match_ordering r (x ∷ sorted_merge R true xs (y ∷ ys)) (x ∷ sorted_merge R true xs ys) (y ∷ sorted_merge R true (x ∷ xs) ys)) ≡ ((p x || list_any p xs) || (p y || list_any p ys))) [
          | Less ↦ λ k. ap (λ b. p x || b) (h (y ∷ ys)) ∙ or_left (p x) (list_any p xs) (p y || list_any p ys)
          | Equal ↦ λ k. ap (λ b. p x || b) (h ys) ∙ or_twice (p x) (list_any p xs) (list_any p ys) ∙ ap (λ z. (p x || list_any p xs) || (p z || list_any p ys)) (ties x y k)
          | Greater ↦ λ k. ap (λ b. p y || b) (any_onto x xs h ys) ∙ or_middle (p y) (p x) (list_any p xs) (list_any p ys)
        ] refl

    -- a union has what either list has
    pub any_union : (xs ys : List K) → list_any p (sorted_merge R true xs ys) ≡ (list_any p xs || list_any p ys)
    any_union [] ys = refl
    any_union (x ∷ xs) ys = any_onto x xs (any_union xs) ys

module _ {K X : Type 0} (R : K → K → Ordering) (key : X → K) (test : X → Bool) where
  all_filtered : (P : K → Type 0) (xs : List X) → AllByRecursion P (map key xs) → AllByRecursion P (map key (filter test xs))
  all_filtered P [] a = tt
  all_filtered P (x ∷ xs) a =
      elim (test x) as (λ b. AllByRecursion P (map key (cond b (x ∷ filter test xs) (filter test xs)))) [
        | true ↦ (a.0, all_filtered P xs a.1)
        | false ↦ all_filtered P xs a.1
      ]

  -- what is left of items in order is in order
  pub sorted_filtered : (xs : List X) → IsStrictlySortedBy R (map key xs) → IsStrictlySortedBy R (map key (filter test xs))
  unfolding IsStrictlySortedBy
  sorted_filtered [] s = tt
  sorted_filtered (x ∷ xs) s =
      elim (test x) as (λ b. IsStrictlySortedBy R (map key (cond b (x ∷ filter test xs) (filter test xs)))) [
        | true ↦ (all_filtered (λ z. R (key x) z ≡ Less) xs s.0, sorted_filtered xs s.1)
        | false ↦ sorted_filtered xs s.1
      ]
