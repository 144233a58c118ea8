-- The order of contenders, and sorts without ties.
use Rattle.std.proofs.Common.{◌≡◌, ◌∙◌, suc, ◌+◌, Bool, false, cond, List, [], ◌∷◌, get_or, ap, subst, arith}
use Rattle.std.specs.Prelude.{count_by}
use Rattle.std.specs.Cmp.{IsStrictWeakOrder, IsTotalOrder}
use Rattle.std.specs.List.{AllByRecursion, IsDistinct}
use Rattle.std.specs.List.Sorted.{IsSortedBy, IsStrictlySortedBy}
use Rattle.std.specs.Ordering.{eq_by_cmp, is_eq, is_lt, ordering_reverse}
use Rattle.std.specs.declared.cmp.Ordering.{Ordering}
use Rattle.std.specs.declared.cmp.Ordering.TheVariants.{Less, Equal, Greater}
use Rattle.std.proofs.lemmas.Cmp.{nat_cmp_total, on_total, then_total}
use Rattle.std.proofs.lemmas.List.Sums.{sum_by-cons}
use Rattle.std.proofs.lemmas.List.MinMax.{ranks_by}
use Rattle.std.proofs.lemmas.Map.Keys.{IsDistinct-head, IsDistinct-tail}
use Rattle.promql_meaning.specs.NumberOrder.{tidy-same, values_total}
use Rattle.xfrac.specs.Laws.{IsNumber, EqualIsSame, LessIsTransitive, OrderIsReversed}
use Rattle.op_rank.specs.Contenders.{before, contender_order, tidied, tidied_order}
use Rattle.op_rank.specs.declared.best.Contender.{Contender}

-- ---- the order

pub contenders_total : EqualIsSame → OrderIsReversed → LessIsTransitive → (down : Bool) → IsTotalOrder (tidied_order down)
unfolding tidied_order
contenders_total equal reversed transitive down = then_total (on_total (λ (c : Contender). c.value) (values_total equal reversed transitive down)) (on_total (λ (c : Contender). c.rank) nat_cmp_total)

pub tidied_same : (down : Bool) (a b : Contender) → IsNumber a.value → IsNumber b.value → tidied_order down a b ≡ contender_order down a b
unfolding tidied_order
tidied_same down a b na nb =
    ap (λ v. contender_order down (record { at = a.at; value = v; rank = a.rank }) (tidied b)) (tidy-same a.value na)
    ∙ ap (λ v. contender_order down a (record { at = b.at; value = v; rank = b.rank })) (tidy-same b.value nb)

pub before_is_weak : EqualIsSame → OrderIsReversed → LessIsTransitive → (down : Bool) → IsStrictWeakOrder (before down)
before_is_weak equal reversed transitive down = ranks_by (contenders_total equal reversed transitive down) (λ (c : Contender). c)

pub before_is : (down : Bool) (a b : Contender) → IsNumber a.value → IsNumber b.value → before down a b ≡ is_lt (contender_order down a b)
before_is down a b na nb = ap is_lt (tidied_same down a b na nb)

-- ---- a sort without ties

module _ {K : Type 0} {R : K → K → Ordering} (total : IsTotalOrder R) where
  not_less : (o p : Ordering) → is_lt o ≡ false → is_eq p ≡ false → p ≡ ordering_reverse o → p ≡ Less
  not_less Less p h k e = absurd (cc)
  not_less Equal p h k e = absurd (cc)
  not_less Greater p h k e = e

  less_on : (a b c : K) → R a b ≡ Less → R b c ≡ Less → R a c ≡ Less
  less_on a b c h k = total.trans a b c h k

  all_less : (a b : K) (ks : List K) → R a b ≡ Less → AllByRecursion (λ k. R b k ≡ Less) ks → AllByRecursion (λ k. R a k ≡ Less) ks
  all_less a b [] h t = tt
  all_less a b (k ∷ ks) h t = (less_on a b k h t.0, all_less a b ks h t.1)

  sorted_rest : (x y : K) (ys : List K) → IsSortedBy (λ a b. is_lt (R a b)) (x ∷ y ∷ ys) → IsSortedBy (λ a b. is_lt (R a b)) (y ∷ ys)
  sorted_rest x y ys up k d low high = next (up (suc k) d (omega arith) (omega arith))
    where
      next : is_lt (R (get_or (x ∷ y ∷ ys) (suc k + 1) d) (get_or (x ∷ y ∷ ys) (suc k) d)) ≡ false → is_lt (R (get_or (y ∷ ys) (k + 1) d) (get_or (y ∷ ys) k d)) ≡ false
      next h = let behind : suc k + 1 ≡ suc (k + 1) = omega arith in subst (λ n. is_lt (R (get_or (x ∷ y ∷ ys) n d) (get_or (y ∷ ys) k d)) ≡ false) behind h

  pub strict : (ks : List K) → IsSortedBy (λ a b. is_lt (R a b)) ks → IsDistinct (eq_by_cmp R) ks → IsStrictlySortedBy R ks
  unfolding IsStrictlySortedBy
  strict [] up d = tt
  strict (x ∷ []) up d = (tt, tt)
  strict (x ∷ y ∷ ys) up d =
      let below : is_lt (R y x) ≡ false = up 0 x (omega arith) (omega arith) in
      let apart : is_eq (R x y) ≡ false = (IsDistinct-head (eq_by_cmp R) x (y ∷ ys) d).0 in
      let first : R x y ≡ Less = not_less (R y x) (R x y) below apart (total.antisymm x y) in
      let rest = strict (y ∷ ys) (sorted_rest x y ys up) (IsDistinct-tail (eq_by_cmp R) x (y ∷ ys) d) in
      ((first, all_less x y ys first rest.0), rest)

-- ---- counts

pub count-cons : {X : Type 0} (p : X → Bool) (x : X) (xs : List X) → count_by p (x ∷ xs) ≡ cond (p x) 1 0 + count_by p xs
count-cons p x xs = sum_by-cons (λ y. cond (p y) 1 0) x xs
