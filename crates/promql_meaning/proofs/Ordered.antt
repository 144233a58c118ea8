-- Series in an order by value: the same series, none before the one in front of it.
use Rattle.std.proofs.Common.{◌≡◌, ◌∙◌, zero, suc, ◌+◌, Bool, true, false, cond, List, [], ◌∷◌, ◌++◌, fold, get_or, refl, sym, ap, subst, arith, append-nil}
use Rattle.std.specs.Prelude.{⊤}
use Rattle.std.specs.Cmp.{then_flip}
use Rattle.std.specs.List.Sorted.{IsPermutation, IsSortedBy}
use Rattle.std.specs.Ordering.{is_lt, ordering_reverse, ordering_then}
use Rattle.std.specs.declared.cmp.Ordering.{Ordering}
use Rattle.std.specs.declared.cmp.Ordering.TheVariants.{Less, Equal, Greater}
use Rattle.std.proofs.lemmas.List.Sorted.{IsPermutation-append_comm, IsPermutation-append_left, IsPermutation-cons, IsPermutation-refl, IsPermutation-trans}
use Rattle.label_set.specs.Labels.{labels_cmp}
use Rattle.label_set.specs.LabelOrder.{labels_cmp_total}
use Rattle.window_fn.specs.Aggregates.{inserted}
use Rattle.xfrac.specs.Kinds.{is_not_a_number}
use Rattle.xfrac.specs.Laws.{OrderIsReversed}
use Rattle.xfrac.specs.Order.{total_order}
use Rattle.xfrac.specs.declared.value.XFrac.{XFrac}
use Rattle.promql_meaning.specs.declared.answer.ResultSeries.{ResultSeries}
use Rattle.promql_meaning.specs.NumberOrder.{flipped}
use Rattle.promql_meaning.specs.Orders.{ByValue, comes_first, series_order, value_of_series}
use Rattle.promql_meaning.specs.Ranks.{kept_labels, value_order}
use Rattle.promql_meaning.specs.ResultLaws.{OrderRearranges, OrderRises}

-- ---- insertion

module _ {X : Type 0} (lt : X → X → Bool) where
  -- one more item is the item before the others, moved
  moved : (xs : List X) (x : X) → IsPermutation (x ∷ xs) (inserted lt xs x)
  moved [] x = IsPermutation-refl (x ∷ [])
  moved (y ∷ ys) x = by (lt x y) (moved ys x)
    where
      by : (b : Bool) → IsPermutation (x ∷ ys) (inserted lt ys x) → IsPermutation (x ∷ y ∷ ys) (cond b (x ∷ y ∷ ys) (y ∷ inserted lt ys x))
      by true rest = IsPermutation-refl (x ∷ y ∷ ys)
      by false rest =
          IsPermutation-trans (x ∷ y ∷ ys) (y ∷ x ∷ ys) (y ∷ inserted lt ys x) (IsPermutation-append_left ys (x ∷ y ∷ []) (y ∷ x ∷ []) (IsPermutation-append_comm (x ∷ []) (y ∷ [])))
          (IsPermutation-cons y (x ∷ ys) (inserted lt ys x) rest)

  pub all_moved : (done xs : List X) → IsPermutation (xs ++ done) (fold (inserted lt) done xs)
  all_moved done [] = IsPermutation-refl done
  all_moved done (x ∷ xs) =
      IsPermutation-trans (x ∷ xs ++ done) (xs ++ inserted lt done x) (fold (inserted lt) (inserted lt done x) xs)
      (IsPermutation-trans (x ∷ xs ++ done) (xs ++ x ∷ done) (xs ++ inserted lt done x) (past xs) (behind xs))
      (all_moved (inserted lt done x) xs)
    where
      past : (ys : List X) → IsPermutation (x ∷ ys ++ done) (ys ++ x ∷ done)
      past [] = IsPermutation-refl (x ∷ done)
      past (y ∷ ys) =
          IsPermutation-trans (x ∷ y ∷ ys ++ done) (y ∷ x ∷ ys ++ done) (y ∷ ys ++ x ∷ done)
          (IsPermutation-append_left (ys ++ done) (x ∷ y ∷ []) (y ∷ x ∷ []) (IsPermutation-append_comm (x ∷ []) (y ∷ []))) (IsPermutation-cons y (x ∷ ys ++ done) (ys ++ x ∷ done) (past ys))

      behind : (ys : List X) → IsPermutation (ys ++ x ∷ done) (ys ++ inserted lt done x)
      behind [] = moved done x
      behind (y ∷ ys) = IsPermutation-cons y (ys ++ x ∷ done) (ys ++ inserted lt done x) (behind ys)

  -- none is below the one before it
  abbrev Rises : List X → Type 0
  Rises [] = ⊤
  Rises (x ∷ []) = ⊤
  Rises (x ∷ y ∷ ys) = (lt y x ≡ false) × Rises (y ∷ ys)

  module _ (one_way : (x y : X) → lt x y ≡ true → lt y x ≡ false) where
    under : (z x : X) (ys : List X) → lt x z ≡ false → Rises (z ∷ ys) → Rises (inserted lt ys x) → Rises (z ∷ inserted lt ys x)
    under z x [] low up rest = (low, tt)
    under z x (y ∷ ys) low up rest = by (lt x y) rest
      where
        by : (b : Bool) → Rises (cond b (x ∷ y ∷ ys) (y ∷ inserted lt ys x)) → Rises (z ∷ cond b (x ∷ y ∷ ys) (y ∷ inserted lt ys x))
        by true rest = (low, rest)
        by false rest = (up.0, rest)

    tail_rises : (x : X) (xs : List X) → Rises (x ∷ xs) → Rises xs
    tail_rises x [] up = tt
    tail_rises x (y ∷ ys) up = up.1

    one_rises : (xs : List X) (x : X) → Rises xs → Rises (inserted lt xs x)
    one_rises [] x up = tt
    one_rises (y ∷ ys) x up = by (lt x y) refl (one_rises ys x (tail_rises y ys up))
      where
        by : (b : Bool) → lt x y ≡ b → Rises (inserted lt ys x) → Rises (cond b (x ∷ y ∷ ys) (y ∷ inserted lt ys x))
        by true h rest = (one_way x y h, up)
        by false h rest = under y x ys h up rest

    pub all_rise : (done xs : List X) → Rises done → Rises (fold (inserted lt) done xs)
    all_rise done [] up = up
    all_rise done (x ∷ xs) up = all_rise (inserted lt done x) xs (one_rises done x up)

  pub sorted_by : (xs : List X) → Rises xs → IsSortedBy lt xs
  sorted_by [] up k d low high = absurd (omega (arith, high))
  sorted_by (x ∷ []) up k d low high = absurd (omega (arith, high))
  sorted_by (x ∷ y ∷ ys) up zero d low high = up.0
  sorted_by (x ∷ y ∷ ys) up (suc k) d low high =
      let behind : suc k + 1 ≡ suc (k + 1) = omega arith in
      subst (λ n. lt (get_or (x ∷ y ∷ ys) n d) (get_or (y ∷ ys) k d) ≡ false) (sym behind) (sorted_by (y ∷ ys) up.1 k d (omega arith) (omega (arith, high)))

-- ---- series

pub rearranged : OrderRearranges
rearranged order series =
    subst (λ xs. IsPermutation xs (fold (inserted (comes_first order)) [] series)) (append-nil series) (all_moved (comes_first order) [] series)

lower_first : (o : Ordering) → is_lt o ≡ true → is_lt (ordering_reverse o) ≡ false
lower_first Less h = refl
lower_first Equal h = absurd (cc)
lower_first Greater h = absurd (cc)

module _ (reversed : OrderIsReversed) where
  value_turned : (down : Bool) (a b : XFrac) → value_order down b a ≡ ordering_reverse (value_order down a b)
  value_turned true a b = flipped (is_not_a_number b) (is_not_a_number a) (total_order b a) (total_order a b) (reversed a b) (reversed b a)
  value_turned false a b = reversed a b

  series_turned : (order : ByValue) (a b : ResultSeries) → series_order order b a ≡ ordering_reverse (series_order order a b)
  series_turned order a b =
      let groups : labels_cmp (kept_labels order.by b.labels) (kept_labels order.by a.labels) ≡ ordering_reverse (labels_cmp (kept_labels order.by a.labels) (kept_labels order.by b.labels)) =
      labels_cmp_total.antisymm (kept_labels order.by b.labels) (kept_labels order.by a.labels) in
      let values : value_order order.down (value_of_series b) (value_of_series a) ≡ ordering_reverse (value_order order.down (value_of_series a) (value_of_series b)) =
      value_turned order.down (value_of_series a) (value_of_series b) in
      let labels : labels_cmp b.labels a.labels ≡ ordering_reverse (labels_cmp a.labels b.labels) = labels_cmp_total.antisymm b.labels a.labels in
      (λ i. ordering_then (groups i) (ordering_then (values i) (labels i)))
      ∙ ap (ordering_then (ordering_reverse (labels_cmp (kept_labels order.by a.labels) (kept_labels order.by b.labels))))
      (then_flip (value_order order.down (value_of_series a) (value_of_series b)) (labels_cmp a.labels b.labels))
      ∙ then_flip (labels_cmp (kept_labels order.by a.labels) (kept_labels order.by b.labels))
      (ordering_then (value_order order.down (value_of_series a) (value_of_series b)) (labels_cmp a.labels b.labels))

  one_way : (order : ByValue) (a b : ResultSeries) → comes_first order a b ≡ true → comes_first order b a ≡ false
  one_way order a b h = ap is_lt (series_turned order a b) ∙ lower_first (series_order order a b) h

  pub rises : OrderRises
  rises order series = sorted_by (comes_first order) (fold (inserted (comes_first order)) [] series) (all_rise (comes_first order) (one_way order) [] series tt)
