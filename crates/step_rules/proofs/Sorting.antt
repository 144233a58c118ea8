-- Series that are sorted by the labels of their groups, their values and their labels.
use Rattle.std.proofs.Common.{◌≡◌, ◌∙◌, Bool, List, [], ◌∷◌, map, sym, ap}
use Rattle.std.specs.Prelude.{fold}
use Rattle.std.specs.Cmp.{IsStrictWeakOrder, IsTotalOrder}
use Rattle.std.specs.List.{All, AllByRecursion}
use Rattle.std.specs.Ordering.{is_lt, ordering_then}
use Rattle.std.proofs.lemmas.Cmp.{on_total, then_total}
use Rattle.std.proofs.lemmas.List.Elements.{All-head, All-tail}
use Rattle.std.proofs.lemmas.List.MinMax.{ranks_by}
use Rattle.label_set.specs.LabelOrder.{labels_cmp_total}
use Rattle.label_set.specs.Labels.{labels_cmp}
use Rattle.label_set.specs.declared.rules.Grouping.{Grouping}
use Rattle.window_fn.specs.Aggregates.{inserted}
use Rattle.xfrac.specs.Laws.{EqualIsSame, IsNumber, LessIsTransitive, OrderIsReversed}
use Rattle.promql_meaning.specs.declared.answer.ResultSeries.{ResultSeries}
use Rattle.promql_meaning.specs.NumberOrder.{tidy, tidy-same, tidy_order, values_total}
use Rattle.promql_meaning.specs.Orders.{ByValue, comes_first, value_of_series}
use Rattle.promql_meaning.specs.Ranks.{kept_labels, value_order}
use Rattle.step_rules.specs.Ranked.{IsRanked, ranked_below, ranked_order}
use Rattle.step_rules.specs.declared.orders.Ranked.{Ranked}
use Rattle.step_rules.proofs.Stable.{map_folded}

pub same_direction : (a b : Bool) (xs : List Ranked) → a ≡ b → fold (inserted (ranked_below a)) [] xs ≡ fold (inserted (ranked_below b)) [] xs
same_direction a b xs e = ap (λ d. fold (inserted (ranked_below d)) [] xs) e

pub tidy_is : (down : Bool) (a b : _) → IsNumber a → IsNumber b → value_order down a b ≡ tidy_order down a b
tidy_is down a b na nb = ap (λ v. value_order down v b) (sym (tidy-same a na)) ∙ ap (value_order down (tidy a)) (sym (tidy-same b nb))

ranked_total : EqualIsSame → OrderIsReversed → LessIsTransitive → (down : Bool) → IsTotalOrder (ranked_order down)
ranked_total equal reversed transitive down =
    then_total (on_total (λ (r : Ranked). r.group) labels_cmp_total)
    (then_total (on_total (λ (r : Ranked). value_of_series r.series) (values_total equal reversed transitive down)) (on_total (λ (r : Ranked). r.series.labels) labels_cmp_total))

pub ranked_weak : EqualIsSame → OrderIsReversed → LessIsTransitive → (down : Bool) → IsStrictWeakOrder (ranked_below down)
ranked_weak equal reversed transitive down = ranks_by (ranked_total equal reversed transitive down) (λ (r : Ranked). r)

module _ (down : Bool) (by : Grouping) where
  abbrev order : ByValue
  order = record { down = down; by = by }

  agrees : (a b : Ranked) → IsRanked by a → IsRanked by b → ranked_below down a b ≡ comes_first order a.series b.series
  agrees a b pa pb =
      ap (λ g. is_lt (ordering_then (labels_cmp g b.group) (ordering_then (tidy_order down (value_of_series a.series) (value_of_series b.series)) (labels_cmp a.series.labels b.series.labels)))) pa.group
      ∙ ap (λ g. is_lt (ordering_then (labels_cmp (kept_labels by a.series.labels) g) (ordering_then (tidy_order down (value_of_series a.series) (value_of_series b.series)) (labels_cmp a.series.labels b.series.labels)))) pb.group
      ∙ ap (λ v. is_lt (ordering_then (labels_cmp (kept_labels by a.series.labels) (kept_labels by b.series.labels)) (ordering_then v (labels_cmp a.series.labels b.series.labels)))) (sym (tidy_is down (value_of_series a.series) (value_of_series b.series) pa.number pb.number))

  all_from : (rs : List Ranked) → All (IsRanked by) rs → AllByRecursion (IsRanked by) rs
  all_from [] a = tt
  all_from (r ∷ rs) a = (All-head (IsRanked by) r rs a, all_from rs (All-tail (IsRanked by) r rs a))

  pub in_order_is : (ranked : List Ranked) (series : List ResultSeries) → map (λ (r : Ranked). r.series) ranked ≡ series → All (IsRanked by) ranked
      → map (λ (r : Ranked). r.series) (fold (inserted (ranked_below down)) [] ranked) ≡ fold (inserted (comes_first order)) [] series
  in_order_is ranked series same all =
      map_folded (λ (r : Ranked). r.series) (ranked_below down) (comes_first order) (IsRanked by) agrees [] ranked tt (all_from ranked all) ∙ ap (fold (inserted (comes_first order)) []) same
