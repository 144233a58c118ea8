-- An order that the code has, as an order that is meant, and series beside their groups. (Our own.)
use Rattle.std.specs.Prelude.{◌≡◌, Bool}
use Rattle.std.specs.Ordering.{is_lt, ordering_then}
use Rattle.std.specs.declared.cmp.Ordering.{Ordering}
use Rattle.label_set.specs.Labels.{labels_cmp}
use Rattle.label_set.specs.declared.rules.Grouping.{Grouping}
use Rattle.xfrac.specs.Laws.{IsNumber}
use Rattle.promql_meaning.specs.NumberOrder.{tidy_order}
use Rattle.promql_meaning.specs.Orders.{ByValue, value_of_series}
use Rattle.promql_meaning.specs.Ranks.{kept_labels}
use Rattle.step_rules.specs.declared.orders.ByValue.{ByValue as ByValueOfCode}
use Rattle.step_rules.specs.declared.orders.Ranked.{Ranked}

abbrev pub order_of : ByValueOfCode → ByValue
order_of order = record { down = order.down; by = order.by }

-- a series stands beside the labels of its group, and its value is one of the type
pub record IsRanked (by : Grouping) (r : Ranked) : Type 0 where
  pub group : r.group ≡ kept_labels by r.series.labels
  pub number : IsNumber (value_of_series r.series)

-- groups by their labels, in a group by value, and equal values by labels
abbrev pub ranked_order : Bool → Ranked → Ranked → Ordering
ranked_order down a b =
    ordering_then (labels_cmp a.group b.group)
    (ordering_then (tidy_order down (value_of_series a.series) (value_of_series b.series)) (labels_cmp a.series.labels b.series.labels))

abbrev pub ranked_below : Bool → Ranked → Ranked → Bool
ranked_below down a b = is_lt (ranked_order down a b)
