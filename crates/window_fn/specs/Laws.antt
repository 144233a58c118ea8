-- What readers of alerts rely on. (Prometheus querying, "Functions" and "Aggregation operators".)
use Rattle.std.specs.Prelude.{◌≡◌, Bool, true, false, List, [], ◌∷◌}
use Rattle.std.specs.List.{All, Contains}
use Rattle.std.specs.List.Sorted.{IsPermutation, IsSortedBy}
use Rattle.std.specs.Ordering.{is_lt}
use Rattle.xfrac.specs.AnySize.{InLowestTerms}
use Rattle.xfrac.specs.Arithmetic.{arithmetic, whole_number}
use Rattle.xfrac.specs.Laws.{IsNumber}
use Rattle.xfrac.specs.Order.{total_order}
use Rattle.xfrac.specs.Sequencing.{◌>>=◌}
use Rattle.xfrac.specs.declared.value.ArithOp.TheVariants.{Sub}
use Rattle.xfrac.specs.declared.value.XFrac.{XFrac}
use Rattle.func_table.specs.declared.table.Window.{Window}
use Rattle.func_table.specs.declared.table.Window.TheVariants.{AvgOver, MinOver, MaxOver, SumOver, CountOver, StdvarOver, QuantileOver}
use Rattle.ticks.specs.declared.moment.Ms.{Ms}
use Rattle.window_fn.specs.declared.frame.WindowFrame.{WindowFrame}
use Rattle.window_fn.specs.Aggregates.{ascending, average, count_of, greatest, is_before, least, quantile_of, total}
use Rattle.window_fn.specs.Increases.{carried, increase, layout_of}
use Rattle.window_fn.specs.Points.{first_of, last_of}
use Rattle.window_fn.specs.Steps.{changes, resets}
use Rattle.window_fn.specs.Windows.{over_of}

-- without a reset a counter's increase is the plain difference, carried on to the window's edges
abbrev pub IncreaseWithoutResets : Type 0
IncreaseWithoutResets =
    (times : List Ms) (values : List XFrac) (frame : WindowFrame) → resets values ≡ whole_number 0 →
    increase true times values frame ≡ (arithmetic Sub (last_of values) (first_of values) >>= λ change. layout_of times frame >>= λ layout. carried true layout (first_of values) change)

-- one value neither changes nor is reset
abbrev pub OneValueStays : Type 0
OneValueStays = (value : XFrac) → (changes (value ∷ []) ≡ whole_number 0) × (resets (value ∷ []) ≡ whole_number 0)

-- the aggregations over time
abbrev pub is_aggregation : Window → Bool
is_aggregation AvgOver = true
is_aggregation MinOver = true
is_aggregation MaxOver = true
is_aggregation SumOver = true
is_aggregation CountOver = true
is_aggregation StdvarOver = true
is_aggregation QuantileOver = true
is_aggregation _ = false

-- an aggregation over time is that of the values, whatever their times are
abbrev pub TimesDontMatter : Type 0
TimesDontMatter =
    (f : Window) (times others : List Ms) (values : List XFrac) (frame other : WindowFrame) (arg : XFrac) → is_aggregation f ≡ true →
    over_of f times values frame arg ≡ over_of f others values other arg

-- two lists of values are aggregated alike; q is any quantile
pub record AreAggregatedAlike (xs ys : List XFrac) : Type 0 where
  pub sum : total ys ≡ total xs
  pub avg : average ys ≡ average xs
  pub count : count_of ys ≡ count_of xs
  pub max : greatest ys ≡ greatest xs
  pub min : least ys ≡ least xs
  pub quantiles : (q : XFrac) → quantile_of q ys ≡ quantile_of q xs

-- the order of the values doesn't matter
abbrev pub OrderDoesntMatter : Type 0
OrderDoesntMatter = (xs ys : List XFrac) → All IsNumber xs → IsPermutation xs ys → AreAggregatedAlike xs ys

-- nor does it of fractions of any size in lowest terms
abbrev pub OrderOfAnyDoesntMatter : Type 0
OrderOfAnyDoesntMatter = (xs ys : List XFrac) → All InLowestTerms xs → IsPermutation xs ys → AreAggregatedAlike xs ys

-- the greatest of some values: one of them that none comes after, in the order that has NaN before all others
pub record IsGreatest (values : List XFrac) (most : XFrac) : Type 0 where
  pub one : Contains values most
  pub none_after : All (λ value. is_before most value ≡ false) values

-- the least of some values: one of them that none is below, in the order that has NaN above all others
pub record IsLeast (values : List XFrac) (least : XFrac) : Type 0 where
  pub one : Contains values least
  pub none_below : All (λ value. is_lt (total_order value least) ≡ false) values

abbrev pub GreatestIsGreatest : Type 0
GreatestIsGreatest = (value : XFrac) (values : List XFrac) → All IsNumber (value ∷ values) → IsGreatest (value ∷ values) (greatest (value ∷ values))

abbrev pub LeastIsLeast : Type 0
LeastIsLeast = (value : XFrac) (values : List XFrac) → All IsNumber (value ∷ values) → IsLeast (value ∷ values) (least (value ∷ values))

-- what a quantile ranks are the values themselves, none before the one that it follows
pub record AreRanked (values ranked : List XFrac) : Type 0 where
  pub same : IsPermutation values ranked
  pub rising : IsSortedBy is_before ranked

abbrev pub AscendingIsRanked : Type 0
AscendingIsRanked = (values : List XFrac) → All IsNumber values → AreRanked values (ascending values)
