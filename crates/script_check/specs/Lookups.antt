-- Which series and points a map stands for.
use Rattle.std.specs.Prelude.{◌≡◌, List, ℤ, option_map}
use Rattle.std.specs.Borrow.{Bor}
use Rattle.std.specs.BTreeMap.{BTreeMap, get}
use Rattle.std.specs.Ordering.{int_cmp}
use Rattle.label_set.specs.Labels.{labels_cmp}
use Rattle.ticks.specs.declared.moment.Ms.{Ms}
use Rattle.xfrac.specs.declared.value.XFrac.{XFrac}
use Rattle.promql_meaning.specs.declared.answer.Point.{Point}
use Rattle.promql_meaning.specs.declared.answer.ResultSeries.{ResultSeries}
use Rattle.script_check.specs.Series.{LabelList, series_under, value_at}

-- under all labels the map has the series that the list has
pub record HasSeries (map : BTreeMap LabelList (Bor ResultSeries)) (all : List ResultSeries) : Type 0 where
  pub each : (labels : LabelList) → option_map (λ (s : Bor ResultSeries). s.now) (get labels_cmp map labels) ≡ series_under labels all

-- at all times the map has the value that the points have
pub record HasValues (map : BTreeMap ℤ XFrac) (points : List Point) : Type 0 where
  pub each : (at : Ms) → get int_cmp map at.0 ≡ value_at at points
