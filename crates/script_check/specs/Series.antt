-- Whether the series of an answer are those that a script expects, and the first reason why they aren't. (The rules of promqltest;
-- the reasons and their order are this project's own.)
use Rattle.std.specs.Prelude.{ℕ, Bool, true, false, if◌then◌else◌, not, List, [], ◌∷◌, filter, map, Option, None, Some, find, is_none, is_some, option_map, int_lt, IsTrue, IsSome}
use Rattle.std.specs.List.{AllByRecursion}
use Rattle.std.specs.Option.{option_and_then}
use Rattle.std.specs.Ordering.{int_cmp, is_eq, is_gt}
use Rattle.label_set.specs.Labels.{labels_cmp}
use Rattle.ticks.specs.declared.moment.Ms.{Ms}
use Rattle.xfrac.specs.declared.value.XFrac.{XFrac}
use Rattle.xfrac.specs.Near.{is_near}
use Rattle.promql_meaning.specs.declared.answer.Point.{Point}
use Rattle.promql_meaning.specs.declared.answer.ResultSeries.{ResultSeries}
use Rattle.script_check.specs.declared.verdict.Reason.{Reason}
use Rattle.script_check.specs.declared.verdict.Reason.TheVariants.{Missing, Extra, Differs, Order, ScalarDiffers}

-- labels, as pairs of a name and a value
abbrev pub LabelList : Type 0
LabelList = List (List ℕ × List ℕ)

-- ---- values

-- the value that points have at a time
abbrev pub value_at : Ms → List Point → Option XFrac
value_at at points = option_map (λ (p : Point). p.value) (find (λ (p : Point). is_eq (int_cmp p.at.0 at.0)) points)

-- both values are absent, or both are there and near
abbrev pub are_near : Option XFrac → Option XFrac → Bool
are_near None None = true
are_near (Some wanted) (Some got) = is_near wanted got
are_near _ _ = false

-- points don't have near values at a time
abbrev pub is_apart : List Point → List Point → Ms → Bool
is_apart wanted got at = not (are_near (value_at at wanted) (value_at at got))

abbrev pub times : List Point → List Ms
times points = map (λ (p : Point). p.at) points

-- a time, unless the other one is earlier
abbrev pub sooner : Ms → Option Ms → Ms
sooner at None = at
sooner at (Some other) = if int_lt other.0 at.0 then other else at

abbrev pub soonest : List Ms → Option Ms
soonest [] = None
soonest (at ∷ more) = Some (sooner at (soonest more))

-- the earlier of two times of which either may be absent
abbrev pub soonest_of : Option Ms → Option Ms → Option Ms
soonest_of None other = other
soonest_of (Some at) other = Some (sooner at other)

-- the first time at which points don't have near values; at a time of neither both are absent
abbrev pub first_apart : List Point → List Point → Option Ms
first_apart wanted got = soonest_of (soonest (filter (is_apart wanted got) (times wanted))) (soonest (filter (is_apart wanted got) (times got)))

-- ---- series

-- the series that has these labels
abbrev pub series_under : LabelList → List ResultSeries → Option ResultSeries
series_under labels all = find (λ (s : ResultSeries). is_eq (labels_cmp s.labels labels)) all

-- no series has the labels of this one
abbrev pub is_lacking : List ResultSeries → ResultSeries → Bool
is_lacking all series = is_none (series_under series.labels all)

-- a series, unless the other one has lesser labels
abbrev pub lesser : ResultSeries → Option ResultSeries → ResultSeries
lesser series None = series
lesser series (Some other) = if is_gt (labels_cmp series.labels other.labels) then other else series

-- the series with the least labels
abbrev pub least : List ResultSeries → Option ResultSeries
least [] = None
least (series ∷ more) = Some (lesser series (least more))

-- ---- reasons

-- an expected series whose labels no series of the answer has
abbrev pub missing_reason : List ResultSeries → List ResultSeries → Option Reason
missing_reason wanted got = option_map (λ (s : ResultSeries). Missing s.labels) (least (filter (is_lacking got) wanted))

-- a series of the answer whose labels no expected one has
abbrev pub extra_reason : List ResultSeries → List ResultSeries → Option Reason
extra_reason wanted got = option_map (λ (s : ResultSeries). Extra s.labels) (least (filter (is_lacking wanted) got))

-- the first time at which a series doesn't have the expected value, with the two values
abbrev pub differs_from : ResultSeries → ResultSeries → Option Reason
differs_from wanted got = option_map (λ (at : Ms). Differs wanted.labels at (value_at at wanted.points) (value_at at got.points)) (first_apart wanted.points got.points)

-- the same of the answer's series under the expected labels; one that isn't there is missing, and has no other value
abbrev pub differs : List ResultSeries → ResultSeries → Option Reason
differs got wanted = option_and_then (differs_from wanted) (series_under wanted.labels got)

abbrev pub is_differing : List ResultSeries → ResultSeries → Bool
is_differing got wanted = is_some (differs got wanted)

-- the first value that isn't near, by labels and time
abbrev pub value_reason : List ResultSeries → List ResultSeries → Option Reason
value_reason wanted got = option_and_then (differs got) (least (filter (is_differing got) wanted))

-- the first series of the answer that isn't the one of the line at its place
abbrev pub misplaced : List ResultSeries → List ResultSeries → Option ResultSeries
misplaced wanted [] = None
misplaced [] (series ∷ got) = Some series
misplaced (line ∷ wanted) (series ∷ got) = if is_eq (labels_cmp line.labels series.labels) then misplaced wanted got else Some series

abbrev pub order_reason : List ResultSeries → List ResultSeries → Option Reason
order_reason wanted got = option_map (λ (s : ResultSeries). Order s.labels) (misplaced wanted got)

-- that one, where the order counts
abbrev pub placed_reason : Bool → List ResultSeries → List ResultSeries → Option Reason
placed_reason ordered wanted got = if ordered then order_reason wanted got else None

-- ---- scalars

abbrev pub first_value : List Point → Option XFrac
first_value [] = None
first_value (point ∷ points) = Some point.value

-- a scalar's value at an instant: that of the first point of its first series
abbrev pub scalar_in : List ResultSeries → Option XFrac
scalar_in [] = None
scalar_in (series ∷ all) = first_value series.points

-- why a scalar isn't the expected one: it has no value, or one that isn't near
abbrev pub scalar_reason : XFrac → Option XFrac → Option Reason
scalar_reason wanted got = if are_near (Some wanted) got then None else Some (ScalarDiffers wanted got)

-- ---- agreement

-- a series of the answer has near values to an expected one: at each time both are absent, or both are near
abbrev pub IsNear : ResultSeries → ResultSeries → Type 0
IsNear wanted got = (at : Ms) → IsTrue (are_near (value_at at wanted.points) (value_at at got.points))

-- the series is there, with near values to the expected one
abbrev pub IsMetBy : ResultSeries → Option ResultSeries → Type 0
IsMetBy wanted None = ⊥
IsMetBy wanted (Some series) = IsNear wanted series

-- the answer has the expected series, with near values at each time
abbrev pub IsMet : List ResultSeries → ResultSeries → Type 0
IsMet got wanted = IsMetBy wanted (series_under wanted.labels got)

-- An answer's series are as expected: each expected one is there with near values, and none is there that isn't expected.
pub record Agrees (wanted got : List ResultSeries) : Type 0 where
  pub each : AllByRecursion (IsMet got) wanted
  pub no_other : AllByRecursion (λ (s : ResultSeries). IsSome (series_under s.labels wanted)) got
