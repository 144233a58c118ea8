-- Series that have the labels of another one.
use Rattle.std.specs.Prelude.{◌≡◌, ℕ, Bool, true, false, List, slice_get, slice_index_or, Option, None, Some, IsSome}
use Rattle.promql_meaning.specs.declared.answer.ResultSeries.{ResultSeries}
use Rattle.script_check.specs.Series.{IsNear, LabelList, series_under}

-- there is a series with these labels
abbrev pub HasLabels : LabelList → Option ResultSeries → Type 0
HasLabels labels None = ⊥
HasLabels labels (Some series) = series.labels ≡ labels

-- there is a series with the labels of this one, and with near values
abbrev pub IsPartner : ResultSeries → Option ResultSeries → Type 0
IsPartner one None = ⊥
IsPartner one (Some series) = (series.labels ≡ one.labels) × IsNear one series

-- one of the series has the labels of this one, and near values
pub record IsBeside (all : List ResultSeries) (one : ResultSeries) : Type 0 where
  pub place : ℕ
  pub has : IsPartner one (slice_get all place)

-- one of the others has the labels of this series
abbrev pub IsThere : List ResultSeries → ResultSeries → Type 0
IsThere others series = IsSome (series_under series.labels others)

-- what is marked is a series whose labels one of the others has
pub record AreMarked (part others : List ResultSeries) (marks : List Bool) : Type 0 where
  pub each : (place : ℕ) (series : ResultSeries) → slice_get part place ≡ Some series → slice_index_or marks place false ≡ true → IsThere others series
