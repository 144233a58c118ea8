-- The samples of a window in two columns, which lengthen at their end and are let go in front.
use Rattle.std.specs.Prelude.{◌≡◌, ◌≤◌, ◌++◌, ℕ, ℤ, zero, suc, int_lt, Bool, true, false, List, [], ◌∷◌, length, drop, if◌then◌else◌}
use Rattle.ticks.specs.declared.moment.Ms.{Ms}
use Rattle.xfrac.specs.declared.value.XFrac.{XFrac}

-- times, and as many values
pub record Columns : Type 0 where
  pub times : List Ms
  pub values : List XFrac

-- there are as many times as values, and so many of them may be left out
pub record AreColumns (start : ℕ) (times : List Ms) (values : List XFrac) : Type 0 where
  pub same : length times ≡ length values
  pub within : start ≤ length times

-- the columns without so many samples in front
abbrev pub columns_from : ℕ → List Ms → List XFrac → Columns
columns_from start times values = record { times = drop start times; values = drop start values }

abbrev pub column_more : Columns → Ms → XFrac → Columns
column_more columns at value = record { times = columns.times ++ at ∷ []; values = columns.values ++ value ∷ [] }

-- how many times in front are no later than an edge
abbrev pub early : ℤ → List Ms → ℕ
early edge [] = zero
early edge (t ∷ times) = if int_lt edge t.0 then zero else suc (early edge times)

-- the samples later than an edge; their times rise
abbrev pub columns_behind : ℤ → Columns → Columns
columns_behind edge columns = columns_from (early edge columns.times) columns.times columns.values

-- whether there are samples
abbrev pub has_some : Columns → Bool
has_some columns = is_filled columns.times
  where
    is_filled : List Ms → Bool
    is_filled [] = false
    is_filled (t ∷ times) = true
