-- The samples of a window: times and values of one length, the times in milliseconds.
use Rattle.std.specs.Prelude.{ℕ, ◌-◌, ℤ, pos, List, length, drop, Result, slice_index_or}
use Rattle.std.specs.List.{zip}
use Rattle.xfrac.specs.Arithmetic.{arithmetic, whole_number}
use Rattle.xfrac.specs.declared.value.ArithOp.TheVariants.{Div}
use Rattle.xfrac.specs.declared.value.NumFault.{NumFault}
use Rattle.xfrac.specs.declared.value.XFrac.{XFrac}
use Rattle.xfrac.specs.declared.value.XFrac.TheVariants.{Fin, NaN}
use Rattle.ticks.specs.declared.moment.Ms.{Ms}

-- the first and the last value of a list that isn't empty, and the last but one of two
abbrev pub first_of : List XFrac → XFrac
first_of values = slice_index_or values 0 NaN

abbrev pub last_of : List XFrac → XFrac
last_of values = slice_index_or values (length values - 1) NaN

abbrev pub last_but_one : List XFrac → XFrac
last_but_one values = slice_index_or values (length values - 2) NaN

-- the time at a place, and the first, the last and the last but one
abbrev pub time_at : List Ms → ℕ → ℤ
time_at times i = (slice_index_or times i (record { 0 = pos 0 })).0

abbrev pub begun : List Ms → ℤ
begun times = time_at times 0

abbrev pub ended : List Ms → ℤ
ended times = time_at times (length times - 1)

abbrev pub ended_before : List Ms → ℤ
ended_before times = time_at times (length times - 2)

-- a span of milliseconds as a number, and in seconds
abbrev pub milliseconds : ℤ → XFrac
milliseconds span = Fin (span, 1)

abbrev pub in_seconds : XFrac → Result XFrac NumFault
in_seconds span = arithmetic Div span (whole_number 1000)

-- each value beside the next one
abbrev pub neighbours : List XFrac → List (XFrac × XFrac)
neighbours values = zip values (drop 1 values)
