-- What is kept of the values of a group as they come, and what it comes to. (This project's own.)
use Rattle.std.specs.Prelude.{◌+◌, ◌<◌, ◌^◌, ℕ, List, length, Option, Some, None, Result, Ok, Err, IfSome, if◌then◌else◌, ⊤}
use Rattle.std.specs.Result.{result_ok}
use Rattle.func_table.specs.declared.table.Aggregate.{Aggregate}
use Rattle.func_table.specs.declared.table.Aggregate.TheVariants as aggregate
use Rattle.window_fn.specs.Aggregates.{greatest, least, variance}
use Rattle.xfrac.specs.Arithmetic.{quotient, whole_number}
use Rattle.xfrac.specs.Sums.{Totals, fits, totals, value_of}
use Rattle.xfrac.specs.declared.value.NumFault.{NumFault}
use Rattle.xfrac.specs.declared.value.NumFault.TheVariants.{Overflow}
use Rattle.xfrac.specs.declared.value.XFrac.{XFrac}
use Rattle.op_aggregate.specs.declared.tally.Group.{Group}
use Rattle.op_aggregate.specs.declared.tally.Tally.{Tally}
use Rattle.op_aggregate.specs.declared.tally.Tally.TheVariants.{Rows, Sum, Least, Greatest, Values}

-- what is kept of a sum: the totals of its list, where it has a sum
abbrev pub held : List XFrac → Option Totals
held xs = if fits (totals xs) then Some (totals xs) else None

-- what is kept of values, by what is made of them
abbrev pub tally_of : Aggregate → List XFrac → Tally
tally_of aggregate.Sum xs = Sum (held xs)
tally_of aggregate.Avg xs = Sum (held xs)
tally_of aggregate.Min xs = Least (least xs)
tally_of aggregate.Max xs = Greatest (greatest xs)
tally_of aggregate.Stdvar xs = Values xs
tally_of f xs = Rows

-- the same beside how many there are
abbrev pub group_of : Aggregate → List XFrac → Group
group_of f xs = record { rows = length xs; tally = tally_of f xs }

-- ---- what the calls ask for

-- a sum has room for one number more
abbrev pub SumHasRoom : Option Totals → Type 0
SumHasRoom sum = IfSome sum (λ s. s.count + 1 < 2 ^ 96)

abbrev pub HasRoom : Tally → Type 0
HasRoom (Sum sum) = SumHasRoom sum
HasRoom t = ⊤

-- a sum is of one number at least, and so is what is kept
abbrev pub SumHasNumbers : Option Totals → Type 0
SumHasNumbers sum = IfSome sum (λ s. 0 < s.count)

abbrev pub HasNumbers : Tally → Type 0
HasNumbers (Sum sum) = SumHasNumbers sum
HasNumbers (Values xs) = 0 < length xs
HasNumbers t = ⊤

-- ---- what it comes to

-- how many rows there are; 1 for a group
abbrev pub count_or_one : Aggregate → ℕ → XFrac
count_or_one aggregate.Group n = whole_number 1
count_or_one f n = whole_number n

abbrev pub mean_held : Totals → Option XFrac
mean_held t = quotient (value_of t) (whole_number t.count)

-- the sum, and for avg the mean
abbrev pub sum_or_mean : Aggregate → Option Totals → Option XFrac
sum_or_mean f None = None
sum_or_mean aggregate.Avg (Some t) = mean_held t
sum_or_mean f (Some t) = Some (value_of t)

abbrev pub tally_value : Aggregate → ℕ → Tally → Option XFrac
tally_value f n Rows = Some (count_or_one f n)
tally_value f n (Sum sum) = sum_or_mean f sum
tally_value f n (Least v) = Some v
tally_value f n (Greatest v) = Some v
tally_value f n (Values xs) = result_ok (variance xs)

-- what an aggregation makes of a group; nothing where it overflows
abbrev pub group_value : Aggregate → Group → Option XFrac
group_value f group = tally_value f group.rows group.tally

-- a value, or the one fault that an aggregation has
abbrev pub or_overflow : Option XFrac → Result (Option XFrac) NumFault
or_overflow None = Err Overflow
or_overflow (Some value) = Ok (Some value)
