-- irate, idelta, changes and resets: how values change from one sample to the next. (Prometheus querying, "Functions".)
use Rattle.std.specs.Prelude.{◌-ℤ◌, Bool, ◌&&◌, not, List, count_by, Result, Ok, if◌then◌else◌}
use Rattle.xfrac.specs.Arithmetic.{arithmetic, whole_number}
use Rattle.xfrac.specs.Kinds.{is_not_a_number}
use Rattle.xfrac.specs.Order.{compares}
use Rattle.xfrac.specs.Sequencing.{◌>>=◌}
use Rattle.xfrac.specs.declared.value.ArithOp.TheVariants.{Sub, Div}
use Rattle.xfrac.specs.declared.value.CompareOp.TheVariants.{Lt, Ne}
use Rattle.xfrac.specs.declared.value.NumFault.{NumFault}
use Rattle.xfrac.specs.declared.value.XFrac.{XFrac}
use Rattle.ticks.specs.declared.moment.Ms.{Ms}
use Rattle.window_fn.specs.Points.{last_of, last_but_one, ended, ended_before, milliseconds, in_seconds, neighbours}

-- the last value less the one before it
abbrev pub last_difference : List XFrac → Result XFrac NumFault
last_difference values = arithmetic Sub (last_of values) (last_but_one values)

-- how far a counter rose at the last sample: after a reset from 0 on
abbrev pub last_rise : List XFrac → Result XFrac NumFault
last_rise values = if compares Lt (last_of values) (last_but_one values) then Ok (last_of values) else last_difference values

-- a counter's last rise by the seconds between the last two samples
unfoldable pub instant_rate : List Ms → List XFrac → Result XFrac NumFault
instant_rate times values = do
  rise ← last_rise values
  span ← in_seconds (milliseconds (ended times -ℤ ended_before times))
  arithmetic Div rise span

-- two values differ; NaN doesn't differ from NaN
abbrev pub differ : XFrac → XFrac → Bool
differ a b = compares Ne a b && not (is_not_a_number a && is_not_a_number b)

-- how often a value differs from the next one
abbrev pub changes : List XFrac → XFrac
changes values = whole_number (count_by (λ p. differ p.0 p.1) (neighbours values))

-- how often the next value is below a value
abbrev pub resets : List XFrac → XFrac
resets values = whole_number (count_by (λ p. compares Lt p.1 p.0) (neighbours values))
