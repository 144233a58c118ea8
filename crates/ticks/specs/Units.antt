-- The units of durations, as the Prometheus querying documentation has them.
use Rattle.std.specs.Prelude.{ℕ, ◌*◌, List, [], ◌∷◌, codes}
use Rattle.ticks.specs.declared.unit.Unit.{Unit}
use Rattle.ticks.specs.declared.unit.Unit.TheVariants.{Year, Week, Day, Hour, Minute, Second, Millisecond}

-- a day always has 24 hours, a week 7 days and a year 365 days
abbrev pub milliseconds_in : Unit → ℕ
milliseconds_in Year = 365 * 24 * 60 * 60 * 1000
milliseconds_in Week = 7 * 24 * 60 * 60 * 1000
milliseconds_in Day = 24 * 60 * 60 * 1000
milliseconds_in Hour = 60 * 60 * 1000
milliseconds_in Minute = 60 * 1000
milliseconds_in Second = 1000
milliseconds_in Millisecond = 1

abbrev pub name_of : Unit → List ℕ
name_of Year = codes "y"
name_of Week = codes "w"
name_of Day = codes "d"
name_of Hour = codes "h"
name_of Minute = codes "m"
name_of Second = codes "s"
name_of Millisecond = codes "ms"

-- from the longest to the shortest
abbrev pub units : List Unit
units = Year ∷ Week ∷ Day ∷ Hour ∷ Minute ∷ Second ∷ Millisecond ∷ []
