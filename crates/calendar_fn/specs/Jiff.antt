-- A date of `jiff` as one of the calendar.
use Rattle.std.specs.Prelude.{◌≡◌, pos}
use Rattle.jiff_core.specs.declared.civil.date.Date.{Date as Plain}
use Rattle.calendar_fn.specs.Calendar.{Date}

-- both have the same year, month and day
pub record IsSameDate (plain : Plain) (date : Date) : Type 0 where
  pub year : plain.year ≡ pos date.year
  pub month : plain.month ≡ date.month
  pub day : plain.day ≡ date.day
