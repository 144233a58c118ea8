-- The ends of the calendar, in seconds.
use Rattle.std.proofs.Common.{refl}
use Rattle.calendar_fn.specs.Calendar.{days_of_years, days_of_months}
use Rattle.calendar_fn.specs.Laws.{EndsAreThoseOfYears}

pub ends_are_those_of_years : EndsAreThoseOfYears
unfolding days_of_years days_of_months
ends_are_those_of_years = (refl, refl)
