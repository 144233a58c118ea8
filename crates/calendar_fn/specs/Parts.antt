-- What a time is on a clock and a calendar of UTC. (The Prometheus querying documentation; that years end with 9999 is this project's own.)
use Rattle.std.specs.Prelude.{ℕ, ◌/◌, ◌%◌, ℤ, pos, neg_ℤ, ◌+ℤ◌, ◌≤ℤ◌, unsigned_abs, Bool, ◌&&◌, Option, Some, None, if◌then◌else◌}
use Rattle.std.specs.Int.{int_div_euclid, int_rem_euclid}
use Rattle.std.specs.Int.RustNames.{int_le}
use Rattle.calendar_fn.specs.Calendar.{Date, date_of, days_in_month, place_in_year}

-- ---- seconds, which count from the beginning of 1970-01-01

-- the first second of the year 1
abbrev pub first_second : ℤ
first_second = neg_ℤ (pos 62_135_596_800)

-- the last second of the year 9999
abbrev pub last_second : ℤ
last_second = pos 253_402_300_799

abbrev pub IsInCalendar : ℤ → Type 0
IsInCalendar seconds = (first_second ≤ℤ seconds) × (seconds ≤ℤ last_second)

abbrev pub is_in_calendar : ℤ → Bool
is_in_calendar seconds = int_le first_second seconds && int_le seconds last_second

-- the day number of a second: days have 86,400 seconds, and those before 1970 have negative numbers
abbrev pub day_of : ℤ → ℤ
day_of seconds = int_div_euclid seconds (pos 86_400)

-- how many seconds of its day lie before a second
abbrev pub second_of_day : ℤ → ℕ
second_of_day seconds = unsigned_abs (int_rem_euclid seconds (pos 86_400))

-- the date of a second
abbrev pub date_at : ℤ → Date
date_at seconds = date_of (day_of seconds)

-- ---- the parts, of seconds in the years 1 to 9999 alone

abbrev pub within_calendar : ℤ → ℕ → Option ℕ
within_calendar seconds part = if is_in_calendar seconds then Some part else None

-- the year
abbrev pub year_at : ℤ → Option ℕ
year_at seconds = within_calendar seconds (date_at seconds).year

-- the month, from 1 on
abbrev pub month_at : ℤ → Option ℕ
month_at seconds = within_calendar seconds (date_at seconds).month

-- the day of the month, from 1 on
abbrev pub day_of_month_at : ℤ → Option ℕ
day_of_month_at seconds = within_calendar seconds (date_at seconds).day

-- how many days the month has
abbrev pub days_in_month_at : ℤ → Option ℕ
days_in_month_at seconds = within_calendar seconds (days_in_month (date_at seconds).year (date_at seconds).month)

-- the day of the year, from 1 on
abbrev pub day_of_year_at : ℤ → Option ℕ
day_of_year_at seconds = within_calendar seconds (place_in_year (date_at seconds))

-- the day of the week, from 0 on, which is Sunday: 1970-01-01 was a Thursday
abbrev pub day_of_week_at : ℤ → Option ℕ
day_of_week_at seconds = within_calendar seconds (unsigned_abs (int_rem_euclid (day_of seconds +ℤ pos 4) (pos 7)))

-- the hour, from 0 on
abbrev pub hour_at : ℤ → Option ℕ
hour_at seconds = within_calendar seconds (second_of_day seconds / 3600)

-- the minute, from 0 on
abbrev pub minute_at : ℤ → Option ℕ
minute_at seconds = within_calendar seconds (second_of_day seconds % 3600 / 60)
