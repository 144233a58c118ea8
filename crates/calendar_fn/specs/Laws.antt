-- What shows a reader that the definitions are those of the calendar and of the clock.
use Rattle.std.specs.Prelude.{◌≡◌, ℕ, ◌+◌, ◌*◌, ◌/◌, ◌%◌, ◌<◌, ◌≤◌, ℤ, pos, neg_ℤ, ◌+ℤ◌, ◌*ℤ◌, ◌≤ℤ◌, Option, IfSome}
use Rattle.calendar_fn.specs.Calendar.{Date, IsDate, date_of, day_number, epoch, next_date}
use Rattle.calendar_fn.specs.Parts.{first_second, last_second, day_of, second_of_day, year_at, month_at, day_of_month_at, days_in_month_at, day_of_year_at, day_of_week_at, hour_at, minute_at}

-- the day number of 1 January of the year 1
abbrev pub first_day : ℤ
first_day = neg_ℤ (pos 719_162)

-- the date with a day number is one of the calendar, and has that day number
abbrev pub DatesAreCounted : Type 0
DatesAreCounted = (day : ℤ) → first_day ≤ℤ day → IsDate (date_of day) × (day_number (date_of day) ≡ day)

-- and each date of the calendar is the date with its day number
abbrev pub EachDateIsFound : Type 0
EachDateIsFound = (date : Date) → IsDate date → date_of (day_number date) ≡ date

-- day 0 is 1970-01-01
abbrev pub EpochIsDayZero : Type 0
EpochIsDayZero = date_of (pos 0) ≡ epoch

-- the next day has the next date
abbrev pub NextDayIsNextDate : Type 0
NextDayIsNextDate = (day : ℤ) → first_day ≤ℤ day → date_of (day +ℤ pos 1) ≡ next_date (date_of day)

abbrev pub years_later : ℕ → Date → Date
years_later years date = record { year = date.year + years; month = date.month; day = date.day }

-- the calendar repeats every 400 years, which have 146,097 days
abbrev pub CalendarRepeats : Type 0
CalendarRepeats = (day : ℤ) → first_day ≤ℤ day → date_of (day +ℤ pos 146_097) ≡ years_later 400 (date_of day)

-- the seconds of the calendar are those from the first of the year 1 to the last of the year 9999
abbrev pub EndsAreThoseOfYears : Type 0
EndsAreThoseOfYears =
    (first_second ≡ day_number (record { year = 1; month = 1; day = 1 }) *ℤ pos 86_400)
    × (last_second ≡ day_number (record { year = 9999; month = 12; day = 31 }) *ℤ pos 86_400 +ℤ pos 86_399)

-- a second is put together of its day and its place in the day, of hours, minutes and seconds
abbrev pub SecondsArePutTogether : Type 0
SecondsArePutTogether =
    (seconds : ℤ) → let place = second_of_day seconds in
    (seconds ≡ day_of seconds *ℤ pos 86_400 +ℤ pos place) × (place < 86_400)
    × (place ≡ place / 3600 * 3600 + place % 3600 / 60 * 60 + place % 60)

-- a part that is there lies from one number to another, both included
abbrev pub IsWithin : ℕ → ℕ → Option ℕ → Type 0
IsWithin low high part = IfSome part (λ n. (low ≤ n) × (n ≤ high))

-- the numbers that each part may be
pub record PartsAreWithin (seconds : ℤ) : Type 0 where
  pub year : IsWithin 1 9999 (year_at seconds)
  pub month : IsWithin 1 12 (month_at seconds)
  pub day_of_month : IsWithin 1 31 (day_of_month_at seconds)
  pub days_in_month : IsWithin 28 31 (days_in_month_at seconds)
  pub day_of_year : IsWithin 1 366 (day_of_year_at seconds)
  pub day_of_week : IsWithin 0 6 (day_of_week_at seconds)
  pub hour : IsWithin 0 23 (hour_at seconds)
  pub minute : IsWithin 0 59 (minute_at seconds)

abbrev pub AllPartsAreWithin : Type 0
AllPartsAreWithin = (seconds : ℤ) → PartsAreWithin seconds
