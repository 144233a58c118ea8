-- The Gregorian calendar from the year 1 on, by ISO 8601: its dates, and the day numbers of dates, which count from 1970-01-01.
use Rattle.std.specs.Prelude.{ℕ, zero, suc, ◌+◌, ◌-◌, ◌%◌, ◌≤◌, ℤ, pos, ◌+ℤ◌, ◌-ℤ◌, unsigned_abs, Bool, not, ◌&&◌, ◌||◌, ◌==◌, nat_lt, if◌then◌else◌}

-- every fourth year is a leap year, but of the centuries only every fourth
abbrev pub is_leap_year : ℕ → Bool
is_leap_year year = (year % 4 == 0) && (not (year % 100 == 0) || (year % 400 == 0))

-- how many days a year has
abbrev pub days_in_year : ℕ → ℕ
days_in_year year = if is_leap_year year then 366 else 365

-- how many days the month of a year has: February 28 or 29, April, June, September and November 30
abbrev pub days_in_month : ℕ → ℕ → ℕ
days_in_month year month =
    if month == 2 then (if is_leap_year year then 29 else 28)
    else (if (month == 4) || (month == 6) || (month == 9) || (month == 11) then 30 else 31)

-- a year, a month from 1 on and a day of the month from 1 on
pub record Date : Type 0 where
  pub year : ℕ
  pub month : ℕ
  pub day : ℕ

-- the calendar has such a date
pub record IsDate (date : Date) : Type 0 where
  pub from_year_one : 1 ≤ date.year
  pub from_january : 1 ≤ date.month
  pub to_december : date.month ≤ 12
  pub from_the_first : 1 ≤ date.day
  pub to_the_last : date.day ≤ days_in_month date.year date.month

-- ---- from one date to the next

-- the date after a date: the next day of the month, else the first of the next month, else the first of January
abbrev pub next_date : Date → Date
next_date date =
    if nat_lt date.day (days_in_month date.year date.month) then record { year = date.year; month = date.month; day = date.day + 1 }
    else if nat_lt date.month 12 then record { year = date.year; month = date.month + 1; day = 1 }
    else record { year = date.year + 1; month = 1; day = 1 }

-- the date so many days after 1 January of the year 1
unfoldable pub date_after : ℕ → Date
date_after zero = record { year = 1; month = 1; day = 1 }
date_after (suc days) = next_date (date_after days)

-- ---- how many days lie before a date

-- the days of the first so many years
unfoldable pub days_of_years : ℕ → ℕ
days_of_years zero = 0
days_of_years (suc years) = days_of_years years + days_in_year (suc years)

-- the days of the first so many months of a year
unfoldable pub days_of_months : ℕ → ℕ → ℕ
days_of_months year zero = 0
days_of_months year (suc months) = days_of_months year months + days_in_month year (suc months)

-- the place of a date in its year, from 1 on
abbrev pub place_in_year : Date → ℕ
place_in_year date = days_of_months date.year (date.month - 1) + date.day

-- how many days lie between 1 January of the year 1 and a date
abbrev pub days_before : Date → ℕ
days_before date = days_of_years (date.year - 1) + (place_in_year date - 1)

-- ---- day numbers

abbrev pub epoch : Date
epoch = record { year = 1970; month = 1; day = 1 }

-- the day number of a date, which is 0 for 1970-01-01 and negative before it
abbrev pub day_number : Date → ℤ
day_number date = pos (days_before date) -ℤ pos (days_before epoch)

-- the date with a day number, which is at least that of 1 January of the year 1
unfoldable pub date_of : ℤ → Date
date_of day = date_after (unsigned_abs (day +ℤ pos (days_before epoch)))
