-- The calendar repeats after 400 years.
use Rattle.std.proofs.Common.{◌≡◌, ℕ, zero, suc, ◌+◌, ◌%◌, Bool, true, false, cond, nat_lt, refl, sym, ap, ◌∙◌, arith, pos, ◌+ℤ◌}
use Rattle.calendar_fn.specs.Calendar.{Date, IsDate, is_leap_year, days_in_month, next_date, date_after, days_of_years, days_of_months, days_before}
use Rattle.calendar_fn.specs.Laws.{CalendarRepeats, years_later}
use Rattle.calendar_fn.proofs.Counting.{ymd, counted_date_is_found, days_in_month_bounds}
use Rattle.calendar_fn.proofs.DayNumbers.{place_of, date_of_place, place_of_next}

leap_repeats : (y : ℕ) → is_leap_year (y + 400) ≡ is_leap_year y
leap_repeats y =
    let four : (y + 400) % 4 ≡ y % 4 = omega arith in
    let hundred : (y + 400) % 100 ≡ y % 100 = omega arith in
    let all : (y + 400) % 400 ≡ y % 400 = omega arith in
    rw (four, hundred, all)

month_repeats : (y m : ℕ) → days_in_month (y + 400) m ≡ days_in_month y m
month_repeats y m = rw (leap_repeats y)

next_repeats : (date : Date) → next_date (years_later 400 date) ≡ years_later 400 (next_date date)
next_repeats date =
    rw (month_repeats date.year date.month) (by (nat_lt date.day (days_in_month date.year date.month)) (nat_lt date.month 12))
  where
    by : (b c : Bool) →
        cond b (ymd (date.year + 400) date.month (date.day + 1)) (cond c (ymd (date.year + 400) (date.month + 1) 1) (ymd (date.year + 400 + 1) 1 1))
        ≡ years_later 400 (cond b (ymd date.year date.month (date.day + 1)) (cond c (ymd date.year (date.month + 1) 1) (ymd (date.year + 1) 1 1)))
    by true c = refl
    by false true = refl
    by false false = let e : date.year + 400 + 1 ≡ date.year + 1 + 400 = omega arith in ap (λ y. ymd y 1 1) e

days_of_400_years : days_before (ymd 401 1 1) ≡ 146_097
unfolding days_of_years days_of_months
days_of_400_years = refl

first_is_date : IsDate (ymd 401 1 1)
first_is_date =
    let long = days_in_month_bounds 401 1 in
    record {
      from_year_one = omega arith;
      from_january = omega arith;
      to_december = omega arith;
      from_the_first = omega arith;
      to_the_last = omega arith;
    }

later : (n at : ℕ) → at ≡ 146_097 + n → date_after at ≡ years_later 400 (date_after n)
unfolding date_after
later zero at e =
    let same : at ≡ 146_097 = omega arith in
    ap date_after (same ∙ sym days_of_400_years) ∙ counted_date_is_found (ymd 401 1 1) first_is_date
later (suc n) at e =
    let next : at ≡ suc (146_097 + n) = omega arith in
    ap date_after next ∙ ap next_date (later n (146_097 + n) refl) ∙ next_repeats (date_after n)

pub calendar_repeats : CalendarRepeats
calendar_repeats day h =
    date_of_place (day +ℤ pos 146_097)
    ∙ later (place_of day) (place_of (day +ℤ pos 146_097)) (place_of_next day 146_097 h)
    ∙ ap (years_later 400) (sym (date_of_place day))
