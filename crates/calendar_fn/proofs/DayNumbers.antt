-- Day numbers as counts of days from 1 January of the year 1.
use Rattle.std.proofs.Common.{◌≡◌, ℕ, suc, ◌+◌, refl, sym, ap, subst, ◌∙◌, arith, ℤ, pos, ◌+ℤ◌, ◌-ℤ◌, ◌≤ℤ◌, unsigned_abs}
use Rattle.std.proofs.lemmas.Int.{ints}
use Rattle.calendar_fn.specs.Calendar.{Date, IsDate, next_date, date_after, date_of, days_of_years, days_of_months, days_before, day_number, epoch}
use Rattle.calendar_fn.specs.Laws.{first_day, DatesAreCounted, EachDateIsFound, EpochIsDayZero, NextDayIsNextDate}
use Rattle.calendar_fn.proofs.Counting.{counted_date_is_found, found_date_is_counted, days_in_month_bounds}

pub days_before_epoch : days_before epoch ≡ 719_162
unfolding days_of_years days_of_months
days_before_epoch = refl

-- how many days lie between 1 January of the year 1 and a day
abbrev pub place_of : ℤ → ℕ
place_of day = unsigned_abs (day +ℤ pos 719_162)

pub date_of_place : (day : ℤ) → date_of day ≡ date_after (place_of day)
unfolding date_of
date_of_place day = ap (λ k. date_after (unsigned_abs (day +ℤ pos k))) days_before_epoch

pub day_number_before : (date : Date) → day_number date ≡ pos (days_before date) -ℤ pos 719_162
day_number_before date = ap (λ k. pos (days_before date) -ℤ pos k) days_before_epoch

pub place_from_first : (day : ℤ) → first_day ≤ℤ day → pos (place_of day) -ℤ pos 719_162 ≡ day
place_from_first day h = omega (arith, ints)

place_of_count : (n : ℕ) → place_of (pos n -ℤ pos 719_162) ≡ n
place_of_count n = omega (arith, ints)

pub place_of_next : (day : ℤ) (k : ℕ) → first_day ≤ℤ day → place_of (day +ℤ pos k) ≡ k + place_of day
place_of_next day k h = omega (arith, ints)

pub dates_are_counted : DatesAreCounted
dates_are_counted day h =
    let is = found_date_is_counted (place_of day) in
    let e : date_after (place_of day) ≡ date_of day = sym (date_of_place day) in (
      subst IsDate e is.0,
      subst (λ (date : Date). day_number date ≡ day) e
          (day_number_before (date_after (place_of day)) ∙ ap (λ n. pos n -ℤ pos 719_162) is.1 ∙ place_from_first day h),
    )

pub each_date_is_found : EachDateIsFound
each_date_is_found date is =
    date_of_place (day_number date)
    ∙ ap (λ day. date_after (place_of day)) (day_number_before date)
    ∙ ap date_after (place_of_count (days_before date))
    ∙ counted_date_is_found date is

epoch_is_date : IsDate epoch
epoch_is_date =
    let long = days_in_month_bounds 1970 1 in
    record {
      from_year_one = omega arith;
      from_january = omega arith;
      to_december = omega arith;
      from_the_first = omega arith;
      to_the_last = omega arith;
    }

pub epoch_is_day_zero : EpochIsDayZero
epoch_is_day_zero =
    let e : day_number epoch ≡ pos 0 = day_number_before epoch ∙ ap (λ n. pos n -ℤ pos 719_162) days_before_epoch in
    subst (λ day. date_of day ≡ epoch) e (each_date_is_found epoch epoch_is_date)

pub next_day_is_next_date : NextDayIsNextDate
unfolding date_after
next_day_is_next_date day h =
    let next : place_of (day +ℤ pos 1) ≡ suc (place_of day) = place_of_next day 1 h ∙ omega arith in
    date_of_place (day +ℤ pos 1) ∙ ap date_after next ∙ ap next_date (sym (date_of_place day))
