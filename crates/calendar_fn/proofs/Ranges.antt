-- The numbers that the parts of a time may be.
use Rattle.std.proofs.Common.{◌≡◌, ℕ, zero, suc, ◌+◌, ◌-◌, ◌<◌, ◌≤◌, inl, inr, Bool, true, false, cond, Some, None, refl, sym, subst, arith, ℤ, pos, ◌≤ℤ◌, unsigned_abs}
use Rattle.std.proofs.lemmas.Bool.{cases_order}
use Rattle.std.proofs.lemmas.Int.{ints}
use Rattle.jiff_core.proofs.SignedLemmas.{signed_arith}
use Rattle.std.specs.Int.{int_rem_euclid}
use Rattle.calendar_fn.specs.Calendar.{Date, IsDate, days_in_month, days_in_year, date_after, days_of_years, days_of_months, place_in_year}
use Rattle.calendar_fn.specs.Parts.{IsInCalendar, is_in_calendar, within_calendar, day_of, second_of_day, date_at}
use Rattle.calendar_fn.specs.Laws.{first_day, IsWithin, AllPartsAreWithin}
use Rattle.calendar_fn.proofs.Counting.{found_date_is_counted, days_in_month_bounds, days_of_years_more, days_of_months_more, days_of_months_last}
use Rattle.calendar_fn.proofs.DayNumbers.{place_of, place_from_first, date_of_place}

-- ---- a year has a place for each of its days

years_rise : (n k : ℕ) → days_of_years n ≤ days_of_years (k + n)
years_rise n zero = let same : 0 + n ≡ n = omega arith in rw same (omega arith)
years_rise n (suc k) =
    let next : suc k + n ≡ suc (k + n) = omega arith in
    rw next (omega (arith, years_rise n k, days_of_years_more (k + n)))

months_rise : (y n k : ℕ) → days_of_months y n ≤ days_of_months y (k + n)
months_rise y n zero = let same : 0 + n ≡ n = omega arith in rw same (omega arith)
months_rise y n (suc k) =
    let next : suc k + n ≡ suc (k + n) = omega arith in
    rw next (omega (arith, months_rise y n k, days_of_months_more y (k + n)))

days_of_9999_years : days_of_years 9999 ≡ 3_652_059
unfolding days_of_years
days_of_9999_years = refl

year_within : (n : ℕ) → n < 3_652_059 → (date_after n).year ≤ 9999
year_within n h =
    let is = found_date_is_counted n in
    elim (cases_order (date_after n).year 10000) [
      | inr (inl less) ↦ omega arith
      | inl same ↦ late (date_after n).year is.1 (omega arith)
      | inr (inr more) ↦ late (date_after n).year is.1 (omega arith)
    ]
  where
    late : (y : ℕ) → days_of_years ((date_after n).year - 1) + (place_in_year (date_after n) - 1) ≡ n → 9999 < (date_after n).year → (date_after n).year ≤ 9999
    late y count more =
        let k : ℕ = (date_after n).year - 1 - 9999 in
        let same : k + 9999 ≡ (date_after n).year - 1 = omega arith in
        let rise : days_of_years 9999 ≤ days_of_years ((date_after n).year - 1) = subst (λ (m : ℕ). days_of_years 9999 ≤ days_of_years m) same (years_rise 9999 k) in
        absurd (omega (arith, days_of_9999_years))

last_place : (y m : ℕ) → 1 ≤ m → m ≤ 12 → days_of_months y (m - 1) + days_in_month y m ≤ 366
last_place y zero low high = absurd (omega arith)
last_place y (suc m) low high =
    let same : suc m - 1 ≡ m = omega arith in
    let december : 11 - m + suc m ≡ 12 = omega arith in
    let rise : days_of_months y (suc m) ≤ days_of_months y 12 = subst (λ (k : ℕ). days_of_months y (suc m) ≤ days_of_months y k) december (months_rise y (suc m) (11 - m)) in
    let long : days_in_year y ≤ 366 = grind arith in
    let last : days_in_month y 12 ≡ 31 = refl in
    rw same (omega (arith, days_of_months_more y m, days_of_months_more y 11, days_of_months_last y))

-- ---- the parts

in_calendar : (seconds : ℤ) → is_in_calendar seconds ≡ true → IsInCalendar seconds
in_calendar seconds h = (grind (arith, ints), grind (arith, ints))

pub within_is : (seconds : ℤ) (n : ℕ) → is_in_calendar seconds ≡ true → within_calendar seconds n ≡ Some n
within_is seconds n h = rw h

there : (seconds : ℤ) (n low high : ℕ) → (IsInCalendar seconds → (low ≤ n) × (n ≤ high)) → IsWithin low high (within_calendar seconds n)
there seconds n low high is = by (is_in_calendar seconds) (in_calendar seconds)
  where
    by : (b : Bool) → (b ≡ true → IsInCalendar seconds) → IsWithin low high (cond b (Some n) None)
    by true h = is (h refl)
    by false h = tt

day_from : (seconds : ℤ) → IsInCalendar seconds → first_day ≤ℤ day_of seconds
day_from seconds h = omega (arith, signed_arith)

day_to : (seconds : ℤ) → IsInCalendar seconds → place_of (day_of seconds) < 3_652_059
day_to seconds h =
    let place = place_from_first (day_of seconds) (day_from seconds h) in
    omega (arith, signed_arith)

date_is : (seconds : ℤ) → IsDate (date_at seconds)
date_is seconds =
    subst IsDate (sym (date_of_place (day_of seconds))) (found_date_is_counted (place_of (day_of seconds))).0

year_is : (seconds : ℤ) → IsInCalendar seconds → (date_at seconds).year ≤ 9999
year_is seconds h =
    subst (λ (date : Date). date.year ≤ 9999) (sym (date_of_place (day_of seconds))) (year_within (place_of (day_of seconds)) (day_to seconds h))

place_is : (date : Date) → IsDate date → (1 ≤ place_in_year date) × (place_in_year date ≤ 366)
place_is date is =
    let last = last_place date.year date.month is.from_january is.to_december in
    (omega (arith, is.from_the_first), omega (arith, is.to_the_last))

week_is : (z : ℤ) → unsigned_abs (int_rem_euclid z (pos 7)) ≤ 6
week_is z = omega (arith, signed_arith)

rest_is : (seconds : ℤ) → second_of_day seconds < 86_400
rest_is seconds = omega (arith, signed_arith)

pub parts_are_within : AllPartsAreWithin
parts_are_within seconds =
    let is = date_is seconds in
    let long = days_in_month_bounds (date_at seconds).year (date_at seconds).month in
    let rest = rest_is seconds in
    record {
      year = there seconds _ 1 9999 (λ h. (is.from_year_one, year_is seconds h));
      month = there seconds _ 1 12 (λ h. (is.from_january, is.to_december));
      day_of_month = there seconds _ 1 31 (λ h. (is.from_the_first, omega (arith, is.to_the_last)));
      days_in_month = there seconds _ 28 31 (λ h. long);
      day_of_year = there seconds _ 1 366 (λ h. place_is (date_at seconds) is);
      day_of_week = there seconds _ 0 6 (λ h. (omega arith, week_is _));
      hour = there seconds _ 0 23 (λ h. (omega arith, omega arith));
      minute = there seconds _ 0 59 (λ h. (omega arith, omega arith));
    }
