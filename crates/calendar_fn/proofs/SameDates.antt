-- The dates of `jiff` are those of the calendar.
use Rattle.std.proofs.Common.{◌≡◌, ℕ, zero, suc, ◌+◌, ◌-◌, ◌≤◌, refl, sym, ap, subst, ◌∙◌, arith, ℤ, pos, negsuc, ◌≤ℤ◌, ◌<ℤ◌}
use Rattle.jiff_core.specs.declared.civil.date.Date.{Date as Plain}
use Rattle.jiff_core.specs.Calendar.{day_count, days_from_civil, IsCivilDate, days_of_months as plain_months, days_in_year as plain_year}
use Rattle.jiff_core.specs.Date.{epoch_day, ordinal}
use Rattle.jiff_core.proofs.CalendarLemmas.{days_from_civil-day_count, day_count-lt_year, day_count-day_of_year, day_count-next_year}
use Rattle.jiff_core.proofs.MarchLemmas.{day_count-early}
use Rattle.jiff_core.proofs.DateLemmas.{civil}
use Rattle.jiff_core.proofs.SignedLemmas.{signed_arith}
use Rattle.calendar_fn.specs.Calendar.{Date, IsDate, date_of, date_after, days_in_month, days_in_year, days_of_years, days_of_months, days_before, place_in_year}
use Rattle.calendar_fn.specs.Jiff.{IsSameDate}
use Rattle.calendar_fn.specs.Laws.{first_day}
use Rattle.calendar_fn.proofs.Counting.{ymd, counted_date_is_found, days_of_years_none, days_of_years_more}
use Rattle.calendar_fn.proofs.DayNumbers.{place_of, place_from_first, date_of_place}

pub same_months : (y m : ℕ) → plain_months (pos y) m ≡ days_of_months y m
unfolding plain_months days_of_months
same_months y zero = refl
same_months y (suc m) = ap (λ n. n + days_in_month y (suc m)) (same_months y m)

-- `jiff` counts days from the year -10000 on
first_count : day_count (pos 1) 1 1 ≡ 3_652_791
first_count = day_count-early (pos 1) 10000 1 1 refl (omega arith) (omega arith) (omega arith)

same_years : (k : ℕ) → day_count (pos (suc k)) 1 1 ≡ days_of_years k + 3_652_791
same_years zero = first_count ∙ ap (λ n. n + 3_652_791) (sym days_of_years_none)
same_years (suc k) =
    let next = day_count-next_year (pos (suc k)) (pos (suc (suc k))) (omega (arith, signed_arith)) (omega (arith, signed_arith)) in
    let year : plain_year (pos (suc k)) ≡ days_in_year (suc k) = refl in
    omega (arith, same_years k, days_of_years_more k)

years_to : (y : ℕ) → 1 ≤ y → day_count (pos y) 1 1 ≡ days_of_years (y - 1) + 3_652_791
years_to zero h = absurd (omega arith)
years_to (suc k) h =
    let same : suc k - 1 ≡ k = omega arith in
    same_years k ∙ ap (λ n. days_of_years n + 3_652_791) (sym same)

abbrev HasParts : ℤ → ℕ → ℕ → Date → Type 0
HasParts year m d date = (year ≡ pos date.year) × (m ≡ date.month) × (d ≡ date.day)

found_parts : (y m d : ℕ) (day : ℤ) → 1 ≤ y → IsCivilDate (pos y) m d → days_from_civil (pos y) m d ≡ day → first_day ≤ℤ day → HasParts (pos y) m d (date_of day)
found_parts y m d day some is e h =
    let date : IsDate (ymd y m d) = record {
      from_year_one = some;
      from_january = is.1.0;
      to_december = is.1.1;
      from_the_first = is.2.0;
      to_the_last = is.2.1;
    } in
    let count : days_before (ymd y m d) ≡ place_of day =
    omega (arith, signed_arith, place_from_first day h, days_from_civil-day_count (pos y) m d, day_count-day_of_year (pos y) m d is.2.0, years_to y some, same_months y (m - 1), is.2.0) in
    let found : ymd y m d ≡ date_of day = sym (counted_date_is_found (ymd y m d) date) ∙ ap date_after count ∙ sym (date_of_place day) in
    subst (HasParts (pos y) m d) found (refl, refl, refl)

too_early : (year : ℤ) (m d : ℕ) (day : ℤ) → IsCivilDate year m d → days_from_civil year m d ≡ day → first_day ≤ℤ day → year <ℤ pos 1 → ⊥
too_early year m d day is e h early =
    omega (arith, signed_arith, days_from_civil-day_count year m d, day_count-lt_year year m d (pos 1) 1 1 is (omega arith) early, first_count)

by_year : (year : ℤ) (m d : ℕ) (day : ℤ) → IsCivilDate year m d → days_from_civil year m d ≡ day → first_day ≤ℤ day → HasParts year m d (date_of day)
by_year (pos zero) m d day is e h = absurd (too_early (pos zero) m d day is e h (omega (arith, signed_arith)))
by_year (pos (suc k)) m d day is e h = found_parts (suc k) m d day (omega arith) is e h
by_year (negsuc k) m d day is e h = absurd (too_early (negsuc k) m d day is e h (omega (arith, signed_arith)))

pub same_date : (plain : Plain) (day : ℤ) → epoch_day plain ≡ day → first_day ≤ℤ day → IsSameDate plain (date_of day)
same_date plain day e h =
    let parts = by_year plain.year plain.month plain.day day (civil plain) e h in
    record { year = parts.0; month = parts.1; day = parts.2 }

pub same_place : (plain : Plain) (date : Date) → IsSameDate plain date → ordinal plain ≡ place_in_year date
same_place plain date same =
    ap (λ (year : ℤ). plain_months year (plain.month - 1) + plain.day) same.year
    ∙ ap (λ n. n + plain.day) (same_months date.year (plain.month - 1))
    ∙ ap (λ m. days_of_months date.year (m - 1) + plain.day) same.month
    ∙ ap (λ d. days_of_months date.year (date.month - 1) + d) same.day
