-- Going from date to date comes to the same as counting the days of years and months.
use Rattle.std.proofs.Common.{◌≡◌, ℕ, zero, suc, ◌+◌, ◌-◌, ◌<◌, ◌≤◌, Bool, true, false, nat_lt, refl, sym, ap, subst, ◌∙◌, arith}
use Rattle.std.proofs.lemmas.Bool.{lt-ltb, le-ltb, ltb-true, ltb-false}
use Rattle.calendar_fn.specs.Calendar.{Date, IsDate, days_in_month, days_in_year, next_date, date_after, days_of_years, days_of_months, days_before}

abbrev pub ymd : ℕ → ℕ → ℕ → Date
ymd y m d = record { year = y; month = m; day = d }

pub days_in_month_bounds : (y m : ℕ) → (28 ≤ days_in_month y m) × (days_in_month y m ≤ 31)
days_in_month_bounds y m = grind arith

-- ---- the next date

next_day : (y m d : ℕ) → d < days_in_month y m → next_date (ymd y m d) ≡ ymd y m (d + 1)
next_day y m d h = rw (lt-ltb d (days_in_month y m) h)

next_month : (y m d : ℕ) → days_in_month y m ≤ d → m < 12 → next_date (ymd y m d) ≡ ymd y (m + 1) 1
next_month y m d h k = rw (le-ltb d (days_in_month y m) h, lt-ltb m 12 k)

next_year : (y m d : ℕ) → days_in_month y m ≤ d → 12 ≤ m → next_date (ymd y m d) ≡ ymd (y + 1) 1 1
next_year y m d h k = rw (le-ltb d (days_in_month y m) h, le-ltb m 12 k)

-- ---- sums

pub days_of_months_none : (y : ℕ) → days_of_months y 0 ≡ 0
unfolding days_of_months
days_of_months_none y = refl

pub days_of_months_more : (y m : ℕ) → days_of_months y (suc m) ≡ days_of_months y m + days_in_month y (suc m)
unfolding days_of_months
days_of_months_more y m = refl

pub days_of_months_last : (y : ℕ) → days_of_months y 11 + 31 ≡ days_in_year y
unfolding days_of_months
days_of_months_last y = grind arith

pub days_of_years_none : days_of_years 0 ≡ 0
unfolding days_of_years
days_of_years_none = refl

pub days_of_years_more : (y : ℕ) → days_of_years (suc y) ≡ days_of_years y + days_in_year (suc y)
unfolding days_of_years
days_of_years_more y = refl

-- ---- from the first of a month, of a year and of the calendar on

after_next : (n : ℕ) (x y : Date) → date_after n ≡ x → next_date x ≡ y → date_after (suc n) ≡ y
unfolding date_after
after_next n x y h k = ap next_date h ∙ k

in_month : (y m k n at : ℕ) → date_after n ≡ ymd y m 1 → k < days_in_month y m → at ≡ n + k → date_after at ≡ ymd y m (k + 1)
in_month y m zero n at h low e =
    let same : at ≡ n = omega arith in
    ap date_after same ∙ h
in_month y m (suc k) n at h low e =
    let next : at ≡ suc (n + k) = omega arith in
    let more : k + 1 + 1 ≡ suc k + 1 = omega arith in
    ap date_after next
    ∙ after_next (n + k) (ymd y m (k + 1)) (ymd y m (k + 1 + 1)) (in_month y m k n (n + k) h (omega arith) refl) (next_day y m (k + 1) (omega arith))
    ∙ ap (ymd y m) more

last_of_month : (y m n at : ℕ) → date_after n ≡ ymd y m 1 → at ≡ n + (days_in_month y m - 1) → date_after at ≡ ymd y m (days_in_month y m)
last_of_month y m n at h e =
    let long = days_in_month_bounds y m in
    let last : days_in_month y m - 1 + 1 ≡ days_in_month y m = omega arith in
    in_month y m (days_in_month y m - 1) n at h (omega arith) e ∙ ap (ymd y m) last

in_year : (y k n at : ℕ) → date_after n ≡ ymd y 1 1 → k < 12 → at ≡ n + days_of_months y k → date_after at ≡ ymd y (k + 1) 1
in_year y zero n at h low e =
    let same : at ≡ n = omega (arith, days_of_months_none y) in
    ap date_after same ∙ h
in_year y (suc k) n at h low e =
    let first : ℕ = n + days_of_months y k in
    let here : date_after first ≡ ymd y (k + 1) 1 = in_year y k n first h (omega arith) refl in
    let long = days_in_month_bounds y (k + 1) in
    let month : suc k ≡ k + 1 = omega arith in
    let sum : days_of_months y (suc k) ≡ days_of_months y k + days_in_month y (k + 1) = days_of_months_more y k ∙ ap (λ m. days_of_months y k + days_in_month y m) month in
    let last : ℕ = first + (days_in_month y (k + 1) - 1) in
    let next : at ≡ suc last = omega arith in
    let more : k + 1 + 1 ≡ suc k + 1 = omega arith in
    ap date_after next
    ∙ after_next last (ymd y (k + 1) (days_in_month y (k + 1))) (ymd y (k + 1 + 1) 1) (last_of_month y (k + 1) first last here refl) (next_month y (k + 1) (days_in_month y (k + 1)) (omega arith) (omega arith))
    ∙ ap (λ m. ymd y m 1) more

from_first : (k at : ℕ) → at ≡ days_of_years k → date_after at ≡ ymd (k + 1) 1 1
from_first zero at e =
    let same : at ≡ 0 = e ∙ days_of_years_none in
    ap date_after same ∙ unfold date_after in refl
from_first (suc k) at e =
    let first : ℕ = days_of_years k in
    let here : date_after first ≡ ymd (k + 1) 1 1 = from_first k first refl in
    let december : ℕ = first + days_of_months (k + 1) 11 in
    let there : date_after december ≡ ymd (k + 1) 12 1 = in_year (k + 1) 11 first december here (omega arith) refl in
    let year : suc k ≡ k + 1 = omega arith in
    let sum : days_of_years (suc k) ≡ days_of_years k + days_in_year (k + 1) = days_of_years_more k ∙ ap (λ y. days_of_years k + days_in_year y) year in
    let next : at ≡ suc (december + 30) = omega (arith, days_of_months_last (k + 1)) in
    let more : k + 1 + 1 ≡ suc k + 1 = omega arith in
    ap date_after next
    ∙ after_next (december + 30) (ymd (k + 1) 12 31) (ymd (k + 1 + 1) 1 1) (last_of_month (k + 1) 12 december (december + 30) there refl) (next_year (k + 1) 12 31 (omega arith) (omega arith))
    ∙ ap (λ y. ymd y 1 1) more

-- the date after as many days as lie before it is the date
pub counted_date_is_found : (date : Date) → IsDate date → date_after (days_before date) ≡ date
counted_date_is_found date is =
    let y : ℕ = date.year in
    let first : ℕ = days_of_years (y - 1) in
    let year : y - 1 + 1 ≡ y = omega (arith, is.from_year_one) in
    let january : date_after first ≡ ymd y 1 1 = from_first (y - 1) first refl ∙ ap (λ y. ymd y 1 1) year in
    let start : ℕ = first + days_of_months y (date.month - 1) in
    let month : date.month - 1 + 1 ≡ date.month = omega (arith, is.from_january) in
    let the_first : date_after start ≡ ymd y date.month 1 = in_year y (date.month - 1) first start january (omega (arith, is.from_january, is.to_december)) refl ∙ ap (λ m. ymd y m 1) month in
    let day : date.day - 1 + 1 ≡ date.day = omega (arith, is.from_the_first) in
    let at : days_before date ≡ start + (date.day - 1) = omega (arith, is.from_the_first) in
    in_month y date.month (date.day - 1) start (days_before date) the_first (omega (arith, is.from_the_first, is.to_the_last)) at ∙ ap (ymd y date.month) day

-- ---- what is found is counted

months_to : (y m : ℕ) → 1 ≤ m → days_of_months y m ≡ days_of_months y (m - 1) + days_in_month y m
months_to y zero h = absurd (omega arith)
months_to y (suc m) h =
    let same : suc m - 1 ≡ m = omega arith in
    days_of_months_more y m ∙ ap (λ k. days_of_months y k + days_in_month y (suc m)) (sym same)

years_to : (y : ℕ) → 1 ≤ y → days_of_years y ≡ days_of_years (y - 1) + days_in_year y
years_to zero h = absurd (omega arith)
years_to (suc y) h =
    let same : suc y - 1 ≡ y = omega arith in
    days_of_years_more y ∙ ap (λ k. days_of_years k + days_in_year (suc y)) (sym same)

-- a date of the calendar with so many days before it
abbrev pub IsCounted : ℕ → Date → Type 0
IsCounted n date = IsDate date × (days_before date ≡ n)

next_day_counted : (y m d n : ℕ) → d < days_in_month y m → IsCounted n (ymd y m d) → IsCounted (suc n) (ymd y m (d + 1))
next_day_counted y m d n h is = (
  record {
    from_year_one = is.0.from_year_one;
    from_january = is.0.from_january;
    to_december = is.0.to_december;
    from_the_first = omega arith;
    to_the_last = omega arith;
  },
  omega (arith, is.0.from_the_first, is.1),
)

next_month_counted : (y m d n : ℕ) → days_in_month y m ≤ d → m < 12 → IsCounted n (ymd y m d) → IsCounted (suc n) (ymd y (m + 1) 1)
next_month_counted y m d n h k is =
    let long = days_in_month_bounds y (m + 1) in
    let back : m + 1 - 1 ≡ m = omega arith in (
      record {
        from_year_one = is.0.from_year_one;
        from_january = omega arith;
        to_december = omega arith;
        from_the_first = omega arith;
        to_the_last = omega arith;
      },
      rw back (omega (arith, is.0.from_january, is.0.to_the_last, is.0.from_the_first, is.1, months_to y m is.0.from_january)),
    )

next_year_counted : (y m d n : ℕ) → days_in_month y m ≤ d → 12 ≤ m → IsCounted n (ymd y m d) → IsCounted (suc n) (ymd (y + 1) 1 1)
next_year_counted y m d n h k is =
    let long = days_in_month_bounds (y + 1) 1 in
    let december : m ≡ 12 = omega (arith, is.0.to_december) in
    let back : y + 1 - 1 ≡ y = omega arith in
    let before : days_of_years (y - 1) + (days_of_months y 11 + d - 1) ≡ n = subst (λ (m : ℕ). days_of_years (y - 1) + (days_of_months y (m - 1) + d - 1) ≡ n) december is.1 in
    let last : days_in_month y 12 ≤ d = subst (λ (m : ℕ). days_in_month y m ≤ d) december h in
    let to_the_last : d ≤ days_in_month y 12 = subst (λ (m : ℕ). d ≤ days_in_month y m) december is.0.to_the_last in (
      record {
        from_year_one = omega arith;
        from_january = omega arith;
        to_december = omega arith;
        from_the_first = omega arith;
        to_the_last = omega arith;
      },
      rw back (omega (arith, years_to y is.0.from_year_one, days_of_months_last y, days_of_months_none (y + 1))),
    )

next_counted : (date : Date) (n : ℕ) → IsCounted n date → IsCounted (suc n) (next_date date)
next_counted date n is =
    by (nat_lt date.day (days_in_month date.year date.month)) (nat_lt date.month 12) refl refl
  where
    by : (b c : Bool) → nat_lt date.day (days_in_month date.year date.month) ≡ b → nat_lt date.month 12 ≡ c → IsCounted (suc n) (next_date date)
    by true c e f =
        let h : date.day < days_in_month date.year date.month = ltb-true _ _ e in
        subst (IsCounted (suc n)) (sym (next_day date.year date.month date.day h)) (next_day_counted date.year date.month date.day n h is)
    by false true e f =
        let h : days_in_month date.year date.month ≤ date.day = ltb-false _ _ e in
        let k : date.month < 12 = ltb-true _ _ f in
        subst (IsCounted (suc n)) (sym (next_month date.year date.month date.day h k)) (next_month_counted date.year date.month date.day n h k is)
    by false false e f =
        let h : days_in_month date.year date.month ≤ date.day = ltb-false _ _ e in
        let k : 12 ≤ date.month = ltb-false _ _ f in
        subst (IsCounted (suc n)) (sym (next_year date.year date.month date.day h k)) (next_year_counted date.year date.month date.day n h k is)

pub found_date_is_counted : (n : ℕ) → IsCounted n (date_after n)
unfolding date_after
found_date_is_counted zero =
    let none : days_of_years 0 ≡ 0 = days_of_years_none in
    let months : days_of_months 1 0 ≡ 0 = days_of_months_none 1 in
    let long = days_in_month_bounds 1 1 in (
      record {
        from_year_one = omega arith;
        from_january = omega arith;
        to_december = omega arith;
        from_the_first = omega arith;
        to_the_last = omega arith;
      },
      omega arith,
    )
found_date_is_counted (suc n) = next_counted (date_after n) n (found_date_is_counted n)
