-- What a text of a time answers, told by what it spells.
use Rattle.std.proofs.Common.{◌≡◌, ℕ, ◌*◌, ◌/◌, ◌%◌, ◌<◌, ◌≤◌, refl, sym, subst, ap, ◌∙◌, arith, Bool, true, false, cond, List, Some, None, inl, inr, ◌==◌, nat_lt}
use Rattle.std.specs.Prelude.{ℤ, pos, unsigned_abs, Option, Result, Ok, Err}
use Rattle.std.proofs.Math.Nat.{mul-div_cancel, mul-mod_left}
use Rattle.std.proofs.lemmas.Nat.{div-add-mod'}
use Rattle.std.proofs.lemmas.Bool.{cond-true, cond-false, eq-eqb, eqb-true, le-ltb, lt-ltb, ltb-false, ltb-true}
use Rattle.ticks.specs.declared.Ms.{Ms}
use Rattle.ticks.specs.declared.TickRefusal.{TickRefusal}
use Rattle.ticks.specs.declared.TickRefusal.TheVariants.{BadDuration as NoDuration, OutOfRange as TooLong}
use Rattle.ticks.specs.Durations.{IsDuration, duration_answer, duration_in, hundred_years, within_years}
use Rattle.ticks.specs.Summed.{duration_in-IsDuration, duration_in-none, IsDuration-duration_in}
use Rattle.xfrac.specs.Fractions.{with_sign}
use Rattle.xfrac.specs.declared.value.XFrac.{XFrac}
use Rattle.xfrac.specs.declared.value.XFrac.TheVariants.{Fin, PosInf, NegInf, NaN}
use Rattle.frac_text.specs.declared.refusal.NumberRefusal.{NumberRefusal}
use Rattle.frac_text.specs.declared.refusal.NumberRefusal.TheVariants.{BadNumber, LeadingZero, NumberRange}
use Rattle.frac_text.specs.declared.refusal.TimeRefusal.{TimeRefusal}
use Rattle.frac_text.specs.declared.refusal.TimeRefusal.TheVariants.{BadTime, OutOfRange}
use Rattle.frac_text.specs.Readings.{literal_answer}
use Rattle.frac_text.specs.Times.{IsBeyond, IsBounded, IsLate, IsMilliseconds, IsNoDuration, IsNoTime, IsSeconds, IsTaken, amount_answer, amount_of, duration_or_seconds, exact_quotient, is_negative, milliseconds_of, seconds_answer, signed, time_answer, time_limit, up_to, whole_answer}
use Rattle.frac_text.proofs.Bounds.{literal_bounded, no_seconds, seconds_of}

-- ---- by what reading a duration answers

abbrev answered : Bool → ℕ → Result Ms TickRefusal
answered b n = cond b (Err TooLong) (Ok (record { 0 = pos n }))

abbrev bounded : Bool → ℕ → Result ℕ TimeRefusal
bounded b n = cond b (Err OutOfRange) (Ok n)

abbrev taken : Ms → Result Ms TickRefusal
taken d = Ok d

same-time : (a b : Ms) → taken a ≡ taken b → a ≡ b
same-time a b is = cc is

taken-by : (text : List ℕ) (o : Option ℕ) (d : Ms) → within_years o ≡ Ok d → duration_or_seconds o text ≡ Ok (unsigned_abs d.0)
taken-by text None d is = absurd (cc is)
taken-by text (Some n) d is = by_limit (nat_lt hundred_years n) is
  where
    by_limit : (b : Bool) → answered b n ≡ Ok d → bounded b n ≡ Ok (unsigned_abs d.0)
    by_limit true e = absurd (cc e)
    by_limit false e =
        let same : d.0 ≡ pos n = ap (λ t. t.0) (sym (same-time (record { 0 = pos n }) d e)) in
        ap (λ (z : ℤ). Ok (unsigned_abs z)) (sym same)

none-by : (text : List ℕ) (o : Option ℕ) → within_years o ≡ Err NoDuration → duration_or_seconds o text ≡ seconds_answer (literal_answer text)
none-by text None is = refl
none-by text (Some n) is = by_limit (nat_lt hundred_years n) is
  where
    by_limit : (b : Bool) → answered b n ≡ Err NoDuration → bounded b n ≡ seconds_answer (literal_answer text)
    by_limit true e = absurd (cc e)
    by_limit false e = absurd (cc e)

long-by : (text : List ℕ) (o : Option ℕ) → within_years o ≡ Err TooLong → duration_or_seconds o text ≡ Err OutOfRange
long-by text None is = absurd (cc is)
long-by text (Some n) is = by_limit (nat_lt hundred_years n) is
  where
    by_limit : (b : Bool) → answered b n ≡ Err TooLong → bounded b n ≡ Err OutOfRange
    by_limit true e = refl
    by_limit false e = absurd (cc e)

pub amount-taken : (text : List ℕ) (d : Ms) → duration_answer text ≡ Ok d → amount_answer text ≡ Ok (unsigned_abs d.0)
unfolding amount_answer
amount-taken text d is = taken-by text (duration_in text) d is

pub amount-none : (text : List ℕ) → duration_answer text ≡ Err NoDuration → amount_answer text ≡ seconds_answer (literal_answer text)
unfolding amount_answer
amount-none text is = none-by text (duration_in text) is

pub amount-long : (text : List ℕ) → duration_answer text ≡ Err TooLong → amount_answer text ≡ Err OutOfRange
unfolding amount_answer
amount-long text is = long-by text (duration_in text) is

-- ---- seconds

quotient-found : (m d n : ℕ) → 0 < d → m ≡ n * d → exact_quotient m d ≡ Some n
quotient-found m d n some is =
    let left : m % d ≡ 0 = ap (λ k. k % d) is ∙ mul-mod_left n d in
    let whole : m / d ≡ n = ap (λ k. k / d) is ∙ mul-div_cancel n some in
    cond-true _ _ _ (eq-eqb (m % d) 0 left) ∙ ap (λ k. Some k) whole

quotient-exact : (m d n : ℕ) → exact_quotient m d ≡ Some n → m ≡ n * d
quotient-exact m d n is = by_rest (m % d == 0) refl is
  where
    by_rest : (b : Bool) → (m % d == 0) ≡ b → cond b (Some (m / d)) None ≡ Some n → m ≡ n * d
    by_rest true none e =
        let left : m % d ≡ 0 = eqb-true (m % d) 0 none in
        let whole : m / d ≡ n = cc e in
        let product : m / d * d ≡ n * d = ap (λ k. k * d) whole in
        omega (arith, div-add-mod' m d)
    by_rest false some e = absurd (cc e)

milliseconds-found : (v : XFrac) (n : ℕ) → IsBounded v → IsMilliseconds v n → milliseconds_of v ≡ Some n
milliseconds-found (Fin f) n bounds is = quotient-found (unsigned_abs f.0 * 1000) f.1 n bounds.1 is
milliseconds-found PosInf n bounds is = absurd is
milliseconds-found NegInf n bounds is = absurd is
milliseconds-found NaN n bounds is = absurd is

milliseconds-whole : (v : XFrac) (n : ℕ) → milliseconds_of v ≡ Some n → IsMilliseconds v n
milliseconds-whole (Fin f) n is = quotient-exact (unsigned_abs f.0 * 1000) f.1 n is
milliseconds-whole PosInf n is = absurd (cc is)
milliseconds-whole NegInf n is = absurd (cc is)
milliseconds-whole NaN n is = absurd (cc is)

up_to-taken : (most n m : ℕ) → up_to most n ≡ Ok m → (n ≡ m) × (n ≤ most)
up_to-taken most n m is = by_limit (nat_lt most n) refl is
  where
    by_limit : (b : Bool) → nat_lt most n ≡ b → bounded b n ≡ Ok m → (n ≡ m) × (n ≤ most)
    by_limit true over e = absurd (cc e)
    by_limit false under e = (cc e, ltb-false most n under)

up_to-beyond : (most n : ℕ) → up_to most n ≡ Err OutOfRange → most < n
up_to-beyond most n is = by_limit (nat_lt most n) refl is
  where
    by_limit : (b : Bool) → nat_lt most n ≡ b → bounded b n ≡ Err OutOfRange → most < n
    by_limit true over e = ltb-true most n over
    by_limit false under e = absurd (cc e)

up_to-good : (most n : ℕ) → up_to most n ≡ Err BadTime → ⊥
up_to-good most n is = by_limit (nat_lt most n) is
  where
    by_limit : (b : Bool) → bounded b n ≡ Err BadTime → ⊥
    by_limit true e = cc e
    by_limit false e = cc e

up_to-within : (most n : ℕ) → n ≤ most → up_to most n ≡ Ok n
up_to-within most n small = cond-false _ _ _ (le-ltb most n small)

up_to-over : (most n : ℕ) → most < n → up_to most n ≡ Err OutOfRange
up_to-over most n long = cond-true _ _ _ (lt-ltb most n long)

module _ (text : List ℕ) where
  seconds-of : (v : XFrac) (m n : ℕ) → literal_answer text ≡ Ok v → milliseconds_of v ≡ Some m → m ≡ n → IsSeconds text n
  seconds-of v m n reads found same = record { value = v; reads = reads; whole = subst (IsMilliseconds v) same (milliseconds-whole v m found) }

  found-of : (v : XFrac) (n : ℕ) → literal_answer text ≡ Ok v → IsSeconds text n → milliseconds_of v ≡ Some n
  found-of v n reads is = milliseconds-found v n (literal_bounded text v reads) (seconds_of text v n reads is)

  seconds-taken : (n : ℕ) → seconds_answer (literal_answer text) ≡ Ok n → IsSeconds text n × (n ≤ time_limit)
  seconds-taken n is = by_literal (literal_answer text) refl is
    where
      by_whole : (v : XFrac) (o : Option ℕ) → literal_answer text ≡ Ok v → milliseconds_of v ≡ o → whole_answer o ≡ Ok n → IsSeconds text n × (n ≤ time_limit)
      by_whole v None reads found e = absurd (cc e)
      by_whole v (Some m) reads found e =
          let up = up_to-taken time_limit m n e in
          let same : m ≡ n = up.0 in
          let small : m ≤ time_limit = up.1 in
          (seconds-of v m n reads found same, omega arith)

      by_literal : (r : Result XFrac NumberRefusal) → literal_answer text ≡ r → seconds_answer r ≡ Ok n → IsSeconds text n × (n ≤ time_limit)
      by_literal (Ok v) reads e = by_whole v (milliseconds_of v) reads refl e
      by_literal (Err NumberRange) reads e = absurd (cc e)
      by_literal (Err BadNumber) reads e = absurd (cc e)
      by_literal (Err LeadingZero) reads e = absurd (cc e)

  seconds-late : seconds_answer (literal_answer text) ≡ Err OutOfRange → IsLate text
  seconds-late is = by_literal (literal_answer text) refl is
    where
      by_whole : (v : XFrac) (o : Option ℕ) → literal_answer text ≡ Ok v → milliseconds_of v ≡ o → whole_answer o ≡ Err OutOfRange → IsLate text
      by_whole v None reads found e = absurd (cc e)
      by_whole v (Some m) reads found e = inl (m, seconds-of v m m reads found refl, up_to-beyond time_limit m e)

      by_literal : (r : Result XFrac NumberRefusal) → literal_answer text ≡ r → seconds_answer r ≡ Err OutOfRange → IsLate text
      by_literal (Ok v) reads e = by_whole v (milliseconds_of v) reads refl e
      by_literal (Err NumberRange) reads e = inr reads
      by_literal (Err BadNumber) reads e = absurd (cc e)
      by_literal (Err LeadingZero) reads e = absurd (cc e)

  seconds-bad : seconds_answer (literal_answer text) ≡ Err BadTime → ((n : ℕ) → IsSeconds text n → ⊥) × (literal_answer text ≡ Err NumberRange → ⊥)
  seconds-bad is = by_literal (literal_answer text) refl is
    where
      by_whole : (v : XFrac) (o : Option ℕ) → literal_answer text ≡ Ok v → milliseconds_of v ≡ o → whole_answer o ≡ Err BadTime → (n : ℕ) → IsSeconds text n → ⊥
      by_whole v None reads found e n is = let some = found-of v n reads is in cc (some, found)
      by_whole v (Some m) reads found e n is = up_to-good time_limit m e

      by_literal : (r : Result XFrac NumberRefusal) → literal_answer text ≡ r → seconds_answer r ≡ Err BadTime
          → ((n : ℕ) → IsSeconds text n → ⊥) × (literal_answer text ≡ Err NumberRange → ⊥)
      by_literal (Ok v) reads e = (by_whole v (milliseconds_of v) reads refl e, λ range. cc (range, reads))
      by_literal (Err NumberRange) reads e = absurd (cc e)
      by_literal (Err BadNumber) reads e = (λ n is. no_seconds text BadNumber n reads is, λ range. cc (range, reads))
      by_literal (Err LeadingZero) reads e = (λ n is. no_seconds text LeadingZero n reads is, λ range. cc (range, reads))

  taken-seconds : (n : ℕ) → IsSeconds text n → n ≤ time_limit → seconds_answer (literal_answer text) ≡ Ok n
  taken-seconds n is small =
      ap seconds_answer is.reads ∙ ap whole_answer (found-of is.value n is.reads is) ∙ up_to-within time_limit n small

  late-seconds : IsLate text → seconds_answer (literal_answer text) ≡ Err OutOfRange
  late-seconds (inl late) =
      ap seconds_answer late.1.reads ∙ ap whole_answer (found-of late.1.value late.0 late.1.reads late.1) ∙ up_to-over time_limit late.0 late.2
  late-seconds (inr range) = ap seconds_answer range

  bad-seconds : ((n : ℕ) → IsSeconds text n → ⊥) → (literal_answer text ≡ Err NumberRange → ⊥) → seconds_answer (literal_answer text) ≡ Err BadTime
  bad-seconds none some = by_answer (seconds_answer (literal_answer text)) refl
    where
      late : IsLate text → ⊥
      late (inl is) = none is.0 is.1
      late (inr range) = some range

      by_answer : (r : Result ℕ TimeRefusal) → seconds_answer (literal_answer text) ≡ r → r ≡ Err BadTime
      by_answer (Ok n) is = absurd (none n (seconds-taken n is).0)
      by_answer (Err BadTime) is = refl
      by_answer (Err OutOfRange) is = absurd (late (seconds-late is))

  -- ---- a time without its sign

  no-duration : duration_in text ≡ None → IsNoDuration text
  no-duration none n is = let some = IsDuration-duration_in text n is in cc (some, none)

  amount-IsTaken : (n : ℕ) → amount_answer text ≡ Ok n → IsTaken text n
  unfolding amount_answer
  amount-IsTaken n is = by_duration (duration_in text) refl is
    where
      by_duration : (o : Option ℕ) → duration_in text ≡ o → duration_or_seconds o text ≡ Ok n → IsTaken text n
      by_duration None found e = let seconds = seconds-taken n e in inr (no-duration found, seconds.0, seconds.1)
      by_duration (Some m) found e =
          let up = up_to-taken hundred_years m n e in
          let same : m ≡ n = up.0 in
          let small : m ≤ hundred_years = up.1 in
          inl (subst (IsDuration text) same (duration_in-IsDuration text m found), omega arith)

  amount-IsBeyond : amount_answer text ≡ Err OutOfRange → IsBeyond text
  unfolding amount_answer
  amount-IsBeyond is = by_duration (duration_in text) refl is
    where
      by_duration : (o : Option ℕ) → duration_in text ≡ o → duration_or_seconds o text ≡ Err OutOfRange → IsBeyond text
      by_duration None found e = inr (no-duration found, seconds-late e)
      by_duration (Some m) found e = inl (m, duration_in-IsDuration text m found, up_to-beyond hundred_years m e)

  amount-IsNoTime : amount_answer text ≡ Err BadTime → IsNoTime text
  unfolding amount_answer
  amount-IsNoTime is = by_duration (duration_in text) refl is
    where
      by_duration : (o : Option ℕ) → duration_in text ≡ o → duration_or_seconds o text ≡ Err BadTime → IsNoTime text
      by_duration None found e = let bad = seconds-bad e in (no-duration found, bad.0, bad.1)
      by_duration (Some m) found e = absurd (up_to-good hundred_years m e)

  found-amount : (n : ℕ) → IsDuration text n → amount_answer text ≡ up_to hundred_years n
  unfolding amount_answer
  found-amount n is = ap (λ o. duration_or_seconds o text) (IsDuration-duration_in text n is)

  none-amount : IsNoDuration text → amount_answer text ≡ seconds_answer (literal_answer text)
  unfolding amount_answer
  none-amount none = ap (λ o. duration_or_seconds o text) (duration_in-none text none)

  IsTaken-amount : (n : ℕ) → IsTaken text n → amount_answer text ≡ Ok n
  IsTaken-amount n (inl is) = found-amount n is.0 ∙ up_to-within hundred_years n is.1
  IsTaken-amount n (inr is) = none-amount is.0 ∙ taken-seconds n is.1 is.2

  IsBeyond-amount : IsBeyond text → amount_answer text ≡ Err OutOfRange
  IsBeyond-amount (inl is) = found-amount is.0 is.1 ∙ up_to-over hundred_years is.0 is.2
  IsBeyond-amount (inr is) = none-amount is.0 ∙ late-seconds is.1

  IsNoTime-amount : IsNoTime text → amount_answer text ≡ Err BadTime
  IsNoTime-amount is = none-amount is.0 ∙ bad-seconds is.1 is.2

-- ---- a time

abbrev at : ℤ → Ms
at t = record { 0 = t }

abbrev timed : Ms → Result Ms TimeRefusal
timed t = Ok t

same-Ok : (a b : Ms) → timed a ≡ timed b → a ≡ b
same-Ok a b is = cc is

signed-Ok : (negative : Bool) (r : Result ℕ TimeRefusal) (t : Ms) → signed negative r ≡ Ok t → (n : ℕ) × (r ≡ Ok n) × (t.0 ≡ with_sign negative n)
signed-Ok negative (Ok n) t is = (n, refl, ap (λ (s : Ms). s.0) (sym (same-Ok (at (with_sign negative n)) t is)))
signed-Ok negative (Err refusal) t is = absurd (cc is)

signed-Err : (negative : Bool) (r : Result ℕ TimeRefusal) (refusal : TimeRefusal) → signed negative r ≡ Err refusal → r ≡ Err refusal
signed-Err negative (Ok n) refusal is = absurd (cc is)
signed-Err negative (Err other) refusal is =
    let same : other ≡ refusal = cc is in
    ap (λ e. Err e) same

abbrev IsTimeOf : List ℕ → Ms → Type 0
IsTimeOf text t = (n : ℕ) × IsTaken (amount_of text) n × (t.0 ≡ with_sign (is_negative text) n)

pub time-taken : (text : List ℕ) (t : Ms) → time_answer text ≡ Ok t → IsTimeOf text t
time-taken text t is =
    let found = signed-Ok (is_negative text) (amount_answer (amount_of text)) t is in
    (found.0, amount-IsTaken (amount_of text) found.0 found.1, found.2)

pub taken-time : (text : List ℕ) (t : Ms) → IsTimeOf text t → time_answer text ≡ Ok t
taken-time text t is = ap (signed (is_negative text)) (IsTaken-amount (amount_of text) is.0 is.1) ∙ ap (λ (z : ℤ). Ok (at z)) (sym is.2)

pub time-beyond : (text : List ℕ) → time_answer text ≡ Err OutOfRange → IsBeyond (amount_of text)
time-beyond text is = amount-IsBeyond (amount_of text) (signed-Err (is_negative text) (amount_answer (amount_of text)) OutOfRange is)

pub beyond-time : (text : List ℕ) → IsBeyond (amount_of text) → time_answer text ≡ Err OutOfRange
beyond-time text is = ap (signed (is_negative text)) (IsBeyond-amount (amount_of text) is)

pub time-bad : (text : List ℕ) → time_answer text ≡ Err BadTime → IsNoTime (amount_of text)
time-bad text is = amount-IsNoTime (amount_of text) (signed-Err (is_negative text) (amount_answer (amount_of text)) BadTime is)

pub bad-time : (text : List ℕ) → IsNoTime (amount_of text) → time_answer text ≡ Err BadTime
bad-time text is = ap (signed (is_negative text)) (IsNoTime-amount (amount_of text) is)
