-- The spelling of a duration is read as that time.
use Rattle.std.proofs.Common.{◌≡◌, ℕ, suc, ◌<◌, ◌≤◌, refl, sym, subst, ap, ◌∙◌, arith, true, false, List, [], ◌∷◌, length, inl, ◌==◌, ◌||◌}
use Rattle.std.specs.Prelude.{ℤ, pos, negsuc, unsigned_abs, Ok}
use Rattle.std.proofs.lemmas.Bool.{cond-false, ne_eqb}
use Rattle.std.specs.Char.{is_ascii_digit}
use Rattle.ticks.specs.declared.Ms.{Ms}
use Rattle.ticks.specs.declared.unit.Unit.{Unit}
use Rattle.ticks.specs.Durations.{AreFalling, IsDuration, hundred_years, text_of}
use Rattle.ticks.specs.Spellings.{spelling}
use Rattle.ticks.specs.Written.{IsDuration-spelling}
use Rattle.xfrac.specs.Fractions.{with_sign}
use Rattle.frac_text.specs.Times.{IsTaken, amount_of, is_negative, time_answer}
use Rattle.frac_text.proofs.Numbers.{digit_range}
use Rattle.frac_text.proofs.Timed.{taken-time}

-- a duration begins with a digit, and so has no sign
record IsPlain (text : List ℕ) : Type 0 where
  pub positive : is_negative text ≡ false
  pub amount : amount_of text ≡ text

plain-digit : (c : ℕ) (rest : List ℕ) → is_ascii_digit c ≡ true → IsPlain (c ∷ rest)
plain-digit c rest digit =
    let range = digit_range c digit in
    let low : 48 ≤ c = range.0 in
    let minus : (c == 45) ≡ false = ne_eqb c 45 (λ e. omega arith) in
    let plus : (c == 43) ≡ false = ne_eqb c 43 (λ e. omega arith) in
    record { positive = minus; amount = cond-false _ _ _ (ap (λ b. b || c == 43) minus ∙ plus) }

plain-pairs : (longest : ℕ) (text : List ℕ) (pairs : List (List ℕ × Unit)) → 0 < length text → AreFalling longest pairs → text_of pairs ≡ text → IsPlain text
plain-pairs longest text [] some falling spelled = absurd (omega (arith, ap length spelled))
plain-pairs longest text (([], unit) ∷ pairs) some falling spelled = absurd (omega (arith, falling.0))
plain-pairs longest text ((c ∷ cs, unit) ∷ pairs) some falling spelled = subst IsPlain spelled (plain-digit c _ falling.1.0)

plain-duration : (text : List ℕ) (n : ℕ) → IsDuration text n → IsPlain text
plain-duration text n is = plain-pairs _ text is.spells.pairs is.some is.spells.falling is.spells.spelled

pub duration-time : (d : Ms) → unsigned_abs d.0 ≤ hundred_years → time_answer (spelling d.0) ≡ Ok d
duration-time d = by_sign d.0 refl
  where
    by_sign : (z : ℤ) → d.0 ≡ z → unsigned_abs z ≤ hundred_years → time_answer (spelling z) ≡ Ok d
    by_sign (pos n) same small =
        let is : IsDuration (spelling (pos n)) n = IsDuration-spelling n (omega arith) in
        let plain = plain-duration (spelling (pos n)) n is in
        taken-time (spelling (pos n)) d (
          n,
          subst (λ (a : List ℕ). IsTaken a n) (sym plain.amount) (inl (is, small)),
          same ∙ ap (λ b. with_sign b n) (sym plain.positive),
        )
    by_sign (negsuc n) same small =
        let is : IsDuration (spelling (pos (suc n))) (suc n) = IsDuration-spelling (suc n) (omega arith) in
        taken-time (spelling (negsuc n)) d (suc n, inl (is, small), same)
