-- What reading a decimal number answers.
use Rattle.std.proofs.Common.{◌≡◌, ℕ, ◌≤◌, sym, subst, ap, ◌∙◌, arith, Bool, true, false, cond, List, [], ◌∷◌, ◌++◌, length, Some, None}
use Rattle.std.specs.Prelude.{Option}
use Rattle.std.proofs.lemmas.Bool.{cond-true}
use Rattle.std.specs.Char.{is_ascii_digit}
use Rattle.xfrac.specs.declared.value.XFrac.{XFrac}
use Rattle.frac_text.specs.declared.decimal.Exponent.{Exponent}
use Rattle.frac_text.specs.Capped.{IsCapped, IsPower}
use Rattle.frac_text.specs.Decimals.{Power, are_digits, decimal_from, decimal_of, ending_of, exponent_of, fraction_of, scaled}
use Rattle.frac_text.specs.Digits.{front, back, digits_in, number}
use Rattle.frac_text.specs.Readings.{judged, decimal_answer}

pub digits_few : (text : List ℕ) → length (digits_in text) ≤ length text
digits_few [] = omega arith
digits_few (c ∷ text) = by_digit (is_ascii_digit c) (digits_few text)
  where
    by_digit : (b : Bool) → length (digits_in text) ≤ length text → length (cond b (c ∷ digits_in text) (digits_in text)) ≤ length (c ∷ text)
    by_digit true few = omega arith
    by_digit false few = omega arith

by_power : (w f digits : List ℕ) (places : ℕ) (p : Option Power) (exponent : Exponent) (v : Option XFrac) (lead : Bool) → digits_in digits ≡ digits_in w ++ digits_in f → places ≡ length (digits_in f) → IsPower p (Some exponent)
    → ((size : ℕ) → IsCapped size exponent.size → v ≡ scaled (number (digits_in digits)) places exponent.negative size) → judged lead v ≡ decimal_answer lead (decimal_from w f p)
by_power w f digits places None exponent v lead same short is found = absurd is
by_power w f digits places (Some q) exponent v lead same short is found =
    ap (λ x. judged lead x)
    (found q.size is.1 ∙ ap (λ ds. scaled (number ds) places exponent.negative q.size) same ∙ ap (λ n. scaled (number (digits_in w ++ digits_in f)) n exponent.negative q.size) short
    ∙ ap (λ b. scaled (number (digits_in w ++ digits_in f)) (length (digits_in f)) b q.size) is.0)

pub decimal_found : (grouped : Bool) (text whole rest fraction ending digits : List ℕ) (places : ℕ) (exponent : Exponent) (v : Option XFrac) (lead : Bool) → whole ≡ front grouped text → rest ≡ back grouped text
    → fraction ≡ fraction_of grouped rest → ending ≡ ending_of grouped rest → are_digits whole fraction ≡ true → digits_in digits ≡ digits_in (front grouped text) ++ digits_in (fraction_of grouped (back grouped text))
    → places ≡ length (digits_in fraction) → IsPower (exponent_of grouped ending) (Some exponent) → ((size : ℕ) → IsCapped size exponent.size → v ≡ scaled (number (digits_in digits)) places exponent.negative size)
    → judged lead v ≡ decimal_answer lead (decimal_of grouped text)
decimal_found grouped text whole rest fraction ending digits places exponent v lead w r f e are same short is found =
    let f' : fraction ≡ fraction_of grouped (back grouped text) = f ∙ ap (fraction_of grouped) r in
    let e' : ending ≡ ending_of grouped (back grouped text) = e ∙ ap (ending_of grouped) r in
    let are' : are_digits (front grouped text) (fraction_of grouped (back grouped text)) ≡ true = sym (ap (λ x. are_digits x fraction) w ∙ ap (λ y. are_digits (front grouped text) y) f') ∙ are in
    let is' : IsPower (exponent_of grouped (ending_of grouped (back grouped text))) (Some exponent) = subst (λ x. IsPower (exponent_of grouped x) (Some exponent)) e' is in
    by_power (front grouped text) (fraction_of grouped (back grouped text)) digits places (exponent_of grouped (ending_of grouped (back grouped text))) exponent v lead same (short ∙ ap (λ x. length (digits_in x)) f') is' found
    ∙ ap (decimal_answer lead) (sym (cond-true _ _ _ are'))
