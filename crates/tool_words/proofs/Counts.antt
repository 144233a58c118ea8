-- Counts, read from left to right.
use Rattle.std.proofs.Common.{leb, not, ap, sym, ◌∙◌, ◌^◌, ◌==◌, [], ◌∷◌, ◌≡◌, ◌<◌, ◌≤◌, ℕ, ◌+◌, ◌*◌, Bool, List, length, take, get_or, true, false, cond, arith, refl}
use Rattle.std.specs.Prelude.{◌&&◌, decimal}
use Rattle.std.specs.Char.{is_ascii_digit}
use Rattle.std.specs.List.{list_all}
use Rattle.std.specs.Str.Parse.{digits_value}
use Rattle.std.proofs.lemmas.Bool.{and_parts, le-leb, leb-true, lt-leb}
use Rattle.std.proofs.lemmas.Bool.Decides.{nat_tests}
use Rattle.std.proofs.lemmas.List.Folds.{list_all_more}
use Rattle.std.proofs.lemmas.Int.Digits.{digits_value_more}
use Rattle.std.proofs.lemmas.Str.{digit_value_digit}
use Rattle.std.proofs.lemmas.Fmt.{decimal-digits_value, digits_decimal, digits_value-decimal, first_decimal}
use Rattle.std.specs.Str.{all_ascii_digits}
use Rattle.std.proofs.lemmas.Str.Parse.{IsNumeralModel, digits_value-take-le, numerals_by_value, tells_all_ascii_digits}
use Rattle.std.specs.Prelude.{IfSome, None, Some}
use Rattle.tool_words.specs.Asked.{has_no_zero, number_of}

pub digit_range : (c : ℕ) → is_ascii_digit c ≡ true → (48 ≤ c) × (c ≤ 57)
digit_range c h = grind (arith, nat_tests)

-- the first i bytes are digits, and this is their number, at most `most`
pub record HasCounted (most : ℕ) (text : List ℕ) (i count : ℕ) : Type 0 where
  pub all : list_all is_ascii_digit (take i text) ≡ true
  pub is : count ≡ digits_value 10 (take i text)
  pub few : count ≤ most

module _ (most : ℕ) (text : List ℕ) (i count : ℕ) (lt : i < length text) (digit : is_ascii_digit (get_or text i 0) ≡ true) (h : HasCounted most text i count) where
  -- the number of one digit more
  counted_next : digits_value 10 (take (i + 1) text) + 48 ≡ count * 10 + get_or text i 0
  counted_next = omega (arith, digits_value_more 10 text i lt, h.is, digit_value_digit (get_or text i 0) (digit_range (get_or text i 0) digit))

  pub count_more : (next : ℕ) → next + 48 ≡ count * 10 + get_or text i 0 → next ≤ most → HasCounted most text (i + 1) next
  count_more next is few = record {
    all = rw (list_all_more is_ascii_digit text i 0 lt, h.all) digit;
    is = omega (arith, counted_next);
    few = few;
  }

  -- the number is too large, whatever stands behind these digits
  pub count_past : most + 49 ≤ count * 10 + get_or text i 0 → None ≡ number_of most text
  count_past many =
      let past : most < digits_value 10 text = omega (arith, counted_next, digits_value-take-le 10 text (i + 1) (omega arith)) in
      go (has_no_zero text) (list_all is_ascii_digit text) (lt-leb (digits_value 10 text) most past)
    where
      go : (a b : Bool) → leb (digits_value 10 text) most ≡ false → None ≡ cond (a && (b && leb (digits_value 10 text) most)) (Some (digits_value 10 text)) None
      go true true e = rw e refl
      go true false e = refl
      go false b e = refl

-- ---- a number without a leading zero is not 0

above_zero : (c : ℕ) → not (c == 48) ≡ true → is_ascii_digit c ≡ true → 49 ≤ c
above_zero c first digit = grind (arith, nat_tests)

positive : (text : List ℕ) → has_no_zero text ≡ true → list_all is_ascii_digit text ≡ true → 0 < digits_value 10 text
positive [] first digits = absurd (cc)
positive (c ∷ cs) first digits =
    let digit : is_ascii_digit c ≡ true = (and_parts (is_ascii_digit c) (list_all is_ascii_digit cs) digits).0 in
    let above = above_zero c first digit in
    omega (arith, digits_value_more 10 (c ∷ cs) 0 (omega arith), digits_value-take-le 10 (c ∷ cs) 1 (omega arith), digit_value_digit c (digit_range c digit))

counted_by : (most : ℕ) (text : List ℕ) (a b c : Bool) → has_no_zero text ≡ a → list_all is_ascii_digit text ≡ b → leb (digits_value 10 text) most ≡ c
    → IfSome (cond (a && (b && c)) (Some (digits_value 10 text)) None) (λ n. (0 < n) × (n ≤ most))
counted_by most text true true true first digits few = (positive text first digits, leb-true (digits_value 10 text) most few)
counted_by most text true true false first digits few = tt
counted_by most text true false c first digits few = tt
counted_by most text false b c first digits few = tt

pub number_counted : (most : ℕ) (text : List ℕ) → IfSome (number_of most text) (λ n. (0 < n) × (n ≤ most))
number_counted most text = counted_by most text (has_no_zero text) (list_all is_ascii_digit text) (leb (digits_value 10 text) most) refl refl refl

-- ---- a number is spelled in one way

numerals : IsNumeralModel (λ (ds : List ℕ). all_ascii_digits ds ≡ true) (digits_value 10)
numerals = numerals_by_value (λ (ds : List ℕ). all_ascii_digits ds ≡ true) tells_all_ascii_digits

no_zero_first : (text : List ℕ) → has_no_zero text ≡ true → (0 < length text) × (get_or text 0 0 ≡ 48 → length text ≡ 1)
no_zero_first [] first = absurd (cc)
no_zero_first (c ∷ cs) first = (omega arith, λ zero. absurd (grind (arith, nat_tests)))

pub number_is : (most : ℕ) (text : List ℕ) (n : ℕ) → most < 2 ^ 64 → number_of most text ≡ Some n → text ≡ decimal n
number_is most text n small is = go (has_no_zero text) (list_all is_ascii_digit text) (leb (digits_value 10 text) most) refl refl refl is
  where
    go : (a b d : Bool) → has_no_zero text ≡ a → list_all is_ascii_digit text ≡ b → leb (digits_value 10 text) most ≡ d → cond (a && (b && d)) (Some (digits_value 10 text)) None ≡ Some n → text ≡ decimal n
    go true true true first digits few is =
        let value : digits_value 10 text ≡ n = cc in
        let front = no_zero_first text first in
        let small_too = leb-true (digits_value 10 text) most few in
        sym (decimal-digits_value numerals text digits front.0 front.1 (omega arith)) ∙ ap decimal value
    go true true false first digits few is = absurd (cc)
    go true false d first digits few is = absurd (cc)
    go false b d first digits few is = absurd (cc)

decimal_no_zero : (text : List ℕ) → 48 < get_or text 0 0 → has_no_zero text ≡ true
decimal_no_zero [] first = absurd (omega (arith, first))
decimal_no_zero (c ∷ cs) first = grind (arith, nat_tests)

pub spelled_number : (most n : ℕ) → 0 < n → n ≤ most → most < 2 ^ 64 → number_of most (decimal n) ≡ Some n
spelled_number most n some few small =
    let wide : n < 2 ^ 64 = omega arith in
    let value = digits_value-decimal numerals n wide in
    let digits : list_all is_ascii_digit (decimal n) ≡ true = digits_decimal numerals n wide in
    rw (decimal_no_zero (decimal n) (first_decimal n some wide), digits, value, le-leb n most few) refl
