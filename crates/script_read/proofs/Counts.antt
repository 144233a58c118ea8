-- Counts, read from left to right.
use Rattle.std.proofs.Common.{◌≡◌, ◌<◌, ◌≤◌, ℕ, ◌+◌, ◌*◌, ◌^◌, Bool, List, length, take, get_or, true, false, not, cond, arith, refl, Ok, Err}
use Rattle.std.specs.Prelude.{◌&&◌}
use Rattle.std.specs.Char.{is_ascii_digit}
use Rattle.std.specs.List.{list_all}
use Rattle.std.specs.Str.Parse.{digits_value}
use Rattle.std.proofs.lemmas.Bool.{le-ltb}
use Rattle.std.proofs.lemmas.Bool.Decides.{nat_tests}
use Rattle.std.proofs.Math.Dec.{ltb}
use Rattle.std.proofs.lemmas.List.Folds.{list_all_more}
use Rattle.std.proofs.lemmas.Int.Digits.{digits_value_more}
use Rattle.std.proofs.lemmas.Str.{digit_value_digit}
use Rattle.std.proofs.lemmas.Str.Parse.{digits_value-take-le}
use Rattle.script_read.specs.Items.{count_spelled}
use Rattle.script_read.specs.Lines.{is_empty}
use Rattle.script_read.specs.declared.fault.LineFault.TheVariants.{Malformed}

pub digit_range : (c : ℕ) → is_ascii_digit c ≡ true → (48 ≤ c) × (c ≤ 57)
digit_range c h = grind (arith, nat_tests)

-- the first i bytes are digits, and this is their number, below 2^32
pub record HasCounted (text : List ℕ) (i count : ℕ) : Type 0 where
  pub all : list_all is_ascii_digit (take i text) ≡ true
  pub is : count ≡ digits_value 10 (take i text)
  pub few : count < 2 ^ 32

module _ (text : List ℕ) (i count : ℕ) (lt : i < length text) (digit : is_ascii_digit (get_or text i 0) ≡ true) (h : HasCounted text i count) where
  -- the number of one digit more
  counted_next : digits_value 10 (take (i + 1) text) + 48 ≡ count * 10 + get_or text i 0
  counted_next = omega (arith, digits_value_more 10 text i lt, h.is, digit_value_digit (get_or text i 0) (digit_range (get_or text i 0) digit))

  pub count_more : (next : ℕ) → next + 48 ≡ count * 10 + get_or text i 0 → next < 2 ^ 32 → HasCounted text (i + 1) next
  count_more next is few = record {
    all = rw (list_all_more is_ascii_digit text i 0 lt, h.all) digit;
    is = omega (arith, counted_next);
    few = few;
  }

  -- what is refused where the last of three tests fails
  last_fails : (a b c : Bool) (n : ℕ) → c ≡ false → Err Malformed ≡ cond (a && (b && c)) (Ok n) (Err Malformed)
  last_fails true true c n fails = rw fails refl
  last_fails true false c n fails = refl
  last_fails false b c n fails = refl

  -- the number is too large, whatever stands behind these digits
  pub count_past : 2 ^ 32 + 48 ≤ count * 10 + get_or text i 0 → Err Malformed ≡ count_spelled text
  count_past many =
      let past : 2 ^ 32 ≤ digits_value 10 text = omega (arith, counted_next, digits_value-take-le 10 text (i + 1) (omega arith)) in
      last_fails (not (is_empty text)) (list_all is_ascii_digit text) (ltb (digits_value 10 text) (2 ^ 32)) (digits_value 10 text) (le-ltb (digits_value 10 text) (2 ^ 32) past)
