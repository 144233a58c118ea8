-- The spelling that is written is that of a duration of as many milliseconds.
use Rattle.std.proofs.Common.{◌≡◌, ℕ, zero, suc, ◌+◌, ◌*◌, ◌/◌, ◌%◌, ◌^◌, ◌<◌, ◌≤◌, Bool, true, false, nat_lt, List, [], ◌∷◌, ◌++◌, length, pos, decimal, codes, refl, sym, ap, subst, ◌∙◌, arith, append_assoc, length-append}
use Rattle.std.specs.Prelude.{if◌then◌else◌, ⊤}
use borrow.Author.Tests.{ltb-true}
use Rattle.std.proofs.lemmas.Fmt.{decimal_is_IsNumeral, decimal_nonempty}
use Rattle.std.proofs.lemmas.Str.Parse.{digit_from_value}
use Rattle.std.specs.Str.Parse.{AllDigits}
use Rattle.ticks.specs.declared.unit.Unit.{Unit}
use Rattle.ticks.specs.declared.unit.Unit.TheVariants.{Year, Week, Day, Hour, Minute, Second, Millisecond}
use Rattle.ticks.specs.Durations.{AreDigits, AreFalling, IsDuration, number, text_of, total}
use Rattle.ticks.specs.Spellings.{part, parts, spelling}
use Rattle.ticks.specs.Units.{milliseconds_in, name_of, units}

AreDigits-all : (digits : List ℕ) → AllDigits 10 digits → AreDigits digits
AreDigits-all [] all = tt
AreDigits-all (c ∷ cs) all = let range = digit_from_value c all.0 in (grind (arith, range), AreDigits-all cs all.1)

-- the pairs that are written, and what is left after them
abbrev pair_in : Bool → Unit → ℕ → List (List ℕ × Unit) → List (List ℕ × Unit)
pair_in true unit n rest = rest
pair_in false unit n rest = (decimal (n / milliseconds_in unit), unit) ∷ rest

abbrev pairs_in : List Unit → ℕ → List (List ℕ × Unit)
pairs_in [] n = []
pairs_in (unit ∷ shorter) n = pair_in (nat_lt n (milliseconds_in unit)) unit n (pairs_in shorter (n % milliseconds_in unit))

abbrev left_of : List Unit → ℕ → ℕ
left_of [] n = n
left_of (unit ∷ shorter) n = left_of shorter (n % milliseconds_in unit)

text_of-pair_in : (b : Bool) (unit : Unit) (n : ℕ) (rest : List (List ℕ × Unit)) → text_of (pair_in b unit n rest) ≡ (if b then [] else decimal (n / milliseconds_in unit) ++ name_of unit) ++ text_of rest
text_of-pair_in true unit n rest = refl
text_of-pair_in false unit n rest = sym (append_assoc (decimal (n / milliseconds_in unit)) (name_of unit) (text_of rest))

text_of-pairs_in : (longest_first : List Unit) (n : ℕ) → text_of (pairs_in longest_first n) ≡ parts longest_first n
text_of-pairs_in [] n = refl
text_of-pairs_in (unit ∷ shorter) n =
    text_of-pair_in (nat_lt n (milliseconds_in unit)) unit n (pairs_in shorter (n % milliseconds_in unit))
    ∙ ap (λ (l : List ℕ). part unit n ++ l) (text_of-pairs_in shorter (n % milliseconds_in unit))

-- a number, cut by a unit
record Cut (length n : ℕ) : Type 0 where
  whole : (n / length) * length + n % length ≡ n
  under : n < length → n % length ≡ n
  count : n / length ≤ n
  rest : n % length ≤ n

cut : (unit : Unit) (n : ℕ) → Cut (milliseconds_in unit) n
cut Year n = record { whole = omega arith; under = λ h. omega arith; count = omega arith; rest = omega arith }
cut Week n = record { whole = omega arith; under = λ h. omega arith; count = omega arith; rest = omega arith }
cut Day n = record { whole = omega arith; under = λ h. omega arith; count = omega arith; rest = omega arith }
cut Hour n = record { whole = omega arith; under = λ h. omega arith; count = omega arith; rest = omega arith }
cut Minute n = record { whole = omega arith; under = λ h. omega arith; count = omega arith; rest = omega arith }
cut Second n = record { whole = omega arith; under = λ h. omega arith; count = omega arith; rest = omega arith }
cut Millisecond n = record { whole = omega arith; under = λ h. omega arith; count = omega arith; rest = omega arith }

total_left : (longest_first : List Unit) (n : ℕ) → n < 2 ^ 64 → total (pairs_in longest_first n) + left_of longest_first n ≡ n
total_left [] n small = omega arith
total_left (unit ∷ shorter) n small =
    each (nat_lt n (milliseconds_in unit)) refl (cut unit n) (total_left shorter (n % milliseconds_in unit) (omega (arith, (cut unit n).rest))) where
      each : (b : Bool) → nat_lt n (milliseconds_in unit) ≡ b → Cut (milliseconds_in unit) n
          → total (pairs_in shorter (n % milliseconds_in unit)) + left_of shorter (n % milliseconds_in unit) ≡ n % milliseconds_in unit
          → total (pair_in b unit n (pairs_in shorter (n % milliseconds_in unit))) + left_of shorter (n % milliseconds_in unit) ≡ n
      each true is parted later =
          let below : n < milliseconds_in unit = ltb-true n (milliseconds_in unit) is in
          omega (arith, parted.under below, later)
      each false is parted later =
          let counted : number (decimal (n / milliseconds_in unit)) ≡ n / milliseconds_in unit = (decimal_is_IsNumeral (n / milliseconds_in unit) (omega (arith, parted.count))).1 in
          omega (arith, ap (λ (k : ℕ). k * milliseconds_in unit) counted, parted.whole, later)

pub AreFalling-longer : (length longest : ℕ) (pairs : List (List ℕ × Unit)) → length < longest → AreFalling length pairs → AreFalling longest pairs
AreFalling-longer length longest [] less falling = tt
AreFalling-longer length longest (pair ∷ pairs) less falling = (falling.0, falling.1, omega (arith, falling.2), falling.3)

-- each unit is shorter than the one before it
abbrev pub Descend : ℕ → List Unit → Type 0
Descend longest [] = ⊤
Descend longest (unit ∷ shorter) = (milliseconds_in unit < longest) × Descend (milliseconds_in unit) shorter

pub units-descend : Descend (milliseconds_in Year + 1) units
units-descend = (omega arith, (omega arith, (omega arith, (omega arith, (omega arith, (omega arith, (omega arith, tt)))))))

falling_pairs : (longest_first : List Unit) (longest n : ℕ) → n < 2 ^ 64 → Descend longest longest_first → AreFalling longest (pairs_in longest_first n)
falling_pairs [] longest n small descend = tt
falling_pairs (unit ∷ shorter) longest n small descend =
    each (nat_lt n (milliseconds_in unit)) refl (cut unit n)
    (falling_pairs shorter (milliseconds_in unit) (n % milliseconds_in unit) (omega (arith, (cut unit n).rest)) descend.1) where
      each : (b : Bool) → nat_lt n (milliseconds_in unit) ≡ b → Cut (milliseconds_in unit) n
          → AreFalling (milliseconds_in unit) (pairs_in shorter (n % milliseconds_in unit))
          → AreFalling longest (pair_in b unit n (pairs_in shorter (n % milliseconds_in unit)))
      each true is parted later = AreFalling-longer (milliseconds_in unit) longest (pairs_in shorter (n % milliseconds_in unit)) descend.0 later
      each false is parted later =
          let few : n / milliseconds_in unit < 2 ^ 64 = omega (arith, parted.count) in
          (decimal_nonempty (n / milliseconds_in unit) few, AreDigits-all (decimal (n / milliseconds_in unit)) (decimal_is_IsNumeral (n / milliseconds_in unit) few).0.1, descend.0, later)

some_text : (longest n : ℕ) (pairs : List (List ℕ × Unit)) → AreFalling longest pairs → total pairs ≡ n → 0 < n → 0 < length (text_of pairs)
some_text longest n [] falling amount some = absurd (omega (arith, amount))
some_text longest n ((digits, unit) ∷ pairs) falling amount some = omega (arith, falling.0, length-append digits (name_of unit ++ text_of pairs))

written : (n : ℕ) → 0 < n → n < 2 ^ 64 → IsDuration (parts units n) n
written n some small =
    let amount : total (pairs_in units n) ≡ n = omega (arith, total_left units n small) in
    let falling : AreFalling (milliseconds_in Year + 1) (pairs_in units n) = falling_pairs units (milliseconds_in Year + 1) n small units-descend in
    record {
      some = subst (λ (l : List ℕ). 0 < length l) (text_of-pairs_in units n) (some_text (milliseconds_in Year + 1) n (pairs_in units n) falling amount some);
      spells = record { pairs = pairs_in units n; falling = falling; spelled = text_of-pairs_in units n; amount = amount };
    }

-- what is written is read as the same
pub IsDuration-spelling : (n : ℕ) → n < 2 ^ 63 → IsDuration (spelling (pos n)) n
IsDuration-spelling zero small = record {
  some = omega arith;
  spells = record { pairs = (codes "0", Second) ∷ []; falling = (omega arith, (refl, tt), omega arith, tt); spelled = refl; amount = refl };
}
IsDuration-spelling (suc n) small = written (suc n) (omega arith) (omega arith)
