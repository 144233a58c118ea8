-- Which texts spell a number, and which number: PromQL's literals and the numbers of the promqltest format, rule by rule.
-- (The limits are this project's own.)
use Rattle.std.specs.Prelude.{◌≡◌, ℕ, ◌<◌, pos, ◌⊎◌, Bool, true, false, IsTrue, List, [], ◌∷◌, ◌++◌, length, map, codes, Some}
use Rattle.std.specs.Char.{to_ascii_lowercase}
use Rattle.std.specs.Str.Parse.{digits_value}
use Rattle.frac_text.specs.declared.digits.Base.{Base}
use Rattle.frac_text.specs.declared.digits.Base.TheVariants.{Ten, Sixteen}
use Rattle.frac_text.specs.Decimals.{Decimal, Power, value_of}
use Rattle.frac_text.specs.Digits.{is_digit, number}
use Rattle.xfrac.specs.Forming.{formed, negated}
use Rattle.xfrac.specs.declared.value.XFrac.{XFrac}
use Rattle.xfrac.specs.declared.value.XFrac.TheVariants.{PosInf, NaN}

-- a run of digits, where grouped with single underscores between two of them, and the digits that it has
pub data IsRun (base : Base) (grouped : Bool) : List ℕ → List ℕ → Type 0 where
  last : (c : ℕ) → IsTrue (is_digit base c) → IsRun base grouped (c ∷ []) (c ∷ [])
  next : (c : ℕ) (run digits : List ℕ) → IsTrue (is_digit base c) → IsRun base grouped run digits → IsRun base grouped (c ∷ run) (c ∷ digits)
  parted : (c : ℕ) (run digits : List ℕ) → IsTrue grouped → IsTrue (is_digit base c) → IsRun base grouped run digits → IsRun base grouped (c ∷ (95 ∷ run)) (c ∷ digits)

-- nothing, or a run
abbrev pub IsOptionalRun : Bool → List ℕ → List ℕ → Type 0
IsOptionalRun grouped run digits = ((run ≡ []) × (digits ≡ [])) ⊎ IsRun Ten grouped run digits

-- before an ending stands nothing, or a point and an optional run
abbrev pub IsFraction : Bool → List ℕ → List ℕ → List ℕ → Type 0
IsFraction grouped text ending digits = ((text ≡ ending) × (digits ≡ [])) ⊎ ((run : List ℕ) × (text ≡ 46 ∷ (run ++ ending)) × IsOptionalRun grouped run digits)

-- `e` or `E`
abbrev pub IsMark : ℕ → Type 0
IsMark c = (c ≡ 101) ⊎ (c ≡ 69)

-- no exponent, which is 0, or a mark, an optional sign and a run
pub data IsExponent (grouped : Bool) : List ℕ → Power → Type 0 where
  absent : IsExponent grouped [] (record { negative = false; size = 0 })
  unsigned : (c : ℕ) (run digits : List ℕ) → IsMark c → IsRun Ten grouped run digits → IsExponent grouped (c ∷ run) (record { negative = false; size = number digits })
  plus : (c : ℕ) (run digits : List ℕ) → IsMark c → IsRun Ten grouped run digits → IsExponent grouped (c ∷ (43 ∷ run)) (record { negative = false; size = number digits })
  minus : (c : ℕ) (run digits : List ℕ) → IsMark c → IsRun Ten grouped run digits → IsExponent grouped (c ∷ (45 ∷ run)) (record { negative = true; size = number digits })

-- digits with an optional point, on at least one side of it, and an exponent
pub record IsDecimal (grouped : Bool) (text : List ℕ) (d : Decimal) : Type 0 where
  pub whole : List ℕ
  pub rest : List ℕ
  pub ending : List ℕ
  pub before : List ℕ
  pub after : List ℕ
  pub spelled : text ≡ whole ++ rest
  pub left : IsOptionalRun grouped whole before
  pub right : IsFraction grouped rest ending after
  pub some : 0 < length (before ++ after)
  pub digits : d.digits ≡ before ++ after
  pub places : d.places ≡ length after
  pub exponent : IsExponent grouped ending d.exponent

-- digits alone, more than one, and the first is 0
abbrev pub IsZeroLed : Bool → List ℕ → Type 0
IsZeroLed grouped text = (digits : List ℕ) × IsRun Ten grouped text (48 ∷ digits) × (0 < length digits)

-- a decimal number whose value is within the limits, and not digits alone behind a needless 0
abbrev pub IsDecimalOf : Bool → List ℕ → XFrac → Type 0
IsDecimalOf grouped text v = (IsZeroLed grouped text → ⊥) × ((d : Decimal) × IsDecimal grouped text d × (value_of d ≡ Some v))

-- the word, in any case
abbrev pub IsInAnyCase : List ℕ → List ℕ → Type 0
IsInAnyCase word text = map to_ascii_lowercase text ≡ word

-- a number without a sign: `Inf` or `NaN` in any case, or a decimal number
abbrev pub IsUnsignedNumber : Bool → List ℕ → XFrac → Type 0
IsUnsignedNumber grouped text v =
    (IsInAnyCase (codes "inf") text × (v ≡ PosInf)) ⊎ ((IsInAnyCase (codes "nan") text × (v ≡ NaN)) ⊎ IsDecimalOf grouped text v)

-- `0x` or `0X`, at most one underscore and a run of hexadecimal digits, within the limits
pub record IsHexadecimal (text : List ℕ) (v : XFrac) : Type 0 where
  pub mark : ℕ
  pub run : List ℕ
  pub digits : List ℕ
  pub marked : (mark ≡ 120) ⊎ (mark ≡ 88)
  pub spelled : (text ≡ 48 ∷ (mark ∷ run)) ⊎ (text ≡ 48 ∷ (mark ∷ (95 ∷ run)))
  pub reads : IsRun Sixteen true run digits
  pub value : formed (pos (digits_value 16 digits)) 1 ≡ Some v

-- the text is a PromQL literal of this number
abbrev pub IsLiteral : List ℕ → XFrac → Type 0
IsLiteral text v = IsHexadecimal text v ⊎ IsUnsignedNumber true text v

-- the text is a script's number, of an optional sign and a number without underscores
abbrev pub IsScriptNumber : List ℕ → XFrac → Type 0
IsScriptNumber text v =
    IsUnsignedNumber false text v ⊎ (((rest : List ℕ) × (text ≡ 43 ∷ rest) × IsUnsignedNumber false rest v) ⊎ ((rest : List ℕ) × (w : XFrac) × (text ≡ 45 ∷ rest) × IsUnsignedNumber false rest w × (v ≡ negated w)))
