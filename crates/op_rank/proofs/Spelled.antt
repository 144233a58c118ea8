-- The spelling of a number is ASCII.
use Rattle.std.proofs.Common.{◌≡◌, ℕ, zero, suc, ◌+◌, ◌*◌, ◌/◌, ◌%◌, ◌<◌, ◌≤◌, Bool, true, false, cond, List, [], ◌∷◌, ◌++◌, sym, subst, arith}
use Rattle.std.specs.Prelude.{ℤ, pos, negsuc, ◌==◌, codes, decimal, unsigned_abs}
use Rattle.std.specs.Str.{IsAscii, IsUtf8}
use Rattle.std.proofs.Math.Nat.{div-le_self, div-lt_iff_lt-mul, mod-lt}
use Rattle.std.proofs.lemmas.Fmt.{IsAscii-decimal_wide}
use Rattle.std.proofs.lemmas.Str.{IsAscii-append, IsUtf8-from_ascii}
use Rattle.std.proofs.lemmas.Str.Ascii.{IsAscii-cons, IsAscii-nil}
use Rattle.frac_text.specs.Spellings.{ends, magnitude_text, places, sign, spelling, tail}
use Rattle.xfrac.specs.Fractions.{limit}
use Rattle.xfrac.specs.Laws.{IsNumber}
use Rattle.xfrac.specs.declared.value.XFrac.{XFrac}
use Rattle.xfrac.specs.declared.value.XFrac.TheVariants.{Fin, PosInf, NegInf, NaN}

one_byte : (b : ℕ) → b < 128 → IsAscii (b ∷ [])
one_byte b l = IsAscii-cons b [] l IsAscii-nil

digit_small : (r d : ℕ) → r < d → 48 + r * 10 / d < 128
digit_small r d l =
    let positive : 0 < d = omega arith in
    let product : r * 10 < 10 * d = omega arith in
    let small : r * 10 / d < 10 = (div-lt_iff_lt-mul positive).1 product in
    omega arith

places_ascii : (more r d : ℕ) → r < d → IsAscii (places more r d)
unfolding places
places_ascii zero r d l = IsAscii-nil
places_ascii (suc more) r d l = by (r == 0) (places_ascii more (r * 10 % d) d (mod-lt (r * 10) (let positive : 0 < d = omega arith in positive)))
  where
    by : (b : Bool) → IsAscii (places more (r * 10 % d) d) → IsAscii (cond b [] ((48 + r * 10 / d) ∷ places more (r * 10 % d) d))
    by true rest = IsAscii-nil
    by false rest = IsAscii-cons (48 + r * 10 / d) (places more (r * 10 % d) d) (digit_small r d l) rest

tail_ascii : (r d : ℕ) → r < d → IsAscii (tail r d)
tail_ascii r d l = by (r == 0)
  where
    by : (b : Bool) → IsAscii (cond b [] (codes "." ++ places 100 r d))
    by true = IsAscii-nil
    by false = IsAscii-append (codes ".") (places 100 r d) (one_byte 46 (omega arith)) (places_ascii 100 r d l)

decimal_ascii : (n : ℕ) → n ≤ limit → IsAscii (decimal n)
decimal_ascii n l = IsAscii-decimal_wide n (omega arith)

magnitude_ascii : (m d : ℕ) → 0 < d → m ≤ limit → d ≤ limit → IsAscii (magnitude_text m d)
magnitude_ascii m d positive lm ld = by (ends (m % d) d)
  where
    by : (b : Bool) → IsAscii (cond b (decimal (m / d) ++ tail (m % d) d) (decimal m ++ (codes "/" ++ decimal d)))
    by true =
        let less : m / d ≤ m = div-le_self m d in
        IsAscii-append (decimal (m / d)) (tail (m % d) d) (decimal_ascii (m / d) (omega arith)) (tail_ascii (m % d) d (mod-lt m positive))
    by false = IsAscii-append (decimal m) (codes "/" ++ decimal d) (decimal_ascii m lm) (IsAscii-append (codes "/") (decimal d) (one_byte 47 (omega arith)) (decimal_ascii d ld))

sign_ascii : (z : ℤ) → IsAscii (sign z)
sign_ascii (pos n) = IsAscii-nil
sign_ascii (negsuc n) = one_byte 45 (omega arith)

spelled_ascii : (v : XFrac) → IsNumber v → IsAscii (spelling v)
spelled_ascii (Fin f) r = IsAscii-append (sign f.0) (magnitude_text (unsigned_abs f.0) f.1) (sign_ascii f.0) (magnitude_ascii (unsigned_abs f.0) f.1 r.positive r.numerator_within r.denominator_within)
spelled_ascii PosInf r = IsAscii-cons 43 (codes "Inf") (omega arith) (IsAscii-cons 73 (codes "nf") (omega arith) (IsAscii-cons 110 (codes "f") (omega arith) (one_byte 102 (omega arith))))
spelled_ascii NegInf r = IsAscii-cons 45 (codes "Inf") (omega arith) (IsAscii-cons 73 (codes "nf") (omega arith) (IsAscii-cons 110 (codes "f") (omega arith) (one_byte 102 (omega arith))))
spelled_ascii NaN r = IsAscii-cons 78 (codes "aN") (omega arith) (IsAscii-cons 97 (codes "N") (omega arith) (one_byte 78 (omega arith)))

-- so it is a text
pub spelled_text : (bytes : List ℕ) (v : XFrac) → IsNumber v → bytes ≡ spelling v → IsUtf8 bytes
spelled_text bytes v number is = subst IsUtf8 (sym is) (IsUtf8-from_ascii (spelling v) (spelled_ascii v number))
