-- A number that was written as a plain decimal is read as itself.
use Rattle.std.proofs.Common.{◌≡◌, ℕ, zero, suc, ◌+◌, ◌-◌, ◌*◌, ◌/◌, ◌%◌, ◌^◌, ◌<◌, ◌≤◌, refl, sym, subst, ap, ◌∙◌, arith, Bool, true, false, cond, not, ◌==◌, ◌&&◌, ◌||◌, nat_lt, List, [], ◌∷◌, ◌++◌, length, take, drop, get_or, map, Some, None, inl, inr, ◌⊎◌, append-nil, length-append}
use Rattle.std.specs.Prelude.{ℤ, pos, negsuc, unsigned_abs, ◌≤ℤ◌, Option, Ok, IsTrue, decimal}
use Rattle.std.specs.Char.{is_ascii_digit, to_ascii_lowercase}
use Rattle.std.specs.List.{prefix_len}
use Rattle.std.proofs.Math.Bool.{and-false}
use Rattle.std.proofs.Math.Nat.{div-lt_iff_lt-mul, div-le_self, mod-eq_of_lt, mod-lt, pow-suc}
use Rattle.std.proofs.Math.Seq.{take-append_seam, drop-append_seam}
use Rattle.std.proofs.lemmas.Bool.{and_from, cond-true, cond-false, eqb-true, le-ltb, lt-ltb, ne_eqb}
use Rattle.std.proofs.lemmas.Bool.Decides.{nat_tests}
use Rattle.std.proofs.lemmas.Fmt.{decimal_by_steps_wide}
use Rattle.std.proofs.lemmas.Nat.{div-add-mod', mul-mod_first}
use Rattle.std.proofs.lemmas.Int.{ints}
use Rattle.std.proofs.lemmas.Slice.Eq.{bytes_eq-Decides}
use Rattle.ticks.specs.Durations.{AreDigits}
use Rattle.xfrac.specs.declared.value.XFrac.{XFrac}
use Rattle.xfrac.specs.declared.value.XFrac.TheVariants.{Fin, PosInf, NegInf, NaN}
use Rattle.xfrac.specs.Forming.{formed}
use Rattle.xfrac.specs.Fractions.{IsReduced}
use Rattle.xfrac.specs.Laws.{IsNumber}
use Rattle.xfrac.specs.Formed.{formed_within}
use Rattle.xfrac.specs.Gcds.{reduced_is}
use Rattle.frac_text.specs.Decimals.{Decimal, are_digits, decimal_from, decimal_of, ending_of, exponent_of, fraction_of, has_leading_zero, is_optional_run}
use Rattle.frac_text.specs.Digits.{front, back, digits_in, is_part, is_run, number}
use Rattle.frac_text.specs.Hexadecimals.{is_hexadecimal}
use Rattle.frac_text.specs.Readings.{decimal_answer, is_word, judged, literal_answer, plain_answer, script_answer, turned}
use Rattle.frac_text.specs.Spellings.{IsUnsigned, ends, is_plain, magnitude_text, places, spelling, tail}
use Rattle.frac_text.proofs.Answered.{digits_few}
use Rattle.frac_text.proofs.Numbers.{digit_range, number-append, number-cons, number_push, ten_positive}
use Rattle.frac_text.proofs.Signed.{script_plain}
use Rattle.frac_text.proofs.Written.{places_none}

-- ---- digits alone

all-append : (xs ys : List ℕ) → AreDigits xs → AreDigits ys → AreDigits (xs ++ ys)
all-append [] ys a b = b
all-append (x ∷ xs) ys a b = (a.0, all-append xs ys a.1 b)

digit : (d : ℕ) → d < 10 → is_ascii_digit (48 + d) ≡ true
digit d small = grind (arith, nat_tests)

digits_in-all : (ds : List ℕ) → AreDigits ds → digits_in ds ≡ ds
digits_in-all [] all = refl
digits_in-all (c ∷ cs) all = cond-true _ _ _ all.0 ∙ ap (λ l. c ∷ l) (digits_in-all cs all.1)

run-all : (ds : List ℕ) → AreDigits ds → is_run true ds ≡ true
run-all [] all = refl
run-all (c ∷ cs) all = cond-true _ _ _ all.0 ∙ run-all cs all.1

optional-all : (ds : List ℕ) → AreDigits ds → is_optional_run ds ≡ true
optional-all [] all = refl
optional-all (c ∷ cs) all =
    let none : (length (c ∷ cs) == 0) ≡ false = ne_eqb (length (c ∷ cs)) 0 (λ e. omega arith) in
    ap (λ b. b || is_run false (c ∷ cs)) none ∙ cond-true _ _ _ all.0 ∙ run-all cs all.1

part-all : (grouped : Bool) (ds rest : List ℕ) → AreDigits ds → prefix_len (is_part grouped) rest ≡ 0 → prefix_len (is_part grouped) (ds ++ rest) ≡ length ds
part-all grouped [] rest all stop = stop
part-all grouped (c ∷ cs) rest all stop =
    let part : is_part grouped c ≡ true = ap (λ b. b || (grouped && c == 95)) all.0 in
    let later = part-all grouped cs rest all.1 stop in
    cond-true _ _ _ part ∙ omega (arith, later)

front-all : (grouped : Bool) (ds rest : List ℕ) → AreDigits ds → prefix_len (is_part grouped) rest ≡ 0 → front grouped (ds ++ rest) ≡ ds
front-all grouped ds rest all stop = ap (λ k. take k (ds ++ rest)) (part-all grouped ds rest all stop) ∙ take-append_seam ds rest

back-all : (grouped : Bool) (ds rest : List ℕ) → AreDigits ds → prefix_len (is_part grouped) rest ≡ 0 → back grouped (ds ++ rest) ≡ rest
back-all grouped ds rest all stop = ap (λ k. drop k (ds ++ rest)) (part-all grouped ds rest all stop) ∙ drop-append_seam ds rest

-- ---- the text of a whole number

-- digits that stand for a number, with no needless zero before them
record IsNumeralOf (n : ℕ) (ds : List ℕ) : Type 0 where
  pub all : AreDigits ds
  pub some : 0 < length ds
  pub worth : number ds ≡ n
  pub high : 0 < n → 48 < get_or ds 0 0
  pub single : n ≡ 0 → length ds ≡ 1

get_or-front : (xs ys : List ℕ) → 0 < length xs → get_or (xs ++ ys) 0 0 ≡ get_or xs 0 0
get_or-front [] ys some = absurd (omega arith)
get_or-front (x ∷ xs) ys some = refl

numeral-one : (n : ℕ) → n < 10 → IsNumeralOf n ((48 + n) ∷ [])
numeral-one n small = record { all = (digit n small, tt); some = omega arith; worth = (let one = number-cons (48 + n) [] (digit n small) in omega arith); high = λ h. omega arith; single = λ h. omega arith }

numeral-more : (n : ℕ) (ds : List ℕ) → 10 ≤ n → IsNumeralOf (n / 10) ds → IsNumeralOf n (ds ++ ((48 + n % 10) ∷ []))
numeral-more n ds large was =
    let some = was.some in
    let high : 48 < get_or ds 0 0 = was.high (omega arith) in
    let first : get_or (ds ++ ((48 + n % 10) ∷ [])) 0 0 ≡ get_or ds 0 0 = get_or-front ds ((48 + n % 10) ∷ []) some in
    record {
      all = all-append ds ((48 + n % 10) ∷ []) was.all (digit (n % 10) (omega arith), tt);
      some = omega (arith, length-append ds ((48 + n % 10) ∷ []));
      worth = number_push ds (48 + n % 10) (digit (n % 10) (omega arith)) ∙ (let worth = was.worth in omega arith);
      high = λ h. omega arith;
      single = λ h. absurd (omega arith);
    }

numeral : (n : ℕ) → n < 10 ^ 64 → IsNumeralOf n (decimal n)
numeral = decimal_by_steps_wide IsNumeralOf numeral-one numeral-more

-- ---- the places after the point

tenth-below : (r d : ℕ) → r < d → r * 10 / d < 10
tenth-below r d below = (div-lt_iff_lt-mul {k = d} {x = r * 10} {y = 10} (omega arith)).1 (omega arith)

places-all : (k r d : ℕ) → r < d → AreDigits (places k r d)
unfolding places
places-all zero r d below = tt
places-all (suc k) r d below = by_rest (r == 0) (places-all k (r * 10 % d) d (mod-lt (r * 10) (omega arith)))
  where
    by_rest : (b : Bool) → AreDigits (places k (r * 10 % d) d) → AreDigits (cond b [] ((48 + r * 10 / d) ∷ places k (r * 10 % d) d))
    by_rest true later = tt
    by_rest false later = (digit (r * 10 / d) (tenth-below r d below), later)

place-worth : (q d e p r s l : ℕ) → q * d + s ≡ r * 10 → p * d ≡ s * e → l ≡ e * 10 → ((48 + q - 48) * e + p) * d ≡ r * l
place-worth q d e p r s l cut later long =
    let whole : (q * d + s) * e ≡ r * 10 * e = ap (λ z. z * e) cut in
    let right : r * l ≡ r * (e * 10) = ap (λ z. r * z) long in
    let left : 48 + q - 48 ≡ q = omega arith in
    ap (λ z. (z * e + p) * d) left ∙ omega arith

places-worth : (k r d : ℕ) → r < d → r * 10 ^ k % d ≡ 0 → number (places k r d) * d ≡ r * 10 ^ length (places k r d)
unfolding places
places-worth zero r d below none =
    let same : r * 10 ^ 0 ≡ r = omega arith in
    let left : r % d ≡ 0 = ap (λ z. z % d) (sym same) ∙ none in
    let zero : r ≡ 0 = sym (mod-eq_of_lt below) ∙ left in
    omega arith
places-worth (suc k) r d below none =
    by_rest (r == 0) refl (places-worth k (r * 10 % d) d (mod-lt (r * 10) (omega arith)) (mul-mod_first (r * 10) (10 ^ k) d ∙ ap (λ z. z % d) moved ∙ none))
  where
    moved : r * 10 * 10 ^ k ≡ r * 10 ^ suc k
    moved = let long : r * 10 ^ suc k ≡ r * (10 ^ k * 10) = ap (λ z. r * z) (pow-suc 10 k) in omega arith

    by_rest : (b : Bool) → (r == 0) ≡ b
        → number (places k (r * 10 % d) d) * d ≡ (r * 10 % d) * 10 ^ length (places k (r * 10 % d) d)
        → number (cond b [] ((48 + r * 10 / d) ∷ places k (r * 10 % d) d)) * d ≡ r * 10 ^ length (cond b [] ((48 + r * 10 / d) ∷ places k (r * 10 % d) d))
    by_rest true is later =
        let zero : r ≡ 0 = eqb-true r 0 is in
        omega arith
    by_rest false is later =
        ap (λ z. z * d) (number-cons (48 + r * 10 / d) (places k (r * 10 % d) d) (digit (r * 10 / d) (tenth-below r d below)))
        ∙ place-worth (r * 10 / d) d (10 ^ length (places k (r * 10 % d) d)) (number (places k (r * 10 % d) d)) r (r * 10 % d) _ (div-add-mod' (r * 10) d) later
        (pow-suc 10 (length (places k (r * 10 % d) d)))

-- ---- reading a plain decimal: digits, and what stands after them

abbrev plain : List ℕ → List ℕ → Decimal
plain ds fs = record { digits = ds ++ fs; places = length fs; exponent = record { negative = false; size = 0 } }

abbrev found : List ℕ → List ℕ → Option Decimal
found ds fs = Some (plain ds fs)

abbrev assembled : Bool → List ℕ → List ℕ → List ℕ → Option Decimal
assembled grouped whole fraction ending = cond (are_digits whole fraction) (decimal_from whole fraction (exponent_of grouped ending)) None

-- what stands after the digits is nothing, or a point and digits
record IsTail (grouped : Bool) (t fs : List ℕ) : Type 0 where
  pub all : AreDigits fs
  pub stops : prefix_len (is_part grouped) t ≡ 0
  pub fraction : fraction_of grouped t ≡ fs
  pub ending : ending_of grouped t ≡ []
  pub begins : (length t ≡ 0) ⊎ ((rest : List ℕ) × (t ≡ 46 ∷ rest))

no-tail : (grouped : Bool) → IsTail grouped [] []
no-tail grouped = record { all = tt; stops = refl; fraction = refl; ending = refl; begins = inl refl }

point-stops : (grouped : Bool) (fs : List ℕ) → prefix_len (is_part grouped) (46 ∷ fs) ≡ 0
point-stops true fs = refl
point-stops false fs = refl

point-tail : (grouped : Bool) (fs : List ℕ) → AreDigits fs → IsTail grouped (46 ∷ fs) fs
point-tail grouped fs all = record {
  all = all;
  stops = point-stops grouped fs;
  fraction = ap (front grouped) (sym (append-nil fs)) ∙ front-all grouped fs [] all refl;
  ending = ap (back grouped) (sym (append-nil fs)) ∙ back-all grouped fs [] all refl;
  begins = inr (fs, refl);
}

both-digits : (ds fs : List ℕ) → AreDigits ds → 0 < length ds → AreDigits fs → are_digits ds fs ≡ true
both-digits ds fs all some more =
    let none : (length ds == 0) ≡ false = ne_eqb (length ds) 0 (λ e. omega arith) in
    and_from _ _ (optional-all ds all) (and_from _ _ (optional-all fs more) (ap (λ b. not (b && length fs == 0)) none))

decimal-read : (grouped : Bool) (ds t fs : List ℕ) → AreDigits ds → 0 < length ds → IsTail grouped t fs → decimal_of grouped (ds ++ t) ≡ Some (plain ds fs)
decimal-read grouped ds t fs all some rest =
    let f : front grouped (ds ++ t) ≡ ds = front-all grouped ds t all rest.stops in
    let b : back grouped (ds ++ t) ≡ t = back-all grouped ds t all rest.stops in
    let x : fraction_of grouped (back grouped (ds ++ t)) ≡ fs = ap (fraction_of grouped) b ∙ rest.fraction in
    let e : ending_of grouped (back grouped (ds ++ t)) ≡ [] = ap (ending_of grouped) b ∙ rest.ending in
    ap (λ w. assembled grouped w (fraction_of grouped (back grouped (ds ++ t))) (ending_of grouped (back grouped (ds ++ t)))) f
    ∙ ap (λ y. assembled grouped ds y (ending_of grouped (back grouped (ds ++ t)))) x
    ∙ ap (λ y. assembled grouped ds fs y) e
    ∙ cond-true _ _ _ (both-digits ds fs all some rest.all)
    ∙ ap (λ y. found y (digits_in fs)) (digits_in-all ds all)
    ∙ ap (λ y. found ds y) (digits_in-all fs rest.all)

-- ---- what such a text is not

no-lead : (grouped : Bool) (n : ℕ) (ds t fs : List ℕ) → IsNumeralOf n ds → IsTail grouped t fs → has_leading_zero grouped (ds ++ t) ≡ false
no-lead grouped n [] t fs is rest = absurd (let some = is.some in omega arith)
no-lead grouped n (c ∷ cs) t fs is rest = by_first (c == 48) refl
  where
    single : (k : ℕ) → IsNumeralOf k (c ∷ cs) → c ≡ 48 → length (c ∷ cs) ≡ 1
    single zero was zero_first = was.single refl
    single (suc k) was zero_first = absurd (let high = was.high (omega arith) in omega arith)

    by_tail : length (c ∷ cs) ≡ 1 → (length t ≡ 0) ⊎ ((rest : List ℕ) × (t ≡ 46 ∷ rest))
        → (length (back grouped (c ∷ (cs ++ t))) == 0 && nat_lt 1 (length (digits_in (c ∷ (cs ++ t))))) ≡ false
    by_tail one (inl none) =
        let few : length (digits_in (c ∷ (cs ++ t))) ≤ 1 = omega (arith, digits_few (c ∷ (cs ++ t)), length-append cs t) in
        ap (λ b. length (back grouped (c ∷ (cs ++ t))) == 0 && b) (le-ltb 1 (length (digits_in (c ∷ (cs ++ t)))) few) ∙ and-false _
    by_tail one (inr point) =
        let long : length (back grouped (c ∷ (cs ++ t))) ≡ length (46 ∷ point.0) = ap length (back-all grouped (c ∷ cs) t is.all rest.stops ∙ point.1) in
        ap (λ b. b && nat_lt 1 (length (digits_in (c ∷ (cs ++ t))))) (ne_eqb (length (back grouped (c ∷ (cs ++ t)))) 0 (λ e. omega arith))

    by_first : (b : Bool) → (c == 48) ≡ b → (b && (length (back grouped (c ∷ (cs ++ t))) == 0 && nat_lt 1 (length (digits_in (c ∷ (cs ++ t)))))) ≡ false
    by_first false is_other = refl
    by_first true is_zero = by_tail (single n is (eqb-true c 48 is_zero)) rest.begins

no-word : (c w : ℕ) (rest word : List ℕ) → is_ascii_digit c ≡ true → 58 ≤ w → is_word (c ∷ rest) (w ∷ word) ≡ false
no-word c w rest word digit letter = by_equal (is_word (c ∷ rest) (w ∷ word)) refl
  where
    by_equal : (b : Bool) → is_word (c ∷ rest) (w ∷ word) ≡ b → b ≡ false
    by_equal false is = refl
    by_equal true is =
        let range = digit_range c digit in
        let high : c ≤ 57 = range.1 in
        let same : to_ascii_lowercase c ∷ map to_ascii_lowercase rest ≡ w ∷ word = (bytes_eq-Decides (map to_ascii_lowercase (c ∷ rest)) (w ∷ word)).0 is in
        let first : to_ascii_lowercase c ≡ w = ap (λ l. get_or l 0 0) same in
        let lower : to_ascii_lowercase c ≡ c = cond-true _ _ _ (lt-ltb c 65 (omega arith)) in
        absurd (omega arith)

low-second : (c x : ℕ) → x < 88 → (c == 48 && (x == 120 || x == 88)) ≡ false
low-second c x low =
    let first : (x == 120) ≡ false = ne_eqb x 120 (λ e. omega arith) in
    let second : (x == 88) ≡ false = ne_eqb x 88 (λ e. omega arith) in
    ap (λ b. c == 48 && (b || x == 88)) first ∙ ap (λ b. c == 48 && b) second ∙ and-false _

no-hexadecimal : (ds t fs : List ℕ) → AreDigits ds → IsTail true t fs → is_hexadecimal (ds ++ t) ≡ false
no-hexadecimal [] [] fs all rest = refl
no-hexadecimal [] (x ∷ []) fs all rest = refl
no-hexadecimal [] (x ∷ (y ∷ ys)) fs all rest = by_begin rest.begins
  where
    by_begin : (length (x ∷ (y ∷ ys)) ≡ 0) ⊎ ((rest : List ℕ) × (x ∷ (y ∷ ys) ≡ 46 ∷ rest)) → is_hexadecimal (x ∷ (y ∷ ys)) ≡ false
    by_begin (inl none) = absurd (omega arith)
    by_begin (inr point) =
        let first : x ≡ 46 = ap (λ l. get_or l 0 0) point.1 in
        ap (λ b. b && (y == 120 || y == 88)) (ne_eqb x 48 (λ e. omega arith))
no-hexadecimal (c ∷ []) [] fs all rest = refl
no-hexadecimal (c ∷ []) (x ∷ xs) fs all rest = by_begin rest.begins
  where
    by_begin : (length (x ∷ xs) ≡ 0) ⊎ ((rest : List ℕ) × (x ∷ xs ≡ 46 ∷ rest)) → is_hexadecimal (c ∷ (x ∷ xs)) ≡ false
    by_begin (inl none) = absurd (omega arith)
    by_begin (inr point) =
        let first : x ≡ 46 = ap (λ l. get_or l 0 0) point.1 in
        low-second c x (omega arith)
no-hexadecimal (c ∷ (x ∷ xs)) t fs all rest =
    let range = digit_range x all.1.0 in
    let high : x ≤ 57 = range.1 in
    low-second c x (omega arith)

-- ---- the value

plain-words : (grouped : Bool) (n : ℕ) (ds t fs : List ℕ) → IsNumeralOf n ds → IsTail grouped t fs
    → plain_answer grouped (ds ++ t) ≡ decimal_answer (has_leading_zero grouped (ds ++ t)) (decimal_of grouped (ds ++ t))
plain-words grouped n [] t fs is rest = absurd (let some = is.some in omega arith)
plain-words grouped n (c ∷ cs) t fs is rest =
    cond-false _ _ _ (no-word c 105 (cs ++ t) (110 ∷ 102 ∷ []) is.all.0 (omega arith))
    ∙ cond-false _ _ _ (no-word c 110 (cs ++ t) (97 ∷ 110 ∷ []) is.all.0 (omega arith))

plain-read : (grouped : Bool) (n : ℕ) (ds t fs : List ℕ) → IsNumeralOf n ds → IsTail grouped t fs
    → plain_answer grouped (ds ++ t) ≡ judged false (formed (pos (number (ds ++ fs) * 10 ^ 0)) (10 ^ length fs))
plain-read grouped n ds t fs is rest =
    plain-words grouped n ds t fs is rest
    ∙ ap (λ b. decimal_answer b (decimal_of grouped (ds ++ t))) (no-lead grouped n ds t fs is rest)
    ∙ ap (λ d. decimal_answer false d) (decimal-read grouped ds t fs is.all is.some rest)

split-worth : (w d e p r m : ℕ) → w * d + r ≡ m → p * d ≡ r * e → m * e ≡ (w * e + p) * d
split-worth w d e p r m cut part =
    let whole : (w * d + r) * e ≡ m * e = ap (λ z. z * e) cut in
    omega arith

plain-value : (m d w : ℕ) (ds fs : List ℕ) → IsReduced m d → w * d + m % d ≡ m → number ds ≡ w → number fs * d ≡ (m % d) * 10 ^ length fs
    → formed (pos (number (ds ++ fs) * 10 ^ 0)) (10 ^ length fs) ≡ Some (Fin (pos m, d))
plain-value m d w ds fs reduced cut whole part =
    let all : number (ds ++ fs) * 10 ^ 0 ≡ w * 10 ^ length fs + number fs =
    (let joined = number-append ds fs in let one : number (ds ++ fs) * 10 ^ 0 ≡ number (ds ++ fs) = omega arith in one ∙ joined ∙ ap (λ z. z * 10 ^ length fs + number fs) whole) in
    let n : ℕ = w * 10 ^ length fs + number fs in
    let same = reduced_is m d n (10 ^ length fs) reduced.positive (ten_positive (length fs)) reduced.lowest (split-worth w d (10 ^ length fs) (number fs) (m % d) m cut part) in
    ap (λ z. formed (pos z) (10 ^ length fs)) all ∙ formed_within false n (10 ^ length fs) m d same.0 same.1 reduced.numerator_within reduced.denominator_within

tail-is : (grouped : Bool) (r d : ℕ) → r < d → IsTail grouped (tail r d) (places 100 r d)
tail-is grouped r d below = by_rest (r == 0) refl
  where
    by_rest : (b : Bool) → (r == 0) ≡ b → IsTail grouped (cond b [] (46 ∷ places 100 r d)) (places 100 r d)
    by_rest true is = subst (λ (fs : List ℕ). IsTail grouped [] fs) (sym (places_none 100 r d (eqb-true r 0 is))) (no-tail grouped)
    by_rest false is = point-tail grouped (places 100 r d) (places-all 100 r d below)

-- a number of lowest terms whose decimal ends, without its sign
module _ (m d : ℕ) (reduced : IsReduced m d) (ending : ends (m % d) d ≡ true) where
  below : m % d < d
  below = mod-lt m reduced.positive

  cut : m / d * d + m % d ≡ m
  cut = div-add-mod' m d

  whole : IsNumeralOf (m / d) (decimal (m / d))
  whole = numeral (m / d) (let few : m / d ≤ m = div-le_self m d in let within = reduced.numerator_within in omega arith)

  written : magnitude_text m d ≡ decimal (m / d) ++ tail (m % d) d
  written = cond-true _ _ _ ending

  plain-magnitude : (grouped : Bool) → plain_answer grouped (magnitude_text m d) ≡ Ok (Fin (pos m, d))
  plain-magnitude grouped =
      ap (plain_answer grouped) written
      ∙ plain-read grouped (m / d) (decimal (m / d)) (tail (m % d) d) (places 100 (m % d) d) whole (tail-is grouped (m % d) d below)
      ∙ ap (judged false) (plain-value m d (m / d) (decimal (m / d)) (places 100 (m % d) d) reduced cut whole.worth (places-worth 100 (m % d) d below (eqb-true _ 0 ending)))

  first-digit : (ds t : List ℕ) → AreDigits ds → 0 < length ds → (0 < length (ds ++ t)) × (48 ≤ get_or (ds ++ t) 0 0)
  first-digit [] t all some = absurd (omega arith)
  first-digit (c ∷ cs) t all some = (omega arith, (digit_range c all.0).0)

  script-magnitude : script_answer (magnitude_text m d) ≡ Ok (Fin (pos m, d))
  script-magnitude =
      let first = first-digit (decimal (m / d)) (tail (m % d) d) whole.all whole.some in
      let some : 0 < length (magnitude_text m d) = subst (λ (l : List ℕ). 0 < length l) (sym written) first.0 in
      let high : 48 ≤ get_or (magnitude_text m d) 0 0 = subst (λ (l : List ℕ). 48 ≤ get_or l 0 0) (sym written) first.1 in
      sym (script_plain (magnitude_text m d) some (λ e. omega arith) (λ e. omega arith)) ∙ plain-magnitude false

  literal-magnitude : literal_answer (magnitude_text m d) ≡ Ok (Fin (pos m, d))
  literal-magnitude =
      cond-false _ _ _ (ap is_hexadecimal written ∙ no-hexadecimal (decimal (m / d)) (tail (m % d) d) (places 100 (m % d) d) whole.all (tail-is true (m % d) d below))
      ∙ plain-magnitude true

script-fin : (z : ℤ) (d : ℕ) → IsReduced (unsigned_abs z) d → ends (unsigned_abs z % d) d ≡ true → script_answer (spelling (Fin (z, d))) ≡ Ok (Fin (z, d))
script-fin (pos m) d reduced ending = script-magnitude m d reduced ending
script-fin (negsuc m) d reduced ending = ap turned (plain-magnitude (suc m) d reduced ending false)

literal-fin : (z : ℤ) (d : ℕ) → IsReduced (unsigned_abs z) d → ends (unsigned_abs z % d) d ≡ true → pos 0 ≤ℤ z → literal_answer (spelling (Fin (z, d))) ≡ Ok (Fin (z, d))
literal-fin (pos m) d reduced ending positive = literal-magnitude m d reduced ending
literal-fin (negsuc m) d reduced ending positive = absurd (omega (arith, ints, positive))

pub script-spelling : (v : XFrac) → IsNumber v → IsTrue (is_plain v) → script_answer (spelling v) ≡ Ok v
script-spelling (Fin f) is ending = script-fin f.0 f.1 is ending
script-spelling PosInf is ending = refl
script-spelling NegInf is ending = refl
script-spelling NaN is ending = refl

pub literal-spelling : (v : XFrac) → IsNumber v → IsTrue (is_plain v) → IsUnsigned v → literal_answer (spelling v) ≡ Ok v
literal-spelling (Fin f) is ending positive = literal-fin f.0 f.1 is ending positive
literal-spelling PosInf is ending positive = absurd positive
literal-spelling NegInf is ending positive = absurd positive
literal-spelling NaN is ending positive = refl
