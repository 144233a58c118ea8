-- Numbers and times of a query: their texts are read as they are.
use Rattle.std.proofs.Common.{◌≡◌, ◌∙◌, ◌⊎◌, inl, inr, ℕ, zero, suc, ◌+◌, ◌*◌, ◌/◌, ◌%◌, ◌^◌, ◌<◌, ◌≤◌, ◌++◌, ◌↔◌, Bool, true, false, cond, List, [], ◌∷◌, length, refl, ap, sym, subst, arith, decimal, codes, ℤ, pos, negsuc}
use Rattle.std.specs.Prelude.{◌==◌, if◌then◌else◌, nat_le, nat_lt, Some, None, Ok, Err, IsTrue, ⊤}
use Rattle.std.specs.Char.{digit_value, is_ascii_digit}
use Rattle.std.specs.Option.{option_map_or}
use Rattle.std.specs.List.{list_all}
use Rattle.std.specs.Str.Parse.{AllDigits}
use Rattle.std.proofs.Math.Nat.{add-mul-mod_self_right, div-le_self, div-mul-le_self, div-lt_iff_lt-mul, div-mul_cancel, mod-eq-sub-div-mul, mod-lt, mul-div_cancel, mul-mod_left}
use Rattle.std.proofs.lemmas.Bool.{cases_lt, eq-eqb, false_from_ne_true, le-leb, ltb-true}
use Rattle.std.proofs.lemmas.Fmt.{decimal_is_IsNumeral_wide}
use Rattle.std.proofs.lemmas.Int.{ints}
use Rattle.std.proofs.lemmas.Str.Parse.{digit_from_value}
use Rattle.frac_text.specs.Readings.{literal_answer}
use Rattle.frac_text.specs.Spellings.{IsUnsigned, ends, is_plain, magnitude_text, places, spelling as number_spelling, tail}
use Rattle.frac_text.specs.Times.{milliseconds_of, time_limit}
use Rattle.promql_ast.specs.Parts.{IsAtMost}
use Rattle.promql_print.specs.Canonical.{number_text, seconds_text}
use Rattle.promql_parts.specs.Patterned.{Kept}
use Rattle.promql_parts.specs.Productions.{IsAmount, Signed}
use Rattle.promql_parts.specs.Spans.{seconds_up_to, up_to}
use Rattle.promql_parts.specs.Steps.{no_some, same_some}
use Rattle.promql_parts.specs.declared.lexeme.Lexeme.{Lexeme}
use Rattle.promql_parts.specs.declared.lexeme.LexemeKind.TheVariants as kinds
use Rattle.promql_parts.specs.declared.lexeme.Sign.TheVariants.{Minus}
use Rattle.ticks.specs.Durations.{IsDuration, duration_in, hundred_years}
use Rattle.ticks.specs.Spellings.{spelling as duration_spelling}
use Rattle.ticks.specs.declared.moment.Ms.{Ms}
use Rattle.xfrac.specs.Divisors.{gcd}
use Rattle.xfrac.specs.Formed.{formed_outside, formed_within, reduced_parts}
use Rattle.xfrac.specs.Forming.{formed}
use Rattle.xfrac.specs.Fractions.{IsReduced, limit, with_sign}
use Rattle.xfrac.specs.Gcds.{gcd-is}
use Rattle.xfrac.specs.Laws.{IsNumber}
use Rattle.xfrac.specs.declared.value.XFrac.{XFrac}
use Rattle.xfrac.specs.declared.value.XFrac.TheVariants.{Fin, PosInf, NegInf, NaN}
use Rattle.promql_ast.specs.declared.refusal.QueryRefusal.TheVariants.{DurationRange}
use Rattle.print_laws.proofs.Bytes.{and_both, ends_name, ends_number, name_ends_number, name_reads}
use Rattle.print_laws.proofs.Lexed.{Reads, joined, lexeme, weaker}
use Rattle.print_laws.proofs.Marks.{minus_sign}
use Rattle.print_laws.proofs.Numbers.{Places, decimal_reads}
use Rattle.print_laws.proofs.Spans.{duration_reads}

-- what is known of numbers and durations
pub record Spelled : Type 0 where
  pub numbers : (v : XFrac) → IsNumber v → IsTrue (is_plain v) → IsUnsigned v → literal_answer (number_spelling v) ≡ Ok v
  pub decimals : (r d k : ℕ) → 0 < d → d ≤ limit → r * 10 ^ k % d ≡ 0 → IsTrue (ends r d)
  pub durations : (n : ℕ) → n < 2 ^ 63 → IsDuration (duration_spelling (pos n)) n
  pub found : (text : List ℕ) (n : ℕ) → (duration_in text ≡ Some n) ↔ IsDuration text n

-- ---- digits

digit_is : (c : ℕ) → digit_value c < 10 → is_ascii_digit c ≡ true
digit_is c h = let range = digit_from_value c h in and_both (nat_le 48 c) (nat_le c 57) (le-leb 48 c range.0) (le-leb c 57 range.1)

all_digits : (ds : List ℕ) → AllDigits 10 ds → list_all is_ascii_digit ds ≡ true
all_digits [] all = refl
all_digits (d ∷ ds) all = and_both (is_ascii_digit d) _ (digit_is d all.0) (all_digits ds all.1)

digit_of : (n : ℕ) → n < 10 → is_ascii_digit (48 + n) ≡ true
digit_of n small = and_both (nat_le 48 (48 + n)) (nat_le (48 + n) 57) (le-leb 48 (48 + n) (omega arith)) (le-leb (48 + n) 57 (omega (arith, small)))

by_rest : (b : Bool) (d : ℕ) (later : List ℕ) → is_ascii_digit d ≡ true → list_all is_ascii_digit later ≡ true → list_all is_ascii_digit (cond b [] (d ∷ later)) ≡ true
by_rest true d later one more = refl
by_rest false d later one more = and_both (is_ascii_digit d) _ one more

are_places : (k r d : ℕ) → r < d → list_all is_ascii_digit (places k r d) ≡ true
unfolding places
are_places zero r d less = refl
are_places (suc k) r d less =
    by_rest (r == 0) (48 + r * 10 / d) (places k (r * 10 % d) d) (digit_of (r * 10 / d) ((div-lt_iff_lt-mul {k = d} {x = r * 10} {y = 10} (omega (arith, less))).1 (omega (arith, less))))
    (are_places k (r * 10 % d) d (mod-lt (r * 10) (omega (arith, less))))

tail_places : (b : Bool) (ds : List ℕ) → list_all is_ascii_digit ds ≡ true → Places (if b then [] else codes "." ++ ds)
tail_places true ds all = Places.absent
tail_places false ds all = Places.digits ds all

-- ---- numbers

-- a number of a query: it has no sign and its decimal places end, or it is an infinity or no number
abbrev pub IsWritten : XFrac → Type 0
IsWritten (Fin f) = (m : ℕ) × (f.0 ≡ pos m) × IsReduced m f.1 × (ends (m % f.1) f.1 ≡ true)
IsWritten PosInf = ⊤
IsWritten NegInf = ⊥
IsWritten NaN = ⊤

module _ (spelled : Spelled) {kept : Kept} where
  from_digits : (inside : Bool) (at : ℕ) (whole rest : List ℕ) (v : XFrac) → 0 < length whole → list_all is_ascii_digit whole ≡ true → Places rest → literal_answer (whole ++ rest) ≡ Ok v
      → Reads kept ends_number inside inside at (whole ++ rest) (lexeme at (kinds.Number v) ∷ [])
  from_digits inside at [] rest v some all behind reads = absurd (omega (arith, some))
  from_digits inside at (d ∷ ds) rest v some all behind reads = decimal_reads inside at d ds rest v all behind reads

  pub fraction_reads : (inside : Bool) (at m d : ℕ) → IsReduced m d → ends (m % d) d ≡ true → Reads kept ends_number inside inside at (magnitude_text m d) (lexeme at (kinds.Number (Fin (pos m, d))) ∷ [])
  fraction_reads inside at m d is plain =
      let few : m / d < 10 ^ 64 = (let less = div-le_self m d in let within = is.numerator_within in omega (arith, less, within)) in
      let digits = (decimal_is_IsNumeral_wide (m / d) few).0 in
      let rest : List ℕ = tail (m % d) d in
      let text : magnitude_text m d ≡ decimal (m / d) ++ rest = ap (λ (t : Bool). if t then decimal (m / d) ++ rest else decimal m ++ (codes "/" ++ decimal d)) plain in
      let reads : literal_answer (magnitude_text m d) ≡ Ok (Fin (pos m, d)) = spelled.numbers (Fin (pos m, d)) is plain (omega (arith, ints)) in
      subst (λ s. Reads kept ends_number inside inside at s (lexeme at (kinds.Number (Fin (pos m, d))) ∷ [])) (sym text)
      (from_digits inside at (decimal (m / d)) rest (Fin (pos m, d)) digits.0 (all_digits (decimal (m / d)) digits.1)
      (tail_places (m % d == 0) (places 100 (m % d) d) (are_places 100 (m % d) d (mod-lt m is.positive))) (ap literal_answer (sym text) ∙ reads))

  pub number_reads : (at : ℕ) (v : XFrac) → IsWritten v → Reads kept ends_name false false at (number_text v) (lexeme at (kinds.Number v) ∷ [])
  number_reads at (Fin (z, d)) is =
      subst (λ (w : ℤ). Reads kept ends_name false false at (number_text (Fin (w, d))) (lexeme at (kinds.Number (Fin (w, d))) ∷ [])) (sym is.1)
      (weaker name_ends_number (fraction_reads false at is.0 d is.2 is.3))
  number_reads at PosInf is = name_reads at (codes "Inf") (kinds.Number PosInf) (record { piece = λ at rest. refl; outside = refl }, refl) refl refl refl refl
  number_reads at NegInf is = absurd is
  number_reads at NaN is = name_reads at (codes "NaN") (kinds.Number NaN) (record { piece = λ at rest. refl; outside = refl }, refl) refl refl refl refl

-- ---- what is formed

cross : (x y a b g : ℕ) → x * g ≡ a → y * g ≡ b → x * b ≡ a * y
cross x y a b g l r =
    let m : x * (y * g) ≡ (x * g) * y = omega arith in
    ap (λ z. x * z) (sym r) ∙ m ∙ ap (λ z. z * y) l

terms_equal : (m d : ℕ) → 0 < d → m / gcd m d * d ≡ m * (d / gcd m d)
terms_equal m d some =
    let is = gcd-is m d some in
    cross (m / gcd m d) (d / gcd m d) m d (gcd m d) (div-mul_cancel (gcd m d) is.0) (div-mul_cancel (gcd m d) is.1)

rest_ends : (p q m t : ℕ) → p * t ≡ m * q → (p % q) * t % q ≡ 0
rest_ends p q m t same =
    let left = mod-eq-sub-div-mul p q in
    let under = div-mul-le_self p q in
    let whole : p % q + p / q * q ≡ p = omega (arith, left, under) in
    let scaled : (p % q + p / q * q) * t ≡ p * t = ap (λ x. x * t) whole in
    let parted : (p % q) * t + p / q * t * q ≡ m * q = omega (arith, scaled, same) in
    sym (add-mul-mod_self_right ((p % q) * t) (p / q * t) q) ∙ ap (λ x. x % q) parted ∙ mul-mod_left m q

-- a count over a power of ten is a number whose places end
module _ (decimals : (r d k : ℕ) → 0 < d → d ≤ limit → r * 10 ^ k % d ≡ 0 → IsTrue (ends r d)) where
  reduced_written : (m d k p q : ℕ) → 0 < d → d ≡ 10 ^ k → m / gcd m d ≡ p → d / gcd m d ≡ q → p ≤ limit → q ≤ limit → IsReduced p q × (ends (p % q) q ≡ true)
  reduced_written m d k p q some power e f a b =
      let is : IsReduced p q = reduced_parts m d p q some e f a b in
      let equal : p * d ≡ m * q = ap (λ x. x * d) (sym e) ∙ terms_equal m d some ∙ ap (λ y. m * y) f in
      (is, decimals (p % q) q k is.positive b (rest_ends p q m (10 ^ k) (ap (λ x. p * x) (sym power) ∙ equal)))

  pub formed_written : (m d k : ℕ) (v : XFrac) → 0 < d → d ≡ 10 ^ k → formed (pos m) d ≡ Some v → IsWritten v
  formed_written m d k v some power is = by_size (cases_lt limit (m / gcd m d)) (cases_lt limit (d / gcd m d)) where
    outside : (limit < m / gcd m d) ⊎ (limit < d / gcd m d) → IsWritten v
    outside out = no_some v (sym (formed_outside false m d (m / gcd m d) (d / gcd m d) refl refl out) ∙ is)

    by_size : (limit < m / gcd m d) ⊎ (m / gcd m d ≤ limit) → (limit < d / gcd m d) ⊎ (d / gcd m d ≤ limit) → IsWritten v
    by_size (inl x) y = outside (inl x)
    by_size (inr x) (inl y) = outside (inr y)
    by_size (inr x) (inr y) =
        let same : Fin (pos (m / gcd m d), d / gcd m d) ≡ v = same_some _ v (sym (formed_within false m d (m / gcd m d) (d / gcd m d) refl refl x y) ∙ is) in
        let told = reduced_written m d k (m / gcd m d) (d / gcd m d) some power refl refl x y in
        subst IsWritten same (m / gcd m d, refl, told.0, told.1)

-- ---- times

pub within_is : (at most n : ℕ) → n ≤ most → up_to at most n ≡ Ok n
within_is at most n within =
    ap (λ (t : Bool). if t then Err (DurationRange at) else Ok n) (false_from_ne_true (nat_lt most n) (λ e. let more : most < n = ltb-true most n e in absurd (omega (arith, more, within))))

-- a time that is told at a place by such lexemes
pub record TimeTold (kept : Kept) (most at : ℕ) (text : List ℕ) (time : Ms) : Type 0 where
  pub ls : List Lexeme
  pub is : Signed most ls time
  pub reads : Reads kept ends_name false false at text ls

whole_milliseconds : (p q n : ℕ) → 0 < q → p * 1000 ≡ n * q → milliseconds_of (Fin (pos p, q)) ≡ Some n
whole_milliseconds p q n some same =
    let none : (p * 1000 % q == 0) ≡ true = eq-eqb (p * 1000 % q) 0 (ap (λ x. x % q) same ∙ mul-mod_left n q) in
    ap (λ (t : Bool). if t then Some (p * 1000 / q) else None) none ∙ ap (λ x. Some (x / q)) same ∙ ap (λ x. Some x) (mul-div_cancel n some)

seconds_amount : (at p q n : ℕ) → 0 < q → p * 1000 ≡ n * q → n ≤ time_limit → IsAmount time_limit (lexeme at (kinds.Number (Fin (pos p, q)))) n
seconds_amount at p q n some same within = ap (seconds_up_to at time_limit) (whole_milliseconds p q n some same) ∙ within_is at time_limit n within

record Seconds (n : ℕ) : Type 0 where
  p : ℕ
  q : ℕ
  reduced : IsReduced p q
  plain : ends (p % q) q ≡ true
  same : p * 1000 ≡ n * q
  formed_as : (s : Bool) → formed (with_sign s n) 1000 ≡ Some (Fin (with_sign s p, q))

seconds_of : Spelled → (n : ℕ) → n ≤ time_limit → Seconds n
seconds_of spelled n within =
    let p : ℕ = n / gcd n 1000 in
    let q : ℕ = 1000 / gcd n 1000 in
    let few : p ≤ limit = (let less = div-le_self n (gcd n 1000) in omega (arith, less, within)) in
    let low : q ≤ limit = (let less = div-le_self 1000 (gcd n 1000) in omega (arith, less)) in
    let told = reduced_written spelled.decimals n 1000 3 p q (omega arith) refl refl refl few low in
    record { p = p; q = q; reduced = told.0; plain = told.1; same = terms_equal n 1000 (omega arith); formed_as = λ s. formed_within s n 1000 p q refl refl few low }

some_seconds : (p q n : ℕ) → p * 1000 ≡ suc n * q → 0 < q → (k : ℕ) × (p ≡ suc k)
some_seconds zero q n same some = absurd (omega (arith, same, some))
some_seconds (suc k) q n same some = (k, refl)

module _ (spelled : Spelled) {kept : Kept} where
  -- a duration
  pub span_told : (inside : Bool) (at n : ℕ) → n ≤ hundred_years → Reads kept ends_number inside inside at (duration_spelling (pos n)) (lexeme at (kinds.Duration (record { 0 = pos n })) ∷ [])
  span_told inside at n within = duration_reads spelled.durations spelled.found inside at n within

  pub offset_told : (at : ℕ) (z : ℤ) → IsAtMost hundred_years (record { 0 = z }) → TimeTold kept hundred_years at (duration_spelling z) (record { 0 = z })
  offset_told at (pos n) is =
      let within : n ≤ hundred_years = (let most = is.1 in omega (arith, ints, most)) in
      record { ls = _; is = Signed.unsigned (lexeme at (kinds.Duration (record { 0 = pos n }))) n (within_is at hundred_years n within); reads = weaker name_ends_number (span_told false at n within) }
  offset_told at (negsuc n) is =
      let within : suc n ≤ hundred_years = (let least = is.0 in omega (arith, ints, least)) in
      let l : Lexeme = lexeme (at + 1) (kinds.Duration (record { 0 = pos (suc n) })) in
      record {
        ls = lexeme at (kinds.Sign Minus) ∷ l ∷ [];
        is = Signed.minus (lexeme at (kinds.Sign Minus)) l (suc n) refl (within_is (at + 1) hundred_years (suc n) within);
        reads = joined (minus_sign at) (weaker name_ends_number (span_told false (at + 1) (suc n) within)) (λ rest ok. refl);
      }

  -- a number of seconds
  minus_seconds : (at n p q : ℕ) → IsReduced p q → ends (p % q) q ≡ true → p * 1000 ≡ suc n * q → suc n ≤ time_limit → (k : ℕ) × (p ≡ suc k)
      → TimeTold kept time_limit at (number_spelling (Fin (with_sign true p, q))) (record { 0 = negsuc n })
  minus_seconds at n p q reduced plain same within (k, is) =
      let l : Lexeme = lexeme (at + 1) (kinds.Number (Fin (pos p, q))) in
      let text : codes "-" ++ magnitude_text p q ≡ number_spelling (Fin (with_sign true p, q)) =
      subst (λ x. codes "-" ++ magnitude_text x q ≡ number_spelling (Fin (with_sign true x, q))) (sym is) refl in
      record {
        ls = lexeme at (kinds.Sign Minus) ∷ l ∷ [];
        is = Signed.minus (lexeme at (kinds.Sign Minus)) l (suc n) refl (seconds_amount (at + 1) p q (suc n) reduced.positive same within);
        reads =
            subst (λ s. Reads kept ends_name false false at s (lexeme at (kinds.Sign Minus) ∷ l ∷ [])) text
            (joined (minus_sign at) (weaker name_ends_number (fraction_reads spelled false (at + 1) p q reduced plain)) (λ rest ok. refl));
      }

  pub seconds_told : (at : ℕ) (z : ℤ) → IsAtMost time_limit (record { 0 = z }) → TimeTold kept time_limit at (seconds_text (record { 0 = z })) (record { 0 = z })
  seconds_told at (pos n) is =
      let within : n ≤ time_limit = (let most = is.1 in omega (arith, ints, most)) in
      let s = seconds_of spelled n within in
      let text : number_spelling (Fin (pos s.p, s.q)) ≡ seconds_text (record { 0 = pos n }) = ap (λ found. option_map_or number_spelling found []) (sym (s.formed_as false)) in
      record {
        ls = lexeme at (kinds.Number (Fin (pos s.p, s.q))) ∷ [];
        is = Signed.unsigned (lexeme at (kinds.Number (Fin (pos s.p, s.q)))) n (seconds_amount at s.p s.q n s.reduced.positive s.same within);
        reads =
            subst (λ x. Reads kept ends_name false false at x (lexeme at (kinds.Number (Fin (pos s.p, s.q))) ∷ [])) text
            (weaker name_ends_number (fraction_reads spelled false at s.p s.q s.reduced s.plain));
      }
  seconds_told at (negsuc n) is =
      let within : suc n ≤ time_limit = (let least = is.0 in omega (arith, ints, least)) in
      let s = seconds_of spelled (suc n) within in
      let text : number_spelling (Fin (with_sign true s.p, s.q)) ≡ seconds_text (record { 0 = negsuc n }) = ap (λ found. option_map_or number_spelling found []) (sym (s.formed_as true)) in
      let told = minus_seconds at n s.p s.q s.reduced s.plain s.same within (some_seconds s.p s.q n s.same s.reduced.positive) in
      record { ls = told.ls; is = told.is; reads = subst (λ x. Reads kept ends_name false false at x told.ls) text told.reads }
