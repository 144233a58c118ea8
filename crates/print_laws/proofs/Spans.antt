-- The spelling of a duration is read as that duration.
use Rattle.std.proofs.Common.{◌≡◌, ◌∙◌, ℕ, ◌+◌, ◌^◌, ◌<◌, ◌≤◌, ◌++◌, ◌↔◌, Bool, true, false, cond, List, [], ◌∷◌, length, refl, ap, sym, subst, drop, arith, append_assoc, length-append, pos}
use Rattle.std.specs.Prelude.{◌&&◌, ◌||◌, ◌==◌, if◌then◌else◌, nat_le, nat_lt, Option, Some, None, Ok, Err, codes, map, bytes_eq}
use Rattle.std.specs.Char.{is_ascii_alphanumeric, is_ascii_digit, to_ascii_lowercase}
use Rattle.std.specs.Int.{is_in_range}
use Rattle.std.specs.List.{list_all, prefix_len}
use Rattle.std.specs.Str.{is_utf8}
use Rattle.std.proofs.lemmas.Bool.{false_from_ne_true, leb-true, ltb-true, eqb-true}
use Rattle.frac_text.specs.Decimals.{are_digits, decimal_from, decimal_of, ending_of, exponent_of, fraction_of, has_leading_zero}
use Rattle.frac_text.specs.Digits.{back, front}
use Rattle.frac_text.specs.Hexadecimals.{is_hexadecimal}
use Rattle.frac_text.specs.Readings.{decimal_answer, hexadecimal_answer, is_word, literal_answer, plain_answer}
use Rattle.frac_text.specs.declared.refusal.NumberRefusal.TheVariants.{BadNumber}
use Rattle.promql_ast.specs.declared.refusal.QueryRefusal.TheVariants.{BadNumber as RefusedNumber}
use Rattle.promql_lex.specs.Numbers.{duration_kind, is_word_byte, number_kind, read_kind, run_len}
use Rattle.promql_lex.specs.declared.token.TokenKind.TheVariants as tokens
use Rattle.promql_parts.specs.Patterned.{Kept}
use Rattle.promql_parts.specs.declared.lexeme.LexemeKind.TheVariants as kinds
use Rattle.ticks.specs.Durations.{AreDigits, AreFalling, IsDuration, duration_answer, duration_in, hundred_years, text_of, within_years}
use Rattle.ticks.specs.declared.refusal.TickRefusal.TheVariants.{OutOfRange}
use Rattle.ticks.specs.Spellings.{spelling}
use Rattle.ticks.specs.Units.{milliseconds_in, name_of}
use Rattle.ticks.specs.declared.unit.Unit.{Unit}
use Rattle.ticks.specs.declared.unit.Unit.TheVariants.{Year, Week, Day, Hour, Minute, Second, Millisecond}
use Rattle.xfrac.specs.declared.value.XFrac.{XFrac}
use Rattle.print_laws.proofs.Bytes.{and_both, and_first, and_none, and_second, differs, ends_number, fails_first, first_fails, or_either, or_left, or_none, run}
use Rattle.print_laws.proofs.Lexed.{Reads, lexeme}
use Rattle.print_laws.proofs.Marks.{ascii_text, low}
use Rattle.print_laws.proofs.Numbers.{IsTail, Places, all_joined, back_is, no_exponent, run_is, run_reads}

abbrev named : Unit → List ℕ → List ℕ
named unit later = name_of unit ++ later

-- ---- bytes

word_digit : (byte : ℕ) → is_ascii_digit byte ≡ true → is_word_byte byte ≡ true
word_digit byte h =
    or_left (is_ascii_alphanumeric byte) (byte == 95) (or_left (is_in_range 48 57 byte || is_in_range 65 90 byte) (is_in_range 97 122 byte) (or_left (is_in_range 48 57 byte) (is_in_range 65 90 byte) h))

word_low : (byte : ℕ) → is_word_byte byte ≡ true → byte < 128
word_low byte h =
    or_either (is_ascii_alphanumeric byte) (byte == 95) h
    (λ e. or_either (is_in_range 48 57 byte || is_in_range 65 90 byte) (is_in_range 97 122 byte) e
    (λ f. or_either (is_in_range 48 57 byte) (is_in_range 65 90 byte) f (low 48 57 byte (omega arith)) (low 65 90 byte (omega arith))) (low 97 122 byte (omega arith)))
    (λ e. let same = eqb-true byte 95 e in omega (arith, same))

digits_are : (ds : List ℕ) → AreDigits ds → list_all is_ascii_digit ds ≡ true
digits_are [] all = refl
digits_are (d ∷ ds) all = and_both (is_ascii_digit d) _ all.0 (digits_are ds all.1)

digits_words : (ds : List ℕ) → list_all is_ascii_digit ds ≡ true → list_all is_word_byte ds ≡ true
digits_words [] all = refl
digits_words (d ∷ ds) all = and_both (is_word_byte d) _ (word_digit d (and_first _ _ all)) (digits_words ds (and_second (is_ascii_digit d) _ all))

name_words : (unit : Unit) → list_all is_word_byte (name_of unit) ≡ true
name_words Year = refl
name_words Week = refl
name_words Day = refl
name_words Hour = refl
name_words Minute = refl
name_words Second = refl
name_words Millisecond = refl

pairs_words : (longest : ℕ) (pairs : List (List ℕ × Unit)) → AreFalling longest pairs → list_all is_word_byte (text_of pairs) ≡ true
pairs_words longest [] falling = refl
pairs_words longest (pair ∷ pairs) falling =
    all_joined is_word_byte pair.0 (named pair.1 (text_of pairs)) (digits_words pair.0 (digits_are pair.0 falling.1))
    (all_joined is_word_byte (name_of pair.1) (text_of pairs) (name_words pair.1) (pairs_words (milliseconds_in pair.1) pairs falling.3))

-- ---- a unit behind a count

unit_tail : (unit : Unit) (later : List ℕ) → IsTail (named unit later)
unit_tail Year later = record { part = refl; point = refl; exponent = no_exponent 121 later refl }
unit_tail Week later = record { part = refl; point = refl; exponent = no_exponent 119 later refl }
unit_tail Day later = record { part = refl; point = refl; exponent = no_exponent 100 later refl }
unit_tail Hour later = record { part = refl; point = refl; exponent = no_exponent 104 later refl }
unit_tail Minute later = record { part = refl; point = refl; exponent = no_exponent 109 later refl }
unit_tail Second later = record { part = refl; point = refl; exponent = no_exponent 115 later refl }
unit_tail Millisecond later = record { part = refl; point = refl; exponent = no_exponent 109 (115 ∷ later) refl }

no_power : (unit : Unit) (later : List ℕ) → exponent_of true (ending_of true (named unit later)) ≡ None
no_power Year later = refl
no_power Week later = refl
no_power Day later = refl
no_power Hour later = refl
no_power Minute later = refl
no_power Second later = refl
no_power Millisecond later = refl

no_mark : (unit : Unit) (d : ℕ) (later : List ℕ) → is_hexadecimal (d ∷ named unit later) ≡ false
no_mark Year d later = and_none (d == 48) false refl
no_mark Week d later = and_none (d == 48) false refl
no_mark Day d later = and_none (d == 48) false refl
no_mark Hour d later = and_none (d == 48) false refl
no_mark Minute d later = and_none (d == 48) false refl
no_mark Second d later = and_none (d == 48) false refl
no_mark Millisecond d later = and_none (d == 48) false refl

no_hexadecimal : (d : ℕ) (ds : List ℕ) (unit : Unit) (later : List ℕ) → list_all is_ascii_digit ds ≡ true → is_hexadecimal (d ∷ (ds ++ named unit later)) ≡ false
no_hexadecimal d [] unit later all = no_mark unit d later
no_hexadecimal d (e ∷ ds) unit later all =
    let is : is_ascii_digit e ≡ true = and_first (is_ascii_digit e) _ all in
    and_none (d == 48) (e == 120 || e == 88) (or_none (e == 120) (e == 88) (differs is_ascii_digit e 120 is refl) (differs is_ascii_digit e 88 is refl))

small : (d : ℕ) → is_ascii_digit d ≡ true → d ≤ 57
small d is = leb-true d 57 (and_second (nat_le 48 d) (nat_le d 57) is)

no_letter : (d letter : ℕ) → 97 ≤ letter → is_ascii_digit d ≡ true → (to_ascii_lowercase d == letter) ≡ false
no_letter d letter high is =
    let few : d ≤ 57 = small d is in
    let low_test : nat_lt d 65 ≡ true = grind (arith, few) in
    let stays : to_ascii_lowercase d ≡ d = ap (λ t. cond t d (cond (nat_lt d 91) (d + 32) d)) low_test in
    false_from_ne_true (to_ascii_lowercase d == letter) (λ e. let same : to_ascii_lowercase d ≡ letter = eqb-true (to_ascii_lowercase d) letter e in omega (arith, same, stays, few, high))

no_word : (d letter : ℕ) (bytes letters : List ℕ) → 97 ≤ letter → is_ascii_digit d ≡ true → is_word (d ∷ bytes) (letter ∷ letters) ≡ false
no_word d letter bytes letters high is = ap (λ t. t && bytes_eq (map to_ascii_lowercase bytes) letters) (no_letter d letter high is)

neither : {A : Type 0} (t : Bool) → ◌≡◌ {A = Option A} (if t then None else None) None
neither true = refl
neither false = refl

-- a count with a unit behind it is no number
no_number : (d : ℕ) (ds : List ℕ) (unit : Unit) (later : List ℕ) → list_all is_ascii_digit (d ∷ ds) ≡ true → literal_answer (d ∷ (ds ++ named unit later)) ≡ Err BadNumber
no_number d ds unit later all =
    let text : List ℕ = d ∷ (ds ++ named unit later) in
    let is : is_ascii_digit d ≡ true = and_first (is_ascii_digit d) _ all in
    let whole = front true text in
    let fraction = fraction_of true (back true text) in
    let none : decimal_of true text ≡ None =
    ap (λ xs. if are_digits whole fraction then decimal_from whole fraction (exponent_of true (ending_of true xs)) else None) (back_is d ds [] (named unit later) all Places.absent (unit_tail unit later))
    ∙ ap (λ found. if are_digits whole fraction then decimal_from whole fraction found else None) (no_power unit later) ∙ neither (are_digits whole fraction) in
    ap (λ (t : Bool). if t then hexadecimal_answer (drop 2 text) else plain_answer true text) (no_hexadecimal d ds unit later (and_second (is_ascii_digit d) _ all))
    ∙ ap (λ (t : Bool). if t then Ok XFrac.PosInf else if is_word text (codes "nan") then Ok XFrac.NaN else decimal_answer (has_leading_zero true text) (decimal_of true text)) (no_word d 105 (ds ++ named unit later) (codes "nf") (omega arith) is)
    ∙ ap (λ (t : Bool). if t then Ok XFrac.NaN else decimal_answer (has_leading_zero true text) (decimal_of true text)) (no_word d 110 (ds ++ named unit later) (codes "an") (omega arith) is)
    ∙ ap (λ found. decimal_answer (has_leading_zero true text) found) none

-- ---- durations

words_fail : (rest : List ℕ) → ends_number rest ≡ true → fails_first is_word_byte rest ≡ true
words_fail [] ends = refl
words_fail (b ∷ rest) ends = first_fails (is_word_byte b) (b == 46) ends

module _ {kept : Kept} where
  pairs_read : (inside : Bool) (at n longest : ℕ) (pair : List ℕ × Unit) (pairs : List (List ℕ × Unit)) → AreFalling longest (pair ∷ pairs)
      → duration_answer (text_of (pair ∷ pairs)) ≡ Ok (record { 0 = pos n }) → Reads kept ends_number inside inside at (text_of (pair ∷ pairs)) (lexeme at (kinds.Duration (record { 0 = pos n })) ∷ [])
  pairs_read inside at n longest ([], unit) pairs falling answer = absurd (omega (arith, falling.0))
  pairs_read inside at n longest (d ∷ ds, unit) pairs falling answer =
      let later : List ℕ = text_of pairs in
      let text : List ℕ = d ∷ (ds ++ named unit later) in
      let all : list_all is_ascii_digit (d ∷ ds) ≡ true = digits_are (d ∷ ds) falling.1 in
      let words : list_all is_word_byte (named unit later) ≡ true = all_joined is_word_byte (name_of unit) later (name_words unit) (pairs_words (milliseconds_in unit) pairs falling.3) in
      let utf8 : is_utf8 text ≡ true = ascii_text is_word_byte word_low text (pairs_words longest ((d ∷ ds, unit) ∷ pairs) falling) in
      run_reads inside at d (ds ++ named unit later) (tokens.Duration (record { 0 = pos n })) (kinds.Duration (record { 0 = pos n })) (and_first (is_ascii_digit d) _ all)
      (λ rest ends.
      let split : text ++ rest ≡ (d ∷ ds) ++ ([] ++ named unit (later ++ rest)) =
      append_assoc (d ∷ ds) (named unit later) rest ∙ ap (λ xs. (d ∷ ds) ++ xs) (append_assoc (name_of unit) later rest) in
      let size : run_len ((d ∷ ds) ++ ([] ++ named unit (later ++ rest))) ≡ length (d ∷ ds) + 0 + prefix_len is_word_byte (named unit (later ++ rest)) =
      run_is d ds [] (named unit (later ++ rest)) all Places.absent (unit_tail unit (later ++ rest)) in
      let letters : prefix_len is_word_byte (named unit (later ++ rest)) ≡ length (named unit later) =
      ap (prefix_len is_word_byte) (sym (append_assoc (name_of unit) later rest)) ∙ run is_word_byte (named unit later) rest words (words_fail rest ends) in
      let long : length ((d ∷ ds) ++ named unit later) ≡ length (d ∷ ds) + length (named unit later) = length-append (d ∷ ds) (named unit later) in
      ap run_len split ∙ omega (arith, size, letters, long))
      (ap (λ (t : Bool). if t then number_kind at text else tokens.Bad (RefusedNumber at)) utf8 ∙ ap (read_kind at text) (no_number d ds unit later all) ∙ ap (duration_kind at text) answer) refl refl refl refl

  by_pairs : (inside : Bool) (at n longest : ℕ) (pairs : List (List ℕ × Unit)) → AreFalling longest pairs → 0 < length (text_of pairs)
      → duration_answer (text_of pairs) ≡ Ok (record { 0 = pos n }) → Reads kept ends_number inside inside at (text_of pairs) (lexeme at (kinds.Duration (record { 0 = pos n })) ∷ [])
  by_pairs inside at n longest [] falling some answer = absurd (omega (arith, some))
  by_pairs inside at n longest (pair ∷ pairs) falling some answer = pairs_read inside at n longest pair pairs falling answer

  -- the laws of durations
  pub duration_reads : ((n : ℕ) → n < 2 ^ 63 → IsDuration (spelling (pos n)) n) → ((text : List ℕ) (n : ℕ) → (duration_in text ≡ Some n) ↔ IsDuration text n)
      → (inside : Bool) (at n : ℕ) → n ≤ hundred_years → Reads kept ends_number inside inside at (spelling (pos n)) (lexeme at (kinds.Duration (record { 0 = pos n })) ∷ [])
  duration_reads spelled found inside at n within =
      let is : IsDuration (spelling (pos n)) n = spelled n (omega (arith, within)) in
      let answer : duration_answer (spelling (pos n)) ≡ Ok (record { 0 = pos n }) =
      ap within_years ((found (spelling (pos n)) n).1 is) ∙ ap (λ (t : Bool). if t then Err OutOfRange else Ok (record { 0 = pos n })) (false_from_ne_true (nat_lt hundred_years n) (λ e. let more = ltb-true hundred_years n e in absurd (omega (arith, more, within)))) in
      let same = is.spells.spelled in
      subst (λ s. Reads kept ends_number inside inside at s (lexeme at (kinds.Duration (record { 0 = pos n })) ∷ [])) same
      (by_pairs inside at n (milliseconds_in Year + 1) is.spells.pairs is.spells.falling (subst (λ s. 0 < length s) (sym same) is.some) (ap duration_answer same ∙ answer))
