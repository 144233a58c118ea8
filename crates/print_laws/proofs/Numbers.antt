-- Texts that are a number or a duration.
use Rattle.std.proofs.Common.{◌≡◌, ◌∙◌, ℕ, suc, ◌+◌, ◌<◌, ◌++◌, Bool, true, false, not, List, [], ◌∷◌, length, take, drop, refl, ap, sym, arith, append_assoc, length-append, eqb-true}
use Rattle.std.specs.Prelude.{◌&&◌, ◌||◌, ◌==◌, if◌then◌else◌, Ok}
use Rattle.std.specs.Char.{is_ascii_digit}
use Rattle.std.specs.Int.{is_in_range}
use Rattle.std.specs.List.{list_all, prefix_len}
use Rattle.std.specs.Str.{is_utf8}
use Rattle.std.proofs.Math.Seq.{drop-append_seam, take-append_seam}
use Rattle.frac_text.specs.Digits.{back, front, is_part, is_run, is_run_in}
use Rattle.frac_text.specs.Readings.{literal_answer}
use Rattle.frac_text.specs.declared.digits.Base.TheVariants.{Ten}
use Rattle.promql_ast.specs.declared.refusal.QueryRefusal.TheVariants.{BadNumber as RefusedNumber}
use Rattle.promql_lex.specs.Numbers.{begins_exponent, exponent_len, fraction_len, is_mantissa, is_word_byte, mantissa_len, number_kind, point_len, read_kind, run_len, signed_len}
use Rattle.promql_lex.specs.Pieces.{number_at, piece_at, run_kind, token}
use Rattle.promql_lex.specs.Tokens.{inside_behind, is_bad as is_bad_token}
use Rattle.promql_lex.specs.declared.token.TokenKind.{TokenKind}
use Rattle.promql_lex.specs.declared.token.TokenKind.TheVariants as tokens
use Rattle.promql_parts.specs.Lexemes.{kind_of}
use Rattle.promql_parts.specs.Patterned.{Kept, is_bad, takes_pattern}
use Rattle.promql_parts.specs.Steps.{true_false}
use Rattle.promql_parts.specs.declared.lexeme.LexemeKind.{LexemeKind}
use Rattle.promql_parts.specs.declared.lexeme.LexemeKind.TheVariants as kinds
use Rattle.xfrac.specs.declared.value.XFrac.{XFrac}
use Rattle.print_laws.proofs.Bytes.{and_both, and_first, and_none, and_second, differs, ends_number, fails_first, first_fails, not_true, or_either, or_left, or_none, or_right, run}
use Rattle.print_laws.proofs.Lexed.{Reads, alone, lexeme, lexemes_from, one_piece, take_front}
use Rattle.print_laws.proofs.Marks.{ascii_text, low}

-- ---- runs

-- what stands behind the digits of a number, with what stands behind its point
pub record IsTail (tail : List ℕ) : Type 0 where
  pub part : fails_first (is_part true) tail ≡ true
  pub point : fails_first (λ byte. byte == 46) tail ≡ true
  pub exponent : begins_exponent tail ≡ false

-- nothing, or a point and digits
pub data Places : List ℕ → Type 0 where
  absent : Places []
  digits : (ds : List ℕ) → list_all is_ascii_digit ds ≡ true → Places (46 ∷ ds)

are_parts : (ds : List ℕ) → list_all is_ascii_digit ds ≡ true → list_all (is_part true) ds ≡ true
are_parts [] all = refl
are_parts (d ∷ ds) all = and_both (is_part true d) _ (or_left (is_ascii_digit d) (true && d == 95) (and_first _ _ all)) (are_parts ds (and_second (is_ascii_digit d) _ all))

part_fails : (places tail : List ℕ) → Places places → IsTail tail → fails_first (is_part true) (places ++ tail) ≡ true
part_fails places tail absent is = is.part
part_fails places tail (digits ds all) is = refl

run_on : (ds : List ℕ) → list_all is_ascii_digit ds ≡ true → is_run_in Ten true ds ≡ true
run_on [] all = refl
run_on (d ∷ ds) all =
    ap (λ (t : Bool). if t then is_run_in Ten true ds else (true && (d == 95 && is_run_in Ten false ds))) (and_first (is_ascii_digit d) (list_all is_ascii_digit ds) all)
    ∙ run_on ds (and_second (is_ascii_digit d) _ all)

is_whole : (d : ℕ) (ds : List ℕ) → list_all is_ascii_digit (d ∷ ds) ≡ true → is_run false (d ∷ ds) ≡ true
is_whole d ds all =
    ap (λ (t : Bool). if t then is_run_in Ten true ds else (false && (d == 95 && is_run_in Ten false ds))) (and_first (is_ascii_digit d) (list_all is_ascii_digit ds) all)
    ∙ run_on ds (and_second (is_ascii_digit d) _ all)

no_point : (tail : List ℕ) → fails_first (λ byte. byte == 46) tail ≡ true → fraction_len tail ≡ 0
no_point [] h = refl
no_point (b ∷ tail) h = ap (λ (t : Bool). if t then 1 + prefix_len (is_part true) tail else 0) (not_true (b == 46) h)

points : (places tail : List ℕ) → Places places → IsTail tail → fraction_len (places ++ tail) ≡ length places
points places tail absent is = no_point tail is.point
points places tail (digits ds all) is = let size = run (is_part true) ds tail (are_parts ds all) is.part in omega (arith, size)

module _ (d : ℕ) (ds places tail : List ℕ) (whole : list_all is_ascii_digit (d ∷ ds) ≡ true) (behind : Places places) (is : IsTail tail) where
  abbrev text : List ℕ
  text = (d ∷ ds) ++ (places ++ tail)

  whole_part : prefix_len (is_part true) text ≡ length (d ∷ ds)
  whole_part = run (is_part true) (d ∷ ds) (places ++ tail) (are_parts (d ∷ ds) whole) (part_fails places tail behind is)

  pub front_is : front true text ≡ d ∷ ds
  front_is = ap (λ n. take n text) whole_part ∙ take-append_seam (d ∷ ds) (places ++ tail)

  pub back_is : back true text ≡ places ++ tail
  back_is = ap (λ n. drop n text) whole_part ∙ drop-append_seam (d ∷ ds) (places ++ tail)

  mantissa : mantissa_len text ≡ length (d ∷ ds) + length places
  mantissa =
      let point : point_len (front true text) (back true text) ≡ length places =
      ap (λ xs. point_len xs (back true text)) front_is ∙ ap (λ xs. point_len (d ∷ ds) xs) back_is
      ∙ ap (λ (t : Bool). if t then fraction_len (places ++ tail) else 0) (or_right (length (d ∷ ds) == 0) _ (is_whole d ds whole)) ∙ points places tail behind is in
      omega (arith, whole_part, point)

  cut : drop (mantissa_len text) text ≡ tail
  cut =
      ap (λ n. drop n text) (mantissa ∙ sym (length-append (d ∷ ds) places)) ∙ ap (λ xs. drop (length ((d ∷ ds) ++ places)) xs) (sym (append_assoc (d ∷ ds) places tail))
      ∙ drop-append_seam ((d ∷ ds) ++ places) tail

  signed : signed_len text ≡ length (d ∷ ds) + length places
  signed =
      let none : exponent_len (take (mantissa_len text) text) (drop (mantissa_len text) text) ≡ 0 =
      ap (λ (t : Bool). if t then 2 else 0) (and_none (is_mantissa (take (mantissa_len text) text)) _ (ap begins_exponent cut ∙ is.exponent)) in
      omega (arith, mantissa, none)

  pub run_is : run_len text ≡ length (d ∷ ds) + length places + prefix_len is_word_byte tail
  run_is =
      let all : drop (signed_len text) text ≡ tail = ap (λ n. drop n text) (signed ∙ sym mantissa) ∙ cut in
      let words = ap (λ xs. prefix_len is_word_byte xs) all in
      omega (arith, signed, words)

-- ---- pieces

digit_low : (byte : ℕ) → is_ascii_digit byte ≡ true → byte < 128
digit_low byte h = low 48 57 byte (omega arith) h

-- a digit begins a number, and nothing else
piece_begins : (inside : Bool) (at d : ℕ) (bytes : List ℕ) → is_ascii_digit d ≡ true → piece_at inside at d bytes ≡ number_at at (d ∷ bytes)
piece_begins inside at d bytes is =
    let no : (other : ℕ) → is_ascii_digit other ≡ false → (d == other) ≡ false = λ other fails. differs is_ascii_digit d other is fails in
    rw (no 32 refl, no 9 refl, no 13 refl, no 10 refl, no 35 refl, no 34 refl, no 39 refl, no 96 refl, is) refl

stays : (inside : Bool) (d : ℕ) → is_ascii_digit d ≡ true → inside_behind inside d ≡ inside
stays inside d is =
    let no : (other : ℕ) → is_ascii_digit other ≡ false → (d == other) ≡ false = λ other fails. differs is_ascii_digit d other is fails in
    rw (no 91 refl, no 93 refl) refl

-- a text whose run ends where it does
module _ {kept : Kept} where
  pub run_reads : {ends : List ℕ → Bool} (inside : Bool) (at d : ℕ) (bytes : List ℕ) (kind : TokenKind) (as_kind : LexemeKind) → is_ascii_digit d ≡ true
      → ((rest : List ℕ) → ends rest ≡ true → run_len ((d ∷ bytes) ++ rest) ≡ length (d ∷ bytes)) → run_kind at (d ∷ bytes) ≡ kind → is_bad_token kind ≡ false
      → kind_of at (d ∷ bytes) kind ≡ as_kind → takes_pattern as_kind ≡ false → is_bad as_kind ≡ false → Reads kept ends inside inside at (d ∷ bytes) (lexeme at as_kind ∷ [])
  run_reads inside at d bytes kind as_kind is size told good same takes fine =
      alone (lexeme at as_kind) takes fine
      (λ rest ends.
      let piece : piece_at inside at d (bytes ++ rest) ≡ token (suc (length bytes)) kind =
      piece_begins inside at d (bytes ++ rest) is
      ∙ ap (λ n. token n (run_kind at (take n (d ∷ (bytes ++ rest))))) (size rest ends)
      ∙ ap (λ xs. token (suc (length bytes)) (run_kind at xs)) (take_front (d ∷ bytes) rest)
      ∙ ap (λ k. token (suc (length bytes)) k) told in
      one_piece inside at d bytes rest kind piece good
      ∙ ap (λ k. lexeme at k ∷ lexemes_from 0 (inside_behind inside d) (at + suc (length bytes)) rest) same
      ∙ ap (λ t. lexeme at as_kind ∷ lexemes_from 0 t (at + suc (length bytes)) rest) (stays inside d is))

-- ---- numbers

-- what ends a number is no part of it
alnum_digit : (a b c : Bool) (e f : Bool) → not ((((a || b) || c) || e) || f) ≡ true → not (a || (true && e)) ≡ true
alnum_digit true b c e f h = true_false (sym h)
alnum_digit false true c e f h = true_false (sym h)
alnum_digit false false true e f h = true_false (sym h)
alnum_digit false false false true f h = true_false (sym h)
alnum_digit false false false false f h = refl

last_is : (a b : Bool) → not (a || b) ≡ true → not b ≡ true
last_is true b h = true_false (sym h)
last_is false b h = h

pub no_exponent : (letter : ℕ) (bytes : List ℕ) → (letter == 101 || letter == 69) ≡ false → begins_exponent (letter ∷ bytes) ≡ false
no_exponent letter [] h = refl
no_exponent letter (sign ∷ []) h = refl
no_exponent letter (sign ∷ (digit ∷ bytes)) h = ap (λ t. t && ((sign == 43 || sign == 45) && is_ascii_digit digit)) h

pub ends_are_tails : (rest : List ℕ) → ends_number rest ≡ true → IsTail rest
ends_are_tails [] ends = record { part = refl; point = refl; exponent = refl }
ends_are_tails (b ∷ rest) ends = record {
  part = alnum_digit (is_in_range 48 57 b) (is_in_range 65 90 b) (is_in_range 97 122 b) (b == 95) (b == 46) ends;
  point = last_is (is_word_byte b) (b == 46) ends;
  exponent =
      no_exponent b rest
      (or_none (b == 101) (b == 69) (differs (λ byte. not (is_word_byte byte || byte == 46)) b 101 ends refl) (differs (λ byte. not (is_word_byte byte || byte == 46)) b 69 ends refl));
}

no_words : (rest : List ℕ) → ends_number rest ≡ true → prefix_len is_word_byte rest ≡ 0
no_words rest ends = run is_word_byte [] rest refl (fails rest ends) where
  fails : (rest : List ℕ) → ends_number rest ≡ true → fails_first is_word_byte rest ≡ true
  fails [] ends = refl
  fails (b ∷ rest) ends = first_fails (is_word_byte b) (b == 46) ends

digits_low : (s : List ℕ) → list_all is_ascii_digit s ≡ true → is_utf8 s ≡ true
digits_low s all = ascii_text is_ascii_digit digit_low s all

-- a decimal's bytes are digits and a point
abbrev is_decimal_byte : ℕ → Bool
is_decimal_byte byte = is_ascii_digit byte || byte == 46

decimal_low : (byte : ℕ) → is_decimal_byte byte ≡ true → byte < 128
decimal_low byte h = or_either (is_ascii_digit byte) (byte == 46) h (digit_low byte) (λ e. let same = eqb-true byte 46 e in omega (arith, same))

all_either : (s : List ℕ) → list_all is_ascii_digit s ≡ true → list_all is_decimal_byte s ≡ true
all_either [] all = refl
all_either (d ∷ s) all = and_both (is_decimal_byte d) _ (or_left (is_ascii_digit d) (d == 46) (and_first _ _ all)) (all_either s (and_second (is_ascii_digit d) _ all))

pub all_joined : (p : ℕ → Bool) (s t : List ℕ) → list_all p s ≡ true → list_all p t ≡ true → list_all p (s ++ t) ≡ true
all_joined p [] t all others = others
all_joined p (b ∷ s) t all others = and_both (p b) _ (and_first _ _ all) (all_joined p s t (and_second (p b) _ all) others)

places_either : (places : List ℕ) → Places places → list_all is_decimal_byte places ≡ true
places_either places absent = refl
places_either places (digits ds all) = all_either ds all

module _ {kept : Kept} where
  -- digits, and a point and digits, that a literal's reader reads as a number
  pub decimal_reads : (inside : Bool) (at d : ℕ) (ds places : List ℕ) (value : XFrac) → list_all is_ascii_digit (d ∷ ds) ≡ true → Places places → literal_answer (d ∷ (ds ++ places)) ≡ Ok value
      → Reads kept ends_number inside inside at (d ∷ (ds ++ places)) (lexeme at (kinds.Number value) ∷ [])
  decimal_reads inside at d ds places value whole behind reads =
      let utf8 : is_utf8 (d ∷ (ds ++ places)) ≡ true = ascii_text is_decimal_byte decimal_low (d ∷ (ds ++ places)) (all_joined is_decimal_byte (d ∷ ds) places (all_either (d ∷ ds) whole) (places_either places behind)) in
      run_reads inside at d (ds ++ places) (tokens.Number value) (kinds.Number value) (and_first _ _ whole)
      (λ rest ends.
      let size : run_len ((d ∷ ds) ++ (places ++ rest)) ≡ length (d ∷ ds) + length places + prefix_len is_word_byte rest = run_is d ds places rest whole behind (ends_are_tails rest ends) in
      let none = no_words rest ends in
      let long : length ((d ∷ ds) ++ places) ≡ length (d ∷ ds) + length places = length-append (d ∷ ds) places in
      ap run_len (append_assoc (d ∷ ds) places rest) ∙ omega (arith, size, none, long))
      (ap (λ (t : Bool). if t then number_kind at (d ∷ (ds ++ places)) else tokens.Bad (RefusedNumber at)) utf8 ∙ ap (read_kind at (d ∷ (ds ++ places))) reads) refl refl refl refl
