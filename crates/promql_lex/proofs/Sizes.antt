-- How long pieces are.
use Rattle.std.proofs.Common.{◌≡◌, ℕ, suc, ◌+◌, ◌<◌, ◌≤◌, Bool, true, false, List, [], ◌∷◌, length, take, drop, refl, arith, length-drop}
use Rattle.std.specs.Prelude.{◌&&◌, ◌||◌, ◌==◌, not, if◌then◌else◌, Option, Some, None, option_map, IfSome}
use Rattle.std.specs.List.{prefix_len}
use Rattle.std.proofs.lemmas.List.Sums.{prefix_len-le-length}
use Rattle.std.proofs.lemmas.Grind.{common_steps}
use Rattle.frac_text.specs.Decimals.{is_optional_run}
use Rattle.frac_text.specs.Digits.{front, back, is_part}
use Rattle.promql_lex.specs.Gaps.{begins_comment, is_blank, is_comment_byte}
use Rattle.promql_lex.specs.Names.{continues_name, starts_name}
use Rattle.promql_lex.specs.Numbers.{begins_exponent, begins_number, exponent_len, fraction_len, is_mantissa, is_word_byte, mantissa_len, point_len, run_len, signed_len}
use Rattle.promql_lex.specs.Pieces.{closed_piece, gap, name_at, number_at, piece_at, raw_at, raw_piece, sign_at, string_at, token}
use Rattle.promql_lex.specs.Quoted.{body_len, raw_len}
use Rattle.promql_lex.specs.Signs.{begins_double, character_len, is_continuation, is_single}
use Rattle.promql_lex.specs.declared.piece.Piece.{Piece}
use Rattle.promql_lex.specs.declared.token.TokenKind.TheVariants.{Sign, Bad}
use Rattle.promql_ast.specs.declared.refusal.QueryRefusal.TheVariants.{BadToken}

-- what holds of both branches holds of a choice
pub if_both : {A : Type 0} (P : A → Type 0) (b : Bool) (x y : A) → (b ≡ true → P x) → (b ≡ false → P y) → P (if b then x else y)
if_both P true x y left right = left refl
if_both P false x y left right = right refl

and_right : (a b : Bool) → (a && b) ≡ true → b ≡ true
and_right true b h = h
and_right false b h = absurd (cc)

within_fraction : (text : List ℕ) → fraction_len text ≤ length text
within_fraction [] = omega arith
within_fraction (byte ∷ bytes) =
    if_both (λ n. n ≤ length (byte ∷ bytes)) (byte == 46) (1 + prefix_len (is_part true) bytes) 0 (λ _. omega (arith, prefix_len-le-length (is_part true) bytes)) (λ _. omega arith)

within_point : (whole rest : List ℕ) → point_len whole rest ≤ length rest
within_point whole rest = if_both (λ n. n ≤ length rest) (is_optional_run whole) (fraction_len rest) 0 (λ _. within_fraction rest) (λ _. omega arith)

within_mantissa : (text : List ℕ) → mantissa_len text ≤ length text
within_mantissa text =
    omega (arith, prefix_len-le-length (is_part true) text, within_point (front true text) (back true text), length-drop (prefix_len (is_part true) text) text)

exponent_room : (rest : List ℕ) → begins_exponent rest ≡ true → 2 ≤ length rest
exponent_room [] h = absurd (cc)
exponent_room (a ∷ []) h = absurd (cc)
exponent_room (a ∷ (b ∷ [])) h = omega arith
exponent_room (a ∷ (b ∷ (c ∷ rest))) h = omega arith

within_exponent : (mantissa rest : List ℕ) → exponent_len mantissa rest ≤ length rest
within_exponent mantissa rest =
    if_both (λ n. n ≤ length rest) (is_mantissa mantissa && begins_exponent rest) 2 0 (λ h. exponent_room rest (and_right (is_mantissa mantissa) (begins_exponent rest) h)) (λ _. omega arith)

within_signed : (text : List ℕ) → signed_len text ≤ length text
within_signed text =
    omega (arith, within_mantissa text, within_exponent (take (mantissa_len text) text) (drop (mantissa_len text) text), length-drop (mantissa_len text) text)

pub within_run : (text : List ℕ) → run_len text ≤ length text
within_run text =
    omega (arith, within_signed text, prefix_len-le-length is_word_byte (drop (signed_len text) text), length-drop (signed_len text) text)

pub some_run : (byte : ℕ) (bytes : List ℕ) → begins_number byte bytes ≡ true → 0 < run_len (byte ∷ bytes)
some_run byte bytes h = grind (arith, common_steps)

map_below : (o : Option ℕ) (n : ℕ) → IfSome o (λ k. k < n) → IfSome (option_map (λ k. k + 1) o) (λ k. k < suc n)
map_below None n h = tt
map_below (Some k) n h = omega (arith, h)

body_within : (escaped : Bool) (quote : ℕ) (text : List ℕ) → IfSome (body_len escaped quote text) (λ n. n < length text)
body_within escaped quote [] = tt
body_within escaped quote (byte ∷ bytes) =
    let P = λ (o : Option ℕ). IfSome o (λ n. n < length (byte ∷ bytes)) in
    let later = option_map (λ n. n + 1) (body_len (not escaped && byte == 92) quote bytes) in
    if_both P (byte == 10) None (if (not escaped && byte == quote) then Some 0 else later) (λ _. tt)
    (λ _. if_both P (not escaped && byte == quote) (Some 0) later (λ _. omega arith)
    (λ _. map_below (body_len (not escaped && byte == 92) quote bytes) (length bytes) (body_within (not escaped && byte == 92) quote bytes)))

raw_within : (text : List ℕ) → IfSome (raw_len text) (λ n. n < length text)
raw_within [] = tt
raw_within (byte ∷ bytes) =
    let P = λ (o : Option ℕ). IfSome o (λ n. n < length (byte ∷ bytes)) in
    if_both P (byte == 96) (Some 0) (option_map (λ n. n + 1) (raw_len bytes)) (λ _. omega arith) (λ _. map_below (raw_len bytes) (length bytes) (raw_within bytes))

-- a piece has a byte or more, and lies in the text
abbrev pub Fits : ℕ → Piece → Type 0
Fits most p = (0 < p.size) × (p.size ≤ most)

closed_fits : (quote at : ℕ) (text : List ℕ) (o : Option ℕ) → IfSome o (λ n. n < length text) → Fits (1 + length text) (closed_piece quote at text o)
closed_fits quote at text None h = (omega arith, omega arith)
closed_fits quote at text (Some n) h = (omega arith, omega (arith, h))

raw_fits : (at : ℕ) (text : List ℕ) (o : Option ℕ) → IfSome o (λ n. n < length text) → Fits (1 + length text) (raw_piece at text o)
raw_fits at text None h = (omega arith, omega arith)
raw_fits at text (Some n) h = (omega arith, omega (arith, h))

double_room : (a : ℕ) (text : List ℕ) → begins_double a text ≡ true → 1 ≤ length text
double_room a [] h = absurd (cc)
double_room a (b ∷ text) h = omega arith

-- a sign of two bytes, a sign of one, or a refused character
pub by_sign : (P : Piece → Type 0) (at byte : ℕ) (bytes : List ℕ) → (begins_double byte bytes ≡ true → P (token 2 Sign)) → P (token 1 Sign)
    → P (token (character_len bytes) (Bad (BadToken at))) → P (sign_at at byte bytes)
by_sign P at byte bytes two one bad =
    if_both P (begins_double byte bytes) (token 2 Sign) (if is_single byte then token 1 Sign else token (character_len bytes) (Bad (BadToken at))) two
    (λ _. if_both P (is_single byte) (token 1 Sign) (token (character_len bytes) (Bad (BadToken at))) (λ _. one) (λ _. bad))

-- the cases of what stands at the front of a text
module _ (P : Piece → Type 0) (inside : Bool) (at byte : ℕ) (bytes : List ℕ) where
  abbrev but_number : Piece
  but_number = if starts_name inside byte then name_at inside (byte ∷ bytes) else sign_at at byte bytes

  abbrev but_raw : Piece
  but_raw = if begins_number byte bytes then number_at at (byte ∷ bytes) else but_number

  abbrev but_quoted : Piece
  but_quoted = if byte == 96 then raw_at at bytes else but_raw

  abbrev but_comment : Piece
  but_comment = if (byte == 34 || byte == 39) then string_at byte at bytes else but_quoted

  abbrev but_blank : Piece
  but_blank = if begins_comment byte then gap (1 + prefix_len is_comment_byte bytes) else but_comment

  pub by_piece : (is_blank byte ≡ true → P (gap 1)) → (begins_comment byte ≡ true → P (gap (1 + prefix_len is_comment_byte bytes))) → ((byte == 34 || byte == 39) ≡ true → P (string_at byte at bytes)) → ((byte == 96) ≡ true → P (raw_at at bytes))
      → (begins_number byte bytes ≡ true → P (number_at at (byte ∷ bytes))) → (starts_name inside byte ≡ true → P (name_at inside (byte ∷ bytes)))
      → (is_blank byte ≡ false → begins_comment byte ≡ false → (byte == 34 || byte == 39) ≡ false → (byte == 96) ≡ false → begins_number byte bytes ≡ false → starts_name inside byte ≡ false → P (sign_at at byte bytes))
      → P (piece_at inside at byte bytes)
  by_piece blank comment quoted raw number name sign =
      if_both P (is_blank byte) (gap 1) but_blank blank
      (λ a. if_both P (begins_comment byte) (gap (1 + prefix_len is_comment_byte bytes)) but_comment comment
      (λ b. if_both P (byte == 34 || byte == 39) (string_at byte at bytes) but_quoted quoted
      (λ c. if_both P (byte == 96) (raw_at at bytes) but_raw raw
      (λ d. if_both P (begins_number byte bytes) (number_at at (byte ∷ bytes)) but_number number
      (λ e. if_both P (starts_name inside byte) (name_at inside (byte ∷ bytes)) (sign_at at byte bytes) name
      (λ f. sign a b c d e f))))))

sign_fits : (at byte : ℕ) (bytes : List ℕ) → Fits (1 + length bytes) (sign_at at byte bytes)
sign_fits at byte bytes =
    by_sign (Fits (1 + length bytes)) at byte bytes (λ h. (omega arith, omega (arith, double_room byte bytes h))) (omega arith, omega arith)
    (omega arith, omega (arith, prefix_len-le-length is_continuation bytes))

pub some_name : (inside : Bool) (byte : ℕ) (bytes : List ℕ) → starts_name inside byte ≡ true → 0 < prefix_len (continues_name inside) (byte ∷ bytes)
some_name inside byte bytes h = grind (arith, common_steps)

pub piece_fits : (inside : Bool) (at byte : ℕ) (bytes : List ℕ) → Fits (1 + length bytes) (piece_at inside at byte bytes)
piece_fits inside at byte bytes =
    by_piece (Fits (1 + length bytes)) inside at byte bytes (λ _. (omega arith, omega arith)) (λ _. (omega arith, omega (arith, prefix_len-le-length is_comment_byte bytes)))
    (λ _. closed_fits byte at bytes (body_len false byte bytes) (body_within false byte bytes)) (λ _. raw_fits at bytes (raw_len bytes) (raw_within bytes))
    (λ h. (some_run byte bytes h, omega (arith, within_run (byte ∷ bytes))))
    (λ h. (some_name inside byte bytes h, omega (arith, prefix_len-le-length (continues_name inside) (byte ∷ bytes))))
    (λ _ _ _ _ _ _. sign_fits at byte bytes)
