-- What stands at the front of a text: a token, blanks, or a comment. The longest token wins.
use Rattle.std.specs.Prelude.{ℕ, ◌+◌, Bool, false, ◌==◌, ◌||◌, if◌then◌else◌, List, ◌∷◌, length, take, Option, Some, None, Result, Ok, Err}
use Rattle.std.specs.List.{prefix_len}
use Rattle.std.specs.Str.{is_utf8}
use Rattle.promql_lex.specs.Gaps.{is_blank, begins_comment, is_comment_byte}
use Rattle.promql_lex.specs.Names.{continues_name, name_kind, starts_name}
use Rattle.promql_lex.specs.Numbers.{begins_number, number_kind, run_len}
use Rattle.promql_lex.specs.Quoted.{body_len, decoded, raw_len}
use Rattle.promql_lex.specs.Signs.{begins_double, character_len, is_single}
use Rattle.promql_lex.specs.declared.piece.Piece.{Piece}
use Rattle.promql_lex.specs.declared.token.TokenKind.{TokenKind}
use Rattle.promql_lex.specs.declared.token.TokenKind.TheVariants.{Quoted, Sign, Bad}
use Rattle.promql_ast.specs.declared.refusal.QueryRefusal.TheVariants.{BadToken, Unterminated, BadEscape, BadNumber}

abbrev pub gap : ℕ → Piece
gap size = record { size = size; kind = None }

abbrev pub token : ℕ → TokenKind → Piece
token size kind = record { size = size; kind = Some kind }

-- a string is a text, since its quotes and escapes are bytes below 128
abbrev pub text_kind : ℕ → List ℕ → TokenKind
text_kind at bytes = if is_utf8 bytes then Quoted bytes else Bad (BadToken at)

abbrev pub decoded_kind : ℕ → Result (List ℕ) ℕ → TokenKind
decoded_kind at (Ok bytes) = text_kind at bytes
decoded_kind at (Err place) = Bad (BadEscape place)

-- a string without its end goes to the text's end, and stands at its first byte
abbrev pub open_piece : ℕ → List ℕ → Piece
open_piece at text = token (1 + length text) (Bad (Unterminated at))

abbrev pub closed_piece : ℕ → ℕ → List ℕ → Option ℕ → Piece
closed_piece quote at text None = open_piece at text
closed_piece quote at text (Some size) = token (size + 2) (decoded_kind at (decoded 0 quote (at + 1) (take size text)))

abbrev pub raw_piece : ℕ → List ℕ → Option ℕ → Piece
raw_piece at text None = open_piece at text
raw_piece at text (Some size) = token (size + 2) (text_kind at (take size text))

-- a string, from behind its opening quote
abbrev pub string_at : ℕ → ℕ → List ℕ → Piece
string_at quote at text = closed_piece quote at text (body_len false quote text)

abbrev pub raw_at : ℕ → List ℕ → Piece
raw_at at text = raw_piece at text (raw_len text)

-- what a run of digits is, which is a text, since all its bytes are below 128
abbrev pub run_kind : ℕ → List ℕ → TokenKind
run_kind at run = if is_utf8 run then number_kind at run else Bad (BadNumber at)

abbrev pub number_at : ℕ → List ℕ → Piece
number_at at text = token (run_len text) (run_kind at (take (run_len text) text))

abbrev pub name_at : Bool → List ℕ → Piece
name_at inside text = token (prefix_len (continues_name inside) text) (name_kind (take (prefix_len (continues_name inside) text) text))

-- a sign, or a character that begins no token
abbrev pub sign_at : ℕ → ℕ → List ℕ → Piece
sign_at at byte bytes =
    if begins_double byte bytes then token 2 Sign
    else if is_single byte then token 1 Sign
    else token (character_len bytes) (Bad (BadToken at))

-- the piece that begins with this byte, at this place
abbrev pub piece_at : Bool → ℕ → ℕ → List ℕ → Piece
piece_at inside at byte bytes =
    if is_blank byte then gap 1
    else if begins_comment byte then gap (1 + prefix_len is_comment_byte bytes)
    else if (byte == 34 || byte == 39) then string_at byte at bytes
    else if byte == 96 then raw_at at bytes
    else if begins_number byte bytes then number_at at (byte ∷ bytes)
    else if starts_name inside byte then name_at inside (byte ∷ bytes)
    else sign_at at byte bytes
