-- What holds of the tokens of every text: how their spans lie in it, and what each spelling is.
use Rattle.std.specs.Prelude.{◌≡◌, ℕ, ◌+◌, ◌-◌, ◌<◌, ◌≤◌, Bool, true, false, ◌++◌, ◌==◌, ◌&&◌, ◌||◌, if◌then◌else◌, List, [], ◌∷◌, length, take, drop, None, Some, IsTrue}
use Rattle.promql_lex.specs.Gaps.{begins_comment, is_blank, is_comment_byte}
use Rattle.promql_lex.specs.Names.{continues_name, name_kind, starts_name}
use Rattle.promql_lex.specs.Numbers.{begins_number, begins_unit, ends_count, run_len}
use Rattle.promql_lex.specs.Pieces.{decoded_kind, run_kind, text_kind}
use Rattle.promql_lex.specs.Quoted.{body_len, decoded, raw_len}
use Rattle.promql_lex.specs.Signs.{begins_double, is_continuation, is_double, is_single}
use Rattle.promql_lex.specs.Tokens.{is_bad}
use Rattle.promql_lex.specs.declared.token.Token.{Token}
use Rattle.promql_lex.specs.declared.token.TokenKind.{TokenKind}
use Rattle.promql_lex.specs.declared.token.TokenKind.TheVariants.{Sign, Bad}
use Rattle.promql_ast.specs.declared.refusal.QueryRefusal.TheVariants.{BadToken, Unterminated}
use Rattle.std.specs.List.{list_all}

-- blanks and comments alone (`commented`: the text begins within a comment)
abbrev pub is_gap : Bool → List ℕ → Bool
is_gap commented [] = true
is_gap true (byte ∷ bytes) = is_gap (is_comment_byte byte) bytes
is_gap false (byte ∷ bytes) = if begins_comment byte then is_gap true bytes else (is_blank byte && is_gap false bytes)

-- the tokens lie in a text that begins at a place: each has a byte or more, and stands behind the one before; what stands
-- before a token, and behind the last one, is blanks and comments alone, save behind a refused spelling
abbrev pub AreLaidOut : ℕ → List ℕ → List Token → Type 0
AreLaidOut place text [] = IsTrue (is_gap false text)
AreLaidOut place text (t ∷ ts) =
    (place ≤ t.at) × (t.at < t.end) × (t.end ≤ place + length text) × IsTrue (is_gap false (take (t.at - place) text))
    × (is_bad t.kind ≡ true → ts ≡ []) × (is_bad t.kind ≡ false → AreLaidOut t.end (drop (t.end - place) text) ts)

-- the first byte of a spelling passes a test
abbrev pub first_is : (ℕ → Bool) → List ℕ → Bool
first_is p [] = false
first_is p (byte ∷ bytes) = p byte

abbrev pub is_quote : ℕ → Bool
is_quote byte = byte == 34 || byte == 39

abbrev pub is_sign : List ℕ → Bool
is_sign (a ∷ []) = is_single a
is_sign (a ∷ (b ∷ [])) = is_double a b
is_sign _ = false

-- a number's first bytes, and nothing behind the run that they begin
abbrev pub is_whole_run : List ℕ → Bool
is_whole_run [] = false
is_whole_run (byte ∷ bytes) = begins_number byte bytes && run_len (byte ∷ bytes) == length (byte ∷ bytes)

-- a byte, with what stands behind it, that begins a gap, a string, a number, a name or a sign
abbrev pub begins_piece : ℕ → List ℕ → Bool
begins_piece byte bytes =
    is_blank byte || (begins_comment byte || (is_quote byte || (byte == 96
    || (begins_number byte bytes || (starts_name false byte || (begins_double byte bytes || is_single byte))))))

-- what a spelling at a place is: its kind is told by its bytes alone
pub data IsSpelling (at : ℕ) : List ℕ → TokenKind → Type 0 where
  -- a name, which may be a word, or `Inf` or `NaN`
  named : (inside : Bool) (s : List ℕ) → IsTrue (first_is (starts_name inside) s) → IsTrue (list_all (continues_name inside) s) → IsSpelling at s (name_kind s)
  -- a run of digits: the number or the duration that its reader gives, or the refusal
  counted : (s : List ℕ) → IsTrue (is_whole_run s) → IsSpelling at s (run_kind at s)
  -- a body between two equal quotes, of which the second is the first that closes: what it stands for, or its first bad escape
  quoted : (quote : ℕ) (body s : List ℕ) → IsTrue (is_quote quote) → body_len false quote (body ++ quote ∷ []) ≡ Some (length body) → s ≡ quote ∷ body ++ quote ∷ []
      → IsSpelling at s (decoded_kind at (decoded 0 quote (at + 1) body))
  -- a body without backquotes between two of them
  raw : (body s : List ℕ) → raw_len (body ++ 96 ∷ []) ≡ Some (length body) → s ≡ 96 ∷ body ++ 96 ∷ [] → IsSpelling at s (text_kind at body)
  -- a quote that nothing closes up to the end of its line or of the text
  unclosed : (quote : ℕ) (body s : List ℕ) → IsTrue (is_quote quote) → body_len false quote body ≡ None → s ≡ quote ∷ body → IsSpelling at s (Bad (Unterminated at))
  -- a backquote that none follows
  raw_unclosed : (body s : List ℕ) → raw_len body ≡ None → s ≡ 96 ∷ body → IsSpelling at s (Bad (Unterminated at))
  -- a sign
  signed : (s : List ℕ) → IsTrue (is_sign s) → IsSpelling at s Sign
  -- a character that begins nothing
  refused : (byte : ℕ) (bytes s : List ℕ) → begins_piece byte bytes ≡ false → IsTrue (list_all is_continuation bytes) → s ≡ byte ∷ bytes → IsSpelling at s (Bad (BadToken at))

-- somewhere in a run a unit's letter stands right behind what a count ends with
pub data HasUnit (hexadecimal : Bool) (run : List ℕ) : Type 0 where
  side_by_side : (front : List ℕ) (count unit : ℕ) (back : List ℕ) → run ≡ front ++ count ∷ (unit ∷ back) → IsTrue (ends_count hexadecimal count)
      → IsTrue (begins_unit hexadecimal unit) → HasUnit hexadecimal run
