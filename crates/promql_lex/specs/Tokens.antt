-- The tokens of a query's text. (PromQL's lexer.)
use Rattle.std.specs.Prelude.{ℕ, zero, suc, ◌+◌, ◌-◌, Bool, true, false, ◌==◌, if◌then◌else◌, List, [], ◌∷◌, Option, Some, None}
use Rattle.promql_lex.specs.Pieces.{piece_at}
use Rattle.promql_lex.specs.declared.piece.Piece.{Piece}
use Rattle.promql_lex.specs.declared.token.Token.{Token}
use Rattle.promql_lex.specs.declared.token.TokenKind.{TokenKind}
use Rattle.promql_lex.specs.declared.token.TokenKind.TheVariants.{Bad}

abbrev pub is_bad : TokenKind → Bool
is_bad (Bad refusal) = true
is_bad _ = false

abbrev pub token_of : ℕ → ℕ → TokenKind → Token
token_of at size kind = record { at = at; end = at + size; kind = kind }

-- a piece's token before the later ones; a refused spelling is the last one
abbrev pub with_kind : ℕ → ℕ → Option TokenKind → List Token → List Token
with_kind at size None more = more
with_kind at size (Some kind) more = token_of at size kind ∷ (if is_bad kind then [] else more)

abbrev pub with_piece : ℕ → Piece → List Token → List Token
with_piece at p more = with_kind at p.size p.kind more

-- whether a piece's later ones stand between brackets: behind a sign `[`, up to the next sign `]`. No other piece begins
-- with one of these
abbrev pub inside_behind : Bool → ℕ → Bool
inside_behind inside byte = if byte == 91 then true else if byte == 93 then false else inside

-- the tokens of the text from a place on; its first `wait` bytes are part of a piece that is cut
abbrev pub tokens_from : ℕ → Bool → ℕ → List ℕ → List Token
tokens_from wait inside at [] = []
tokens_from (suc wait) inside at (byte ∷ bytes) = tokens_from wait inside (at + 1) bytes
tokens_from zero inside at (byte ∷ bytes) =
    with_piece at (piece_at inside at byte bytes) (tokens_from ((piece_at inside at byte bytes).size - 1) (inside_behind inside byte) (at + 1) bytes)

abbrev pub tokens_of : List ℕ → List Token
tokens_of text = tokens_from 0 false 0 text
