-- Lexemes: what each token is to the grammar. (PromQL's lexer: its signs and its words.)
use Rattle.std.specs.Prelude.{ℕ, ◌-◌, if◌then◌else◌, List, [], ◌∷◌, map, take, drop, Option, Some, None, bytes_eq, codes}
use Rattle.std.specs.Map.{lookup}
use Rattle.std.specs.Str.{is_utf8}
use Rattle.promql_ast.specs.declared.refusal.QueryRefusal.TheVariants.{BadToken}
use Rattle.promql_lex.specs.Words.{word_of}
use Rattle.promql_lex.specs.declared.token.Token.{Token}
use Rattle.promql_lex.specs.declared.token.TokenKind.{TokenKind}
use Rattle.promql_lex.specs.declared.token.TokenKind.TheVariants as tokens
use Rattle.promql_lex.specs.declared.word.Word.{Word}
use Rattle.promql_parts.specs.declared.lexeme.Sign.{Sign}
use Rattle.promql_parts.specs.declared.lexeme.Sign.TheVariants.{LeftParen, RightParen, LeftBrace, RightBrace, LeftBracket, RightBracket, Comma, Colon, Plus, Minus, Star, Slash, Percent, Caret, Equal, EqualTwice, Unequal, Matches, Unmatched, Less, LessEqual, Greater, GreaterEqual, AtSign}
use Rattle.promql_parts.specs.declared.lexeme.Lexeme.{Lexeme}
use Rattle.promql_parts.specs.declared.lexeme.LexemeKind.{LexemeKind}
use Rattle.promql_parts.specs.declared.lexeme.LexemeKind.TheVariants as kinds

-- each sign beside its spelling
abbrev pub signs : List (List ℕ × Sign)
signs =
    (codes "(", LeftParen) ∷ (codes ")", RightParen) ∷ (codes "{", LeftBrace) ∷ (codes "}", RightBrace) ∷ (codes "[", LeftBracket) ∷ (codes "]", RightBracket)
    ∷ (codes ",", Comma) ∷ (codes ":", Colon) ∷ (codes "+", Plus) ∷ (codes "-", Minus) ∷ (codes "*", Star) ∷ (codes "/", Slash) ∷ (codes "%", Percent)
    ∷ (codes "^", Caret) ∷ (codes "=", Equal) ∷ (codes "==", EqualTwice) ∷ (codes "!=", Unequal) ∷ (codes "=~", Matches) ∷ (codes "!~", Unmatched)
    ∷ (codes "<", Less) ∷ (codes "<=", LessEqual) ∷ (codes ">", Greater) ∷ (codes ">=", GreaterEqual) ∷ (codes "@", AtSign) ∷ []

abbrev pub sign_of : List ℕ → Option Sign
sign_of spelling = lookup (λ other. bytes_eq other spelling) signs

-- the bytes of a token
abbrev pub spelling_in : List ℕ → ℕ → ℕ → List ℕ
spelling_in text at end = take (end - at) (drop at text)

-- what no lexer gives is no token
abbrev pub name_kind : ℕ → List ℕ → LexemeKind
name_kind at spelling = if is_utf8 spelling then kinds.Name spelling else kinds.Bad (BadToken at)

abbrev pub word_kind : ℕ → List ℕ → Option Word → LexemeKind
word_kind at spelling None = kinds.Bad (BadToken at)
word_kind at spelling (Some word) = if is_utf8 spelling then kinds.Word word spelling else kinds.Bad (BadToken at)

abbrev pub sign_kind : ℕ → Option Sign → LexemeKind
sign_kind at None = kinds.Bad (BadToken at)
sign_kind at (Some sign) = kinds.Sign sign

abbrev pub kind_of : ℕ → List ℕ → TokenKind → LexemeKind
kind_of at spelling tokens.Name = name_kind at spelling
kind_of at spelling tokens.Word = word_kind at spelling (word_of spelling)
kind_of at spelling tokens.Sign = sign_kind at (sign_of spelling)
kind_of at spelling (tokens.Number value) = kinds.Number value
kind_of at spelling (tokens.Duration duration) = kinds.Duration duration
kind_of at spelling (tokens.Quoted bytes) = kinds.Quoted bytes
kind_of at spelling (tokens.Bad refusal) = kinds.Bad refusal

abbrev pub lexeme_of : List ℕ → Token → Lexeme
lexeme_of text t = record { at = t.at; kind = kind_of t.at (spelling_in text t.at t.end) t.kind }

abbrev pub lexemes_of : List ℕ → List Token → List Lexeme
lexemes_of text tokens = map (lexeme_of text) tokens
