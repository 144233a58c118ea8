-- Names and words: `[a-zA-Z_:][a-zA-Z0-9_:]*`. (PromQL's lexer. Between brackets a colon is the sign of a subquery.)
use Rattle.std.specs.Prelude.{ℕ, Bool, ◌==◌, ◌&&◌, ◌||◌, not, if◌then◌else◌, List, codes, is_some}
use Rattle.std.specs.Char.{is_ascii_alphabetic, is_ascii_alphanumeric}
use Rattle.frac_text.specs.Readings.{is_word}
use Rattle.promql_lex.specs.Words.{word_of}
use Rattle.promql_lex.specs.declared.token.TokenKind.{TokenKind}
use Rattle.promql_lex.specs.declared.token.TokenKind.TheVariants.{Name, Word, Number}
use Rattle.xfrac.specs.declared.value.XFrac.TheVariants.{PosInf, NaN}

-- a letter, `_`, and a colon where it isn't between brackets
abbrev pub starts_name : Bool → ℕ → Bool
starts_name inside byte = is_ascii_alphabetic byte || (byte == 95 || (byte == 58 && not inside))

abbrev pub continues_name : Bool → ℕ → Bool
continues_name inside byte = is_ascii_alphanumeric byte || (byte == 95 || (byte == 58 && not inside))

-- one of the words, in any case
abbrev pub is_query_word : List ℕ → Bool
is_query_word text = is_some (word_of text)

-- `Inf` and `NaN` in any case are numbers and no names
abbrev pub name_kind : List ℕ → TokenKind
name_kind text =
    if is_word text (codes "inf") then Number PosInf
    else if is_word text (codes "nan") then Number NaN
    else if is_query_word text then Word
    else Name
