-- Which sign a lexeme is.
use Rattle.std.specs.Prelude.{ℕ, Bool, false, ◌==◌}
use Rattle.promql_parts.specs.declared.lexeme.Sign.{Sign}
use Rattle.promql_parts.specs.declared.lexeme.Sign.TheVariants.{LeftParen, RightParen, LeftBrace, RightBrace, LeftBracket, RightBracket, Comma, Colon, Plus, Minus, Star, Slash, Percent, Caret, Equal, EqualTwice, Unequal, Matches, Unmatched, Less, LessEqual, Greater, GreaterEqual, AtSign}
use Rattle.promql_parts.specs.declared.lexeme.LexemeKind.{LexemeKind}
use Rattle.promql_parts.specs.declared.lexeme.LexemeKind.TheVariants as kinds

-- each sign has a number of its own
abbrev pub number : Sign → ℕ
number LeftParen = 1
number RightParen = 2
number LeftBrace = 3
number RightBrace = 4
number LeftBracket = 5
number RightBracket = 6
number Comma = 7
number Colon = 8
number Plus = 9
number Minus = 10
number Star = 11
number Slash = 12
number Percent = 13
number Caret = 14
number Equal = 15
number EqualTwice = 16
number Unequal = 17
number Matches = 18
number Unmatched = 19
number Less = 20
number LessEqual = 21
number Greater = 22
number GreaterEqual = 23
number AtSign = 24

abbrev pub is_sign : Sign → LexemeKind → Bool
is_sign sign (kinds.Sign other) = number sign == number other
is_sign sign _ = false
