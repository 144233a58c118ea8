-- What stands between tokens: blanks and comments. (PromQL's lexer.)
use Rattle.std.specs.Prelude.{ℕ, Bool, ◌==◌, ◌||◌, not}

-- space, tab, carriage return, line feed
abbrev pub is_blank : ℕ → Bool
is_blank byte = byte == 32 || (byte == 9 || (byte == 13 || byte == 10))

-- a comment begins with `#` and goes up to the end of its line
abbrev pub begins_comment : ℕ → Bool
begins_comment byte = byte == 35

abbrev pub is_comment_byte : ℕ → Bool
is_comment_byte byte = not (byte == 10)
