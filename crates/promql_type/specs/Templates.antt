-- The replacement text of label_replace, by Go's regexp.Expand, which the Prometheus querying documentation refers to:
-- `$name` and `${name}` are a group, `$$` is a dollar sign. This project takes numbered groups alone.
use Rattle.std.specs.Prelude.{ℕ, Bool, false, not, ◌==◌, ◌&&◌, ◌||◌, if◌then◌else◌, List, [], ◌∷◌, take, drop}
use Rattle.std.specs.Char.{is_ascii_digit, is_ascii_alphanumeric}
use Rattle.std.specs.List.{list_all, prefix_len}

-- a letter, a digit or an underscore
abbrev pub is_word : ℕ → Bool
is_word byte = is_ascii_alphanumeric byte || byte == 95

-- the letters, digits and underscores at the front of a text, and what stands behind them
abbrev pub word_of : List ℕ → List ℕ
word_of text = take (prefix_len is_word text) text

abbrev pub after_word : List ℕ → List ℕ
after_word text = drop (prefix_len is_word text) text

-- a word that isn't all digits
abbrev pub is_name : List ℕ → Bool
is_name word = not (list_all is_ascii_digit word)

-- whether a text begins with a closing brace
abbrev pub is_closed : List ℕ → Bool
is_closed [] = false
is_closed (byte ∷ rest) = byte == 125

-- whether the text behind a dollar sign begins with a name, in braces (123 opens and 125 closes) or without
abbrev pub has_name : List ℕ → Bool
has_name [] = false
has_name (byte ∷ rest) = if byte == 123 then is_closed (after_word rest) && is_name (word_of rest) else is_name (word_of (byte ∷ rest))

-- whether the rest of a text refers to a group by name, where the byte before it is a dollar sign (36) that may begin a
-- reference, or is not
abbrev pub named_from : Bool → List ℕ → Bool
named_from refers [] = false
named_from refers (byte ∷ rest) = (refers && has_name (byte ∷ rest)) || named_from (byte == 36 && not refers) rest

-- whether a text refers to a group by name
abbrev pub is_named : List ℕ → Bool
is_named text = named_from false text
