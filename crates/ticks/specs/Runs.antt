-- How a text falls into its first digits, what stands before the next digit, and the rest. This is this project's own,
-- for reading durations.
use Rattle.std.specs.Prelude.{ℕ, List, take, drop}
use Rattle.std.specs.Char.{is_ascii_digit}
use Rattle.std.specs.List.{position_or_len, prefix_len}

-- the digits at the front, and what stands after them
abbrev pub digits_of : List ℕ → List ℕ
digits_of text = take (prefix_len is_ascii_digit text) text

abbrev pub after_digits : List ℕ → List ℕ
after_digits text = drop (prefix_len is_ascii_digit text) text

-- what stands before the first digit, and from it on
abbrev pub name_at : List ℕ → List ℕ
name_at text = take (position_or_len is_ascii_digit text) text

abbrev pub after_name : List ℕ → List ℕ
after_name text = drop (position_or_len is_ascii_digit text) text
