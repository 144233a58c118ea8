-- The lines of a script, its blocks, and the words of a line. (The promqltest format.)
use Rattle.std.specs.Prelude.{ℕ, ◌+◌, Bool, false, if◌then◌else◌, List, [], ◌∷◌, ◌==◌, ◌||◌, not, filter, drop, length, reverse, take, take_while, count_by, Option, None, Some}
use Rattle.std.specs.List.{prefix_len, slice_split}
use Rattle.std.specs.Str.Lossy.{utf8_valid_len}

-- a space or a tab
abbrev pub is_blank : ℕ → Bool
is_blank byte = byte == 32 || byte == 9

-- a blank or a carriage return
abbrev pub is_edge : ℕ → Bool
is_edge byte = is_blank byte || byte == 13

abbrev pub is_line_feed : ℕ → Bool
is_line_feed byte = byte == 10

abbrev pub is_empty : {X : Type 0} → List X → Bool
is_empty xs = length xs == 0

-- a text from its first byte on that is no blank
abbrev pub from_blank : List ℕ → List ℕ
from_blank [] = []
from_blank (byte ∷ bytes) = if is_blank byte then from_blank bytes else byte ∷ bytes

-- a text from its first byte on that is no blank and no carriage return
abbrev pub from_text : List ℕ → List ℕ
from_text [] = []
from_text (byte ∷ bytes) = if is_edge byte then from_text bytes else byte ∷ bytes

-- a text without the blanks and carriage returns at both ends
abbrev pub trimmed : List ℕ → List ℕ
trimmed text = reverse (from_text (reverse (from_text text)))

-- the words of a line, parted by blanks
abbrev pub words_of : List ℕ → List (List ℕ)
words_of text = filter (λ word. not (is_empty word)) (slice_split is_blank text)

-- the first word of a line, and the text behind it from the next word on
abbrev pub first_word : List ℕ → List ℕ
first_word text = take_while (λ byte. not (is_blank byte)) text

abbrev pub behind_word : List ℕ → List ℕ
behind_word text = from_blank (drop (prefix_len (λ byte. not (is_blank byte)) text) text)

-- the words behind a series: a blank parts them from it
abbrev pub words_behind : List ℕ → List (List ℕ)
words_behind [] = []
words_behind (first ∷ rest) = if is_blank first then words_of rest else []

-- a line that begins with `#` is a comment, and counts as empty
abbrev pub is_comment : List ℕ → Bool
is_comment [] = false
is_comment (first ∷ rest) = first == 35

-- what a line says: its text without blanks and carriage returns at the ends, and nothing where it is a comment
abbrev pub said_by : List ℕ → List ℕ
said_by text = if is_comment (trimmed text) then [] else trimmed text

-- a line's number, and what it says
pub record Numbered : Type 0 where
  pub number : ℕ
  pub text : List ℕ

-- texts as lines, numbered from n
abbrev pub numbered_from : ℕ → List (List ℕ) → List Numbered
numbered_from n [] = []
numbered_from n (text ∷ texts) = record { number = n; text = said_by text } ∷ numbered_from (n + 1) texts

-- the lines of a file, parted at line feeds and numbered from 1
abbrev pub lines_of : List ℕ → List Numbered
lines_of bytes = numbered_from 1 (slice_split is_line_feed bytes)

-- a line that says nothing parts blocks
abbrev pub has_no_text : Numbered → Bool
has_no_text line = is_empty line.text

-- the blocks of a file
abbrev pub blocks_of : List ℕ → List (List Numbered)
blocks_of bytes = slice_split has_no_text (lines_of bytes)

-- the line with the first byte that breaks the encoding UTF-8, if there is one
abbrev pub broken_line : List ℕ → Option ℕ
broken_line bytes =
    if utf8_valid_len bytes == length bytes then None else Some (1 + count_by is_line_feed (take (utf8_valid_len bytes) bytes))
