-- The replacement of label_replace: a text in which `$1` and `${1}` stand for what a group of the pattern matched, and `$$` for
-- `$`. (Prometheus querying, "label_replace", by Go's rules of expansion; named groups are left out.)
use Rattle.std.specs.Prelude.{ℕ, zero, suc, ◌+◌, ◌-◌, ◌==◌, nat_le, Bool, false, ◌&&◌, ◌||◌, not, List, [], ◌∷◌, ◌++◌, length, take, drop, slice_get, Option, None, Some, if◌then◌else◌}
use Rattle.std.specs.Char.{is_ascii_digit}
use Rattle.std.specs.List.{list_all, prefix_len}
use Rattle.std.specs.Str.Parse.{digits_value}

-- what the groups of a pattern matched, from group 0 on: where each begins and ends in a value, if it took part
abbrev pub Spans : Type 0
Spans = List (Option (ℕ × ℕ))

-- a letter of ASCII, a digit or `_`
abbrev pub is_word_byte : ℕ → Bool
is_word_byte b = is_ascii_digit b || ((nat_le 97 b && nat_le b 122) || ((nat_le 65 b && nat_le b 90) || b == 95))

-- the longest run of such bytes at the front
abbrev pub name_in : List ℕ → List ℕ
name_in text = take (prefix_len is_word_byte text) text

-- the number of a group: digits alone, without a leading zero
abbrev pub group_number : List ℕ → Option ℕ
group_number [] = None
group_number (first ∷ []) = if is_ascii_digit first then Some (first - 48) else None
group_number (first ∷ second ∷ rest) =
    if list_all is_ascii_digit (first ∷ second ∷ rest) && not (first == 48) then Some (digits_value 10 (first ∷ second ∷ rest)) else None

-- what a group matched; nothing where it took no part, or isn't there
abbrev pub span_text : List ℕ → Option (Option (ℕ × ℕ)) → List ℕ
span_text value (Some (Some (from, to))) = take (to - from) (drop from value)
span_text value _ = []

abbrev pub group_text : Spans → List ℕ → Option ℕ → List ℕ
group_text spans value None = []
group_text spans value (Some n) = span_text value (slice_get spans n)

-- whether a text is a name in braces, behind the first brace
abbrev pub is_braced : List ℕ → Bool
is_braced text = not (length (name_in text) == 0) && closes (drop (length (name_in text)) text)
  where
    closes : List ℕ → Bool
    closes [] = false
    closes (b ∷ rest) = b == 125

-- what stands for a `$` and the bytes after it that belong to it, and how many these are
abbrev pub reference_text : Spans → List ℕ → List ℕ → List ℕ
reference_text spans value [] = 36 ∷ []
reference_text spans value (b ∷ rest) =
    if b == 36 then 36 ∷ []
    else if is_word_byte b then group_text spans value (group_number (name_in (b ∷ rest)))
    else if b == 123 && is_braced rest then group_text spans value (group_number (name_in rest))
    else 36 ∷ []

abbrev pub reference_size : List ℕ → ℕ
reference_size [] = 0
reference_size (b ∷ rest) =
    if b == 36 then 1
    else if is_word_byte b then length (name_in (b ∷ rest))
    else if b == 123 && is_braced rest then length (name_in rest) + 2
    else 0

-- a template with its references replaced; the first `wait` bytes belong to a reference that is replaced already
abbrev pub expanded_from : ℕ → Spans → List ℕ → List ℕ → List ℕ
expanded_from wait spans value [] = []
expanded_from (suc wait) spans value (b ∷ rest) = expanded_from wait spans value rest
expanded_from zero spans value (b ∷ rest) =
    if b == 36 then reference_text spans value rest ++ expanded_from (reference_size rest) spans value rest
    else b ∷ expanded_from zero spans value rest

abbrev pub expanded : Spans → List ℕ → List ℕ → List ℕ
expanded spans value template = expanded_from 0 spans value template
