-- The one spelling of labels, as series are printed: the metric's name, and the other labels in braces.
-- Prometheus, "Data model" and "Metric names and labels"; names of other bytes stand in quotes, as in its UTF-8 notation.
use Rattle.std.specs.Prelude.{ℕ, Bool, true, false, List, [], ◌∷◌, ◌++◌, map, not, nat_le, ◌==◌, ◌&&◌, ◌||◌, if◌then◌else◌, Option, None, Some}
use Rattle.std.specs.List.{flat_map, list_all}
use Rattle.label_set.specs.Labels.{metric_name, value_at, without}

abbrev pub is_digit : ℕ → Bool
is_digit b = nat_le 48 b && nat_le b 57

-- a letter of ASCII, a digit, `_`, or where `colon` says so `:`
abbrev pub is_name_byte : Bool → ℕ → Bool
is_name_byte colon b = (nat_le 97 b && nat_le b 122) || (nat_le 65 b && nat_le b 90) || is_digit b || b == 95 || (colon && b == 58)

-- a text that stands without quotes: name bytes, of which the first is no digit
abbrev pub is_name : Bool → List ℕ → Bool
is_name colon [] = false
is_name colon (b ∷ text) = not (is_digit b) && list_all (is_name_byte colon) (b ∷ text)

abbrev pub is_metric_name : List ℕ → Bool
is_metric_name = is_name true

abbrev pub is_label_name : List ℕ → Bool
is_label_name = is_name false

-- a backslash, a quote and a line feed are written `\\`, `\"` and `\n`
abbrev pub escaped_byte : ℕ → List ℕ
escaped_byte b =
    if b == 92 then 92 ∷ 92 ∷ [] else
    if b == 34 then 92 ∷ 34 ∷ [] else
    if b == 10 then 92 ∷ 110 ∷ [] else
    b ∷ []

abbrev pub quoted : List ℕ → List ℕ
quoted text = 34 ∷ flat_map escaped_byte text ++ 34 ∷ []

-- `name="value"`
abbrev pub label_text : List ℕ × List ℕ → List ℕ
label_text p = (if is_label_name p.0 then p.0 else quoted p.0) ++ 61 ∷ quoted p.1

-- the parts with a comma before each; before the first one only where something stands before it
abbrev pub comma_list : Bool → List (List ℕ) → List ℕ
comma_list started [] = []
comma_list started (part ∷ parts) = (if started then 44 ∷ [] else []) ++ part ++ comma_list true parts

abbrev pub braced : List (List ℕ) → List ℕ
braced parts = 123 ∷ comma_list false parts ++ 125 ∷ []

-- a name that needs no quotes stands before the braces, and alone where there are no parts; another one is the first part
abbrev pub series_text : Option (List ℕ) → List (List ℕ) → List ℕ
series_text None parts = braced parts
series_text (Some name) parts = if is_metric_name name then name ++ braced_unless_none parts else braced (quoted name ∷ parts)
  where
    braced_unless_none : List (List ℕ) → List ℕ
    braced_unless_none [] = []
    braced_unless_none (part ∷ parts) = braced (part ∷ parts)

-- `name{l="v",..}`, in byte order of the labels' names
abbrev pub labels_text : List (List ℕ × List ℕ) → List ℕ
labels_text ps = series_text (value_at ps metric_name) (map label_text (without (metric_name ∷ []) ps))
