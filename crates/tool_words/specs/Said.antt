-- What the words behind a command's name say: options with their values, and words that stand for themselves. (The words of
-- Prometheus' promtool, `--name value` and `--name=value`, with `--` before the last of the options; that an option stands at
-- most once, and which values want the second form, is this project's own.)
use Rattle.std.specs.Prelude.{◌==◌, ◌&&◌, ℕ, Bool, true, false, not, List, [], ◌∷◌, Option, Some, None, codes, map, option_map, is_some, ◌++◌, if◌then◌else◌}
use Rattle.std.specs.List.{after_first, before_first, list_any}
use Rattle.std.specs.Str.{bytes_eq}

abbrev pub Text : Type 0
Text = List ℕ

-- an option with its value, or a word that stands for itself
pub data Item : Type 0 where
  given : Text → Text → Item
  placed : Text → Item

-- the word begins with `-` (45) and has more bytes
abbrev pub is_dashed : Text → Bool
is_dashed [] = false
is_dashed (x ∷ []) = false
is_dashed (x ∷ y ∷ rest) = x == 45

-- what stands behind the `--` that the word begins with
abbrev pub behind_dashes : Text → Option Text
behind_dashes [] = None
behind_dashes (x ∷ []) = None
behind_dashes (x ∷ y ∷ rest) = if x == 45 && y == 45 then Some rest else None

-- the text up to its first `=` (61), and what stands behind that
abbrev pub name_in : Text → Text
name_in text = before_first (λ x. x == 61) text

abbrev pub value_in : Text → Option Text
value_in text = if list_any (λ x. x == 61) text then Some (after_first (λ x. x == 61) text) else None

abbrev pub is_among : List Text → Text → Bool
is_among names name = list_any (λ n. bytes_eq n name) names

-- one more item before the others
abbrev pub with_item : Item → Option (List Item) → Option (List Item)
with_item item = option_map (λ items. item ∷ items)

-- the option has its value behind `=`, or waits for the next word; `next` is what the words behind it say
abbrev pub opened : Text → Option Text → (Option Text → Option (List Item)) → Option (List Item)
opened name (Some value) next = with_item (given name value) (next None)
opened name None next = next (Some name)

-- a word that begins with `-` and has more bytes, and is not `--`
abbrev pub option_said : List Text → Option Text → (Option Text → Option (List Item)) → Option (List Item)
option_said names None next = None
option_said names (Some text) next = if is_among names (name_in text) then opened (name_in text) (value_in text) next else None

abbrev pub word_said : List Text → Text → List Text → (Option Text → Option (List Item)) → Option (List Item)
word_said names word rest next =
    if bytes_eq word (codes "--") then Some (map placed rest)
    else (if is_dashed word then option_said names (behind_dashes word) next else with_item (placed word) (next None))

-- what the words say, where these are the names of options; the option in front, if any, still waits for its value
unfoldable pub said_from : List Text → Option Text → List Text → Option (List Item)
said_from names None [] = Some []
said_from names (Some name) [] = None
said_from names None (word ∷ rest) = word_said names word rest (λ waiting. said_from names waiting rest)
said_from names (Some name) (word ∷ rest) =
    if is_dashed word then None else with_item (given name word) (said_from names None rest)

-- the value of an option
abbrev pub value_of : Text → List Item → Option Text
value_of name [] = None
value_of name (given n value ∷ rest) = if bytes_eq n name then Some value else value_of name rest
value_of name (placed word ∷ rest) = value_of name rest

-- the words that stand for themselves
abbrev pub places_of : List Item → List Text
places_of [] = []
places_of (given n value ∷ rest) = places_of rest
places_of (placed word ∷ rest) = word ∷ places_of rest

-- no option is given twice, in the items or in those before them
abbrev pub is_once : List Item → List Item → Bool
is_once before [] = true
is_once before (given name value ∷ rest) = not (is_some (value_of name before)) && is_once (before ++ given name value ∷ []) rest
is_once before (placed word ∷ rest) = is_once (before ++ placed word ∷ []) rest

abbrev pub if_once : Option (List Item) → Option (List Item)
if_once None = None
if_once (Some items) = if is_once [] items then Some items else None

-- what the words say, where they follow the rules and no option is given twice
abbrev pub said : List Text → List Text → Option (List Item)
said names words = if_once (said_from names None words)
