-- How words spell options and words that stand for themselves, rule by rule. (The words of Prometheus' promtool; that an option
-- stands at most once, and which values want the second form, is this project's own.)
use Rattle.std.specs.Prelude.{◌≡◌, ◌==◌, ◌<◌, List, [], ◌∷◌, ◌++◌, codes, false, length, map, true, None}
use Rattle.std.specs.List.{list_any}
use Rattle.tool_words.specs.Said.{Item, Text, given, is_among, is_dashed, placed, value_of}

-- the words say the items, where these are the names of options
pub data Says (names : List Text) : List Text → List Item → Type 0 where
  ends : Says names [] []
  -- a word that doesn't begin with `-`, or is `-` alone
  place : (word : Text) (words : List Text) (items : List Item) → is_dashed word ≡ false → Says names words items → Says names (word ∷ words) (placed word ∷ items)
  -- `--name value`
  apart : (name value : Text) (words : List Text) (items : List Item) → is_among names name ≡ true → is_dashed value ≡ false → Says names words items
      → Says names ((codes "--" ++ name) ∷ value ∷ words) (given name value ∷ items)
  -- `--name=value`
  joined : (name value : Text) (words : List Text) (items : List Item) → is_among names name ≡ true → Says names words items
      → Says names ((codes "--" ++ (name ++ (codes "=" ++ value))) ∷ words) (given name value ∷ items)
  -- `--`, and behind it only words that stand for themselves
  behind : (words : List Text) → Says names (codes "--" ∷ words) (map placed words)

-- no option is given that is given before
abbrev pub IsOnce : List Item → Type 0
IsOnce items = (front rest : List Item) (name value : Text) → items ≡ front ++ given name value ∷ rest → value_of name front ≡ None

-- a name has a byte, and no `=` (61)
pub record IsName (name : Text) : Type 0 where
  pub some : 0 < length name
  pub plain : list_any (λ x. x == 61) name ≡ false

abbrev pub AreNames : List Text → Type 0
AreNames names = (name : Text) → is_among names name ≡ true → IsName name
