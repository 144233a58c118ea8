-- What the matches of a command tell of its words. (This project's own.)
use Rattle.std.specs.Prelude.{◌≡◌, List, [], ◌∷◌, Option, Some, None, false, option_map}
use Rattle.std.specs.Str.{bytes_eq}
use Rattle.clap.specs.Words.{found_of, first_value, matched_of, raw_values}
use Rattle.clap.specs.declared.parser.matches.ArgMatches.{ArgMatches}
use Rattle.tool_words.specs.Commands.{place_id}
use Rattle.tool_words.specs.Said.{Item, Text, places_of, value_of}

-- the list, where it isn't empty
abbrev pub if_any : List Text → Option (List Text)
if_any [] = None
if_any (x ∷ xs) = Some (x ∷ xs)

-- the matches hold the values of options, and the words that stand for themselves
pub record Holds (m : ArgMatches) (items : List Item) : Type 0 where
  pub option : (name : Text) → bytes_eq place_id name ≡ false → first_value (found_of m) name ≡ value_of name items
  pub places : option_map raw_values (matched_of (found_of m) place_id) ≡ if_any (places_of items)

-- there are matches exactly where the words say something, and they hold it
abbrev pub Tells : Option ArgMatches → Option (List Item) → Type 0
Tells None said = said ≡ None
Tells (Some m) said = (items : List Item) × (said ≡ Some items) × Holds m items
