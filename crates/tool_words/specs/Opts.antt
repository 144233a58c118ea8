-- The optimisers that `--opts` asks for: all of them, none, or those of a list. (Those of thanos-io/promql-engine; the form of the
-- list is this project's own.)
use Rattle.std.specs.Prelude.{◌==◌, Bool, true, false, List, [], ◌∷◌, Option, Some, None, bytes_eq, codes, if◌then◌else◌}
use Rattle.std.specs.List.{list_all, list_any, slice_split}
use Rattle.tool_words.specs.Said.{Text, is_among}
use Rattle.tool_words.specs.declared.asked.Optimisers.{Optimisers}

abbrev pub optimiser_names : List Text
optimiser_names = codes "sort" ∷ codes "propagate" ∷ codes "merge" ∷ codes "trim" ∷ codes "avg" ∷ codes "remote" ∷ []

abbrev pub is_optimiser : Text → Bool
is_optimiser word = list_any (bytes_eq word) optimiser_names

-- the words of a list, which commas (44) part
abbrev pub words_listed : Text → List Text
words_listed list = slice_split (λ b. b == 44) list

-- all of them, or none
abbrev pub uniform : Bool → Optimisers
uniform chosen = record { sort = chosen; propagate = chosen; merge = chosen; trim = chosen; avg = chosen; remote = chosen }

-- those that are among some words
abbrev pub among : List Text → Optimisers
among words = record {
  sort = is_among words (codes "sort");
  propagate = is_among words (codes "propagate");
  merge = is_among words (codes "merge");
  trim = is_among words (codes "trim");
  avg = is_among words (codes "avg");
  remote = is_among words (codes "remote");
}

-- a list of nothing else, in which each may stand more than once
abbrev pub optimisers_listed : List Text → Option Optimisers
optimisers_listed words = if list_all is_optimiser words then Some (among words) else None

abbrev pub opts_named : Text → Option Optimisers
opts_named text =
    if bytes_eq text (codes "all") then Some (uniform true)
    else (if bytes_eq text (codes "none") then Some (uniform false) else optimisers_listed (words_listed text))

-- the value of `--opts`: all optimisers without it
abbrev pub opts_of : Option Text → Option Optimisers
opts_of None = Some (uniform true)
opts_of (Some text) = opts_named text
