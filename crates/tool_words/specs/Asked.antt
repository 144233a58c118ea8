-- What the words of the program ask for. (A command, its options and its files, as the words of Prometheus' promtool; the
-- commands, their options and the limits are this project's own.)
use Rattle.std.specs.Prelude.{◌≡◌, ◌==◌, ◌<◌, ◌≤◌, ◌&&◌, ◌↔◌, ℕ, not, pos, Bool, true, false, List, [], ◌∷◌, Option, Some, None, codes, decimal, if◌then◌else◌, nat_le, option_and_then, option_map}
use Rattle.std.specs.Char.{is_ascii_digit}
use Rattle.std.specs.List.{list_all}
use Rattle.std.specs.Result.{result_ok}
use Rattle.std.specs.Str.{bytes_eq}
use Rattle.std.specs.Str.Parse.{digits_value}
use Rattle.ticks.specs.Moments.{Moments, is_grid}
use Rattle.ticks.specs.declared.moment.Ms.{Ms}
use Rattle.frac_text.specs.Times.{time_answer}
use Rattle.tool_words.specs.Engines.{Labels, engines_of}
use Rattle.tool_words.specs.Opts.{opts_of}
use Rattle.tool_words.specs.Said.{Item, Text, places_of, said, value_of}
use Rattle.tool_words.specs.declared.asked.Choices.{Choices}
use Rattle.tool_words.specs.declared.asked.Optimisers.{Optimisers}

-- what a command asks for: to judge files, to answer an expression over a file's samples, or to judge a script that is made of
-- so many series, each with what is chosen for its evaluations, and with the engines that are declared, none without `--engines`;
-- or to print an expression, or its plan behind some rewrites and over such engines, of which nothing is evaluated
pub data Wish : Type 0 where
  test : Choices → List Labels → List Text → Wish
  query : Choices → List Labels → Moments → Text → Text → Wish
  workload : Choices → List Labels → ℕ → Wish
  format : Text → Wish
  explain : Optimisers → List Labels → Text → Wish

-- the options of `promqltest` and `workload`, those of `query`, those of `format`, which has none, and those of `explain`
abbrev pub test_options : List Text
test_options = codes "edges" ∷ codes "batch" ∷ codes "opts" ∷ codes "engines" ∷ []

abbrev pub query_options : List Text
query_options = codes "edges" ∷ codes "batch" ∷ codes "opts" ∷ codes "engines" ∷ codes "at" ∷ codes "from" ∷ codes "to" ∷ codes "step" ∷ []

abbrev pub format_options : List Text
format_options = []

abbrev pub explain_options : List Text
explain_options = codes "opts" ∷ codes "engines" ∷ []

-- the value of `--edges`: windows are open on the left under v3, as without it, and closed under v2
abbrev pub edges_named : Text → Option Bool
edges_named text = if bytes_eq text (codes "v3") then Some false else (if bytes_eq text (codes "v2") then Some true else None)

abbrev pub edges_of : Option Text → Option Bool
edges_of None = Some false
edges_of (Some text) = edges_named text

abbrev pub edges_in : List Item → Option Bool
edges_in items = edges_of (value_of (codes "edges") items)

-- the number in decimal digits without a leading zero, where it is at most `most`
abbrev pub has_no_zero : Text → Bool
has_no_zero [] = false
has_no_zero (digit ∷ digits) = not (digit == 48)

abbrev pub number_of : ℕ → Text → Option ℕ
number_of most text =
    if has_no_zero text && (list_all is_ascii_digit text && nat_le (digits_value 10 text) most) then Some (digits_value 10 text) else None

-- the value of `--batch`: how many instants may be computed at once, at most 1,024, and 64 without it
abbrev pub batch_of : Option Text → Option ℕ
batch_of None = Some 64
batch_of (Some text) = number_of 1024 text

abbrev pub batch_in : List Item → Option ℕ
batch_in items = batch_of (value_of (codes "batch") items)

-- the value of `--opts`
abbrev pub opts_in : List Item → Option Optimisers
opts_in items = opts_of (value_of (codes "opts") items)

-- the value of `--engines`, for so many boxes
abbrev pub engines_in : ℕ → List Item → Option (List Labels)
engines_in boxes items = engines_of boxes (value_of (codes "engines") items)

-- what is chosen for all evaluations
abbrev pub choices_of : Option Bool → Option ℕ → Option Optimisers → Option Choices
choices_of (Some closed) (Some batch) (Some optimisers) = Some (record { closed = closed; batch = batch; optimisers = optimisers })
choices_of _ _ _ = None

abbrev pub choices_in : List Item → Option Choices
choices_in items = choices_of (edges_in items) (batch_in items) (opts_in items)

-- instants that are a grid
abbrev pub if_grid : Moments → Option Moments
if_grid m = if is_grid m then Some m else None

abbrev pub time_of : Text → Option Ms
time_of text = result_ok (time_answer text)

-- one instant; the step has no meaning there
abbrev pub moment_at : Ms → Option Moments
moment_at at = if_grid (record { start = at; end = at; step = record { 0 = pos 1 }; instant = true })

abbrev pub range_of : Option Ms → Option Ms → Option Ms → Option Moments
range_of (Some start) (Some end) (Some step) = if_grid (record { start = start; end = end; step = step; instant = false })
range_of _ _ _ = None

-- the moments by the values of `--at`, `--from`, `--to` and `--step`: the instant 0 without any of them
abbrev pub moments_of : Option Text → Option Text → Option Text → Option Text → Option Moments
moments_of None None None None = moment_at (record { 0 = pos 0 })
moments_of (Some at) None None None = option_and_then moment_at (time_of at)
moments_of None (Some from) (Some to) (Some step) = range_of (time_of from) (time_of to) (time_of step)
moments_of _ _ _ _ = None

-- one file or more
abbrev pub test_worded : Choices → List Labels → List Text → Option Wish
test_worded choices engines [] = None
test_worded choices engines (file ∷ files) = Some (test choices engines (file ∷ files))

abbrev pub test_at : Option Choices → Option (List Labels) → List Text → Option Wish
test_at (Some choices) (Some engines) words = test_worded choices engines words
test_at _ _ words = None

abbrev pub test_of : ℕ → List Item → Option Wish
test_of boxes items = test_at (choices_in items) (engines_in boxes items) (places_of items)

-- a file and an expression
abbrev pub query_worded : Choices → List Labels → Moments → List Text → Option Wish
query_worded choices engines moments (file ∷ expr ∷ []) = Some (query choices engines moments file expr)
query_worded choices engines moments _ = None

abbrev pub query_at : Option Choices → Option (List Labels) → Option Moments → List Text → Option Wish
query_at (Some choices) (Some engines) (Some moments) words = query_worded choices engines moments words
query_at _ _ _ words = None

abbrev pub query_of : ℕ → List Item → Option Wish
query_of boxes items =
    query_at (choices_in items) (engines_in boxes items)
    (moments_of (value_of (codes "at") items) (value_of (codes "from") items) (value_of (codes "to") items) (value_of (codes "step") items))
    (places_of items)

-- a number of series, at most 20,000
abbrev pub workload_worded : Choices → List Labels → List Text → Option Wish
workload_worded choices engines (count ∷ []) = option_map (workload choices engines) (number_of 20000 count)
workload_worded choices engines _ = None

abbrev pub workload_at : Option Choices → Option (List Labels) → List Text → Option Wish
workload_at (Some choices) (Some engines) words = workload_worded choices engines words
workload_at _ _ words = None

abbrev pub workload_of : ℕ → List Item → Option Wish
workload_of boxes items = workload_at (choices_in items) (engines_in boxes items) (places_of items)

-- an expression
abbrev pub format_worded : List Text → Option Wish
format_worded (expr ∷ []) = Some (format expr)
format_worded _ = None

abbrev pub format_of : List Item → Option Wish
format_of items = format_worded (places_of items)

-- an expression, the rewrites that are chosen, and the engines that are declared
abbrev pub explain_worded : Optimisers → List Labels → List Text → Option Wish
explain_worded optimisers engines (expr ∷ []) = Some (explain optimisers engines expr)
explain_worded optimisers engines _ = None

abbrev pub explain_at : Option Optimisers → Option (List Labels) → List Text → Option Wish
explain_at (Some optimisers) (Some engines) words = explain_worded optimisers engines words
explain_at _ _ words = None

abbrev pub explain_of : ℕ → List Item → Option Wish
explain_of boxes items = explain_at (opts_in items) (engines_in boxes items) (places_of items)

abbrev pub command_of : ℕ → Text → List Text → Option Wish
command_of boxes command rest =
    if bytes_eq command (codes "promqltest") then option_and_then (test_of boxes) (said test_options rest)
    else (if bytes_eq command (codes "query") then option_and_then (query_of boxes) (said query_options rest)
    else (if bytes_eq command (codes "workload") then option_and_then (workload_of boxes) (said test_options rest)
    else (if bytes_eq command (codes "format") then option_and_then format_of (said format_options rest)
    else (if bytes_eq command (codes "explain") then option_and_then (explain_of boxes) (said explain_options rest)
    else None))))

-- what the program's words ask for, where they follow the rules, and there are so many boxes of engines
abbrev pub asked : ℕ → List Text → Option Wish
asked boxes [] = None
asked boxes (command ∷ rest) = command_of boxes command rest

-- ---- the edge that is asked for, as a relation

-- an option that isn't given leaves windows open on the left; else its value is one of two
pub data AsksForEdges (items : List Item) : Bool → Type 0 where
  unsaid : value_of (codes "edges") items ≡ None → AsksForEdges items false
  open_edges : value_of (codes "edges") items ≡ Some (codes "v3") → AsksForEdges items false
  closed_edges : value_of (codes "edges") items ≡ Some (codes "v2") → AsksForEdges items true

-- items name an edge exactly where they ask for it
abbrev pub EdgesAreAskedFor : Type 0
EdgesAreAskedFor = (items : List Item) (closed : Bool) → (edges_in items ≡ Some closed) ↔ AsksForEdges items closed

-- ---- the batch that is asked for, as a relation

-- an option that isn't given asks for batches of 64 instants; else its value is their number, from 1 to 1,024
pub data AsksForBatch (items : List Item) : ℕ → Type 0 where
  unsaid_batch : value_of (codes "batch") items ≡ None → AsksForBatch items 64
  said_batch : (batch : ℕ) → 0 < batch → batch ≤ 1024 → value_of (codes "batch") items ≡ Some (decimal batch) → AsksForBatch items batch

-- items name a batch exactly where they ask for it
abbrev pub BatchesAreAskedFor : Type 0
BatchesAreAskedFor = (items : List Item) (batch : ℕ) → (batch_in items ≡ Some batch) ↔ AsksForBatch items batch
