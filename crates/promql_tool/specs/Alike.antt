-- Words that ask for the same, but for what no report depends on. (This project's own.)
use Rattle.std.specs.Prelude.{◌≡◌, ℕ, List, Option, None, Some}
use Rattle.ticks.specs.Moments.{Moments}
use Rattle.tool_words.specs.Asked.{Wish, explain, format, query, test, workload}
use Rattle.tool_words.specs.Engines.{Labels}
use Rattle.tool_words.specs.declared.asked.Choices.{Choices}
use Rattle.tool_words.specs.declared.asked.Optimisers.{Optimisers}

-- Both ask for the same over windows with the same left edge. How many instants may be computed at once may differ, and so may the
-- rewrites of plans, but of a plan that is printed.
pub data AskAlike : Option Wish → Option Wish → Type 0 where
  misused : AskAlike None None
  tests : (one other : Choices) (engines : List Labels) (paths : List (List ℕ)) → one.closed ≡ other.closed → AskAlike (Some (test one engines paths)) (Some (test other engines paths))
  queries : (one other : Choices) (engines : List Labels) (moments : Moments) (path expr : List ℕ) → one.closed ≡ other.closed → AskAlike (Some (query one engines moments path expr)) (Some (query other engines moments path expr))
  workloads : (one other : Choices) (engines : List Labels) (series : ℕ) → one.closed ≡ other.closed → AskAlike (Some (workload one engines series)) (Some (workload other engines series))
  formats : (expr : List ℕ) → AskAlike (Some (format expr)) (Some (format expr))
  explains : (optimisers : Optimisers) (engines : List Labels) (expr : List ℕ) → AskAlike (Some (explain optimisers engines expr)) (Some (explain optimisers engines expr))
