-- What holds for all evaluations of a run: the left edge of windows, and the engines that are declared. (This project's own.)
use Rattle.std.specs.Prelude.{ℕ, Bool, false, List, [], length, Option, None, Some}
use Rattle.remote_api.specs.Seen.{EngineSeen}
use Rattle.test_runner.specs.Boxes.{AllTell}
use Rattle.tool_words.specs.Asked.{Wish, asked, explain, format, query, test, workload}
use Rattle.tool_words.specs.Engines.{Labels}
use Rattle.tool_words.specs.declared.asked.Choices.{Choices}

-- windows are closed on the left or open, and engines have these labels declared, each its own
pub record Terms : Type 0 where
  pub closed : Bool
  pub declared : List Labels

-- windows that are closed on the left or open, over engines that have these labels declared
abbrev pub under : Bool → List Labels → Terms
under closed declared = record { closed = closed; declared = declared }

-- what is chosen for evaluations, over engines that have these labels declared
abbrev pub terms_in : Choices → List Labels → Terms
terms_in choices engines = under choices.closed engines

-- the terms of a command; what is printed of an expression or its plan needs no engine
abbrev pub terms_asked : Option Wish → Terms
terms_asked (Some (test choices engines paths)) = terms_in choices engines
terms_asked (Some (query choices engines moments file expr)) = terms_in choices engines
terms_asked (Some (workload choices engines series)) = terms_in choices engines
terms_asked None = under false []
terms_asked (Some (format expr)) = under false []
terms_asked (Some (explain optimisers engines expr)) = under false []

-- the terms of words, where there are so many boxes of engines
abbrev pub terms_of : ℕ → List (List ℕ) → Terms
terms_of boxes words = terms_asked (asked boxes words)

-- the labels that words declare to engines, the k-th to the k-th box
abbrev pub declared_of : ℕ → List (List ℕ) → List Labels
declared_of boxes words = (terms_of boxes words).declared

-- each box to which words declare labels tells what it holds, as is so where they declare none
abbrev pub DeclaredTell : ℕ → List (List ℕ) → List EngineSeen → Type 0
DeclaredTell boxes words es = AllTell (length (declared_of boxes words)) es
