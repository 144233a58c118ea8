-- What a run of words prints, and its status. (This project's own, after promqltest and promtool.)
use Rattle.std.specs.Prelude.{◌≡◌, ℕ, Bool, List, [], ◌∷◌, ◌++◌, Option, None, Some, ⊤, length}
use Rattle.ticks.specs.declared.grid.Grid.{Grid}
use Rattle.tool_words.specs.Asked.{Wish, asked, explain, format, query, test, workload}
use Rattle.tool_words.specs.Engines.{Labels}
use Rattle.tool_words.specs.declared.asked.Choices.{Choices}
use Rattle.tool_words.specs.declared.asked.Optimisers.{Optimisers}
use Rattle.ticks.specs.Moments.{moments_in}
use Rattle.promql_tool.specs.Chosen.{terms_in}
use Rattle.promql_tool.specs.Files.{JudgedFile, Last, Sees, report_of}
use Rattle.promql_tool.specs.Found.{Just}
use Rattle.promql_tool.specs.Printed.{Explained, Formatted, rewrites_in}
use Rattle.promql_tool.specs.Query.{Queried}
use Rattle.promql_tool.specs.Texts.{Report, usage_report}
use Rattle.promql_tool.specs.Workload.{loaded_text, workload_path, workload_text}

-- the report of a workload: how much it loads stands before what is seen of its script
abbrev pub workload_report : ℕ → List JudgedFile → Last → Report
workload_report series files last = record { text = loaded_text series ++ (report_of files last).text; status = (report_of files last).status }

-- A report of words: the usage line where they are no command, else what is seen of the files, the answer of a query, what is
-- seen of the script of a workload, or an expression or its plan. What a file and an expression are read as and the outcome of
-- a query are relations, since what the crate `regex` takes as a pattern is one; and so are reports. That a fetch of a path finds
-- bytes, or none, is said by `found`. Engines are declared to so many boxes at most.
pub data IsReport (boxes : ℕ) (words : List (List ℕ)) (found : List ℕ → Option (List ℕ) → Type 0) : Report → Type 0 where
  misused : asked boxes words ≡ None → IsReport boxes words found usage_report
  tested : (choices : Choices) (engines : List Labels) (paths : List (List ℕ)) (files : List JudgedFile) (last : Last) → asked boxes words ≡ Some (test choices engines paths) → Sees (terms_in choices engines) found paths files last → IsReport boxes words found (report_of files last)
  queried : (choices : Choices) (engines : List Labels) (grid : Grid) (instant : Bool) (file expr : List ℕ) (report : Report) → asked boxes words ≡ Some (query choices engines (moments_in grid instant) file expr)
      → Queried (terms_in choices engines) found file expr grid instant report → IsReport boxes words found report
  worked : (choices : Choices) (engines : List Labels) (series : ℕ) (files : List JudgedFile) (last : Last) → asked boxes words ≡ Some (workload choices engines series) → Sees (terms_in choices engines) (Just (workload_text series)) (workload_path ∷ []) files last
      → IsReport boxes words found (workload_report series files last)
  formatted : (expr : List ℕ) (report : Report) → asked boxes words ≡ Some (format expr) → Formatted expr report → IsReport boxes words found report
  explained : (optimisers : Optimisers) (engines : List Labels) (expr : List ℕ) (report : Report) → asked boxes words ≡ Some (explain optimisers engines expr) → Explained (length engines) (rewrites_in optimisers) expr report → IsReport boxes words found report

-- some report of the words is such
abbrev pub HasReport : ℕ → List (List ℕ) → (List ℕ → Option (List ℕ) → Type 0) → (Report → Type 0) → Type 0
HasReport boxes words found IsSuch = (report : Report) × IsReport boxes words found report × IsSuch report

-- the files that a command names, in order
abbrev pub files_asked : Option Wish → List (List ℕ)
files_asked None = []
files_asked (Some (test choices engines paths)) = paths
files_asked (Some (query choices engines moments file expr)) = file ∷ []
files_asked (Some (workload choices engines series)) = []
files_asked (Some (format expr)) = []
files_asked (Some (explain optimisers engines expr)) = []

-- the files of the words; words that are no command have none, and neither has a workload, or an expression that is printed
abbrev pub files_of : ℕ → List (List ℕ) → List (List ℕ)
files_of boxes words = files_asked (asked boxes words)

-- a command asks for an expression or its plan to be printed
abbrev pub AsksToPrint : Option Wish → Type 0
AsksToPrint (Some (format expr)) = ⊤
AsksToPrint (Some (explain optimisers engines expr)) = ⊤
AsksToPrint _ = ⊥
