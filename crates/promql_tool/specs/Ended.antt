-- How a run ended that wasn't cut off, whatever engines gave. (This project's own.)
use Rattle.std.specs.Prelude.{◌≡◌, ℕ, Bool, List, [], ◌∷◌, ◌++◌, Contains, Option, None, Some, ⊤}
use Rattle.std.specs.List.{AllByRecursion}
use Rattle.edge_io.specs.Written.{appended}
use Rattle.ticks.specs.Moments.{moments_in}
use Rattle.ticks.specs.declared.grid.Grid.{Grid}
use Rattle.tool_words.specs.Asked.{Wish, asked, explain, format, query, test, workload}
use Rattle.tool_words.specs.Engines.{Labels}
use Rattle.tool_words.specs.declared.asked.Choices.{Choices}
use Rattle.promql_tool.specs.Chosen.{Terms, terms_in, terms_of}
use Rattle.promql_tool.specs.Ends.{IsOneOf}
use Rattle.promql_tool.specs.Found.{Just}
use Rattle.promql_tool.specs.Reading.{IsRefusedFor}
use Rattle.promql_tool.specs.Report.{AsksToPrint, files_of}
use Rattle.promql_tool.specs.Runs.{Finds, HoldsScript, Stops, stop_report}
use Rattle.promql_tool.specs.Texts.{fault_text, refusal_text, usage}
use Rattle.promql_tool.specs.Workload.{workload_path, workload_text}
use Rattle.promql_tool.specs.declared.fault.Refusal.{Refusal}
use Rattle.promql_tool.specs.declared.fault.Stop.{Stop}

-- these bytes were written last
abbrev pub EndWith : List ℕ → Option (List ℕ) → Type 0
EndWith line now = (mid : Option (List ℕ)) × (now ≡ appended mid line)

-- A run over files ran a script of each. Or it ran those before one that isn't there or is refused, whose line was written last; and
-- nothing was evaluated where that one is the first.
pub data EndsFiles (terms : Terms) (found : Finds) (paths : List (List ℕ)) (idle : Type 0) (now : Option (List ℕ)) (status : ℕ) : Type 0 where
  ran : AllByRecursion (HoldsScript terms found) paths → IsOneOf (0 ∷ 1 ∷ []) status → EndsFiles terms found paths idle now status
  stopped : (done : List (List ℕ)) (path : List ℕ) (later : List (List ℕ)) (stop : Stop) → done ++ path ∷ later ≡ paths → AllByRecursion (HoldsScript terms found) done → Stops terms found path stop
      → EndWith (stop_report path stop).text now → (done ≡ [] → idle) → status ≡ (stop_report path stop).status → EndsFiles terms found paths idle now status

-- The same of words: a query runs its one file, and a workload its script. What is printed of an expression is of status 0 or 1, and words
-- that are no command are of status 2.
pub data EndsWords (boxes : ℕ) (words : List (List ℕ)) (found : Finds) (idle : Type 0) (before now : Option (List ℕ)) (status : ℕ) : Type 0 where
  misused : asked boxes words ≡ None → idle → now ≡ appended before usage → status ≡ 2 → EndsWords boxes words found idle before now status
  tested : (choices : Choices) (engines : List Labels) (paths : List (List ℕ)) → asked boxes words ≡ Some (test choices engines paths) → EndsFiles (terms_in choices engines) found paths idle now status → EndsWords boxes words found idle before now status
  queried : (choices : Choices) (engines : List Labels) (grid : Grid) (instant : Bool) (path expr : List ℕ) → asked boxes words ≡ Some (query choices engines (moments_in grid instant) path expr)
      → EndsFiles (terms_in choices engines) found (path ∷ []) idle now status → EndsWords boxes words found idle before now status
  worked : (choices : Choices) (engines : List Labels) (series : ℕ) → asked boxes words ≡ Some (workload choices engines series) → EndsFiles (terms_in choices engines) (Just (workload_text series)) (workload_path ∷ []) idle now status
      → EndsWords boxes words found idle before now status
  printed : AsksToPrint (asked boxes words) → IsOneOf (0 ∷ 1 ∷ []) status → EndsWords boxes words found idle before now status

-- a file of the words isn't there, and its fault was written last
pub record IsGoneLast (boxes : ℕ) (words : List (List ℕ)) (found : Finds) (now : Option (List ℕ)) : Type 0 where
  pub path : List ℕ
  pub named : Contains (files_of boxes words) path
  pub gone : found path None
  pub last : EndWith (fault_text path) now

-- a file of the words, or the script of a workload, is refused, and its refusal was written last
pub data IsRefusedLast (boxes : ℕ) (words : List (List ℕ)) (found : Finds) (now : Option (List ℕ)) : Type 0 where
  names : (path bytes : List ℕ) (refusal : Refusal) → Contains (files_of boxes words) path → found path (Some bytes) → IsRefusedFor (terms_of boxes words) bytes refusal → EndWith (refusal_text path refusal) now
      → IsRefusedLast boxes words found now
  makes : (choices : Choices) (engines : List Labels) (series : ℕ) (refusal : Refusal) → asked boxes words ≡ Some (workload choices engines series) → IsRefusedFor (terms_in choices engines) (workload_text series) refusal
      → EndWith (refusal_text workload_path refusal) now → IsRefusedLast boxes words found now

-- ---- completeness

-- nothing refuses these bytes
abbrev pub IsTaken : Terms → List ℕ → Type 0
IsTaken terms bytes = (refusal : Refusal) → IsRefusedFor terms bytes refusal → ⊥

-- a file is there, and nothing refuses it
abbrev pub IsThere : Terms → (List ℕ → Option (List ℕ)) → List ℕ → Type 0
IsThere terms files path = (bytes : List ℕ) × (files path ≡ Some bytes) × IsTaken terms bytes

-- words ask for something, and what it needs is there: each file that is named, or a script that is made
abbrev pub HasItsFiles : Option Wish → (List ℕ → Option (List ℕ)) → Type 0
HasItsFiles None files = ⊥
HasItsFiles (Some (test choices engines paths)) files = AllByRecursion (IsThere (terms_in choices engines) files) paths
HasItsFiles (Some (query choices engines moments path expr)) files = IsThere (terms_in choices engines) files path
HasItsFiles (Some (workload choices engines series)) files = IsTaken (terms_in choices engines) (workload_text series)
HasItsFiles (Some (format expr)) files = ⊤
HasItsFiles (Some (explain optimisers engines expr)) files = ⊤
