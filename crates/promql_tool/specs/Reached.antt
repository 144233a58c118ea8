-- How far a run came: which files it fetched, and where it stopped. (This project's own.)
use Rattle.std.specs.Prelude.{◌≡◌, ℕ, ◌+◌, Bool, List, [], ◌∷◌, ◌++◌, Option, None, Some, Result, Ok, Err, map}
use Rattle.std.specs.List.{AllByRecursion}
use Rattle.edge_io.specs.Fetches.{Fetches}
use Rattle.edge_io.specs.Written.{appended}
use Rattle.ticks.specs.declared.grid.Grid.{Grid}
use Rattle.ticks.specs.Moments.{moments_in}
use Rattle.tool_words.specs.Asked.{asked, query, test}
use Rattle.tool_words.specs.Engines.{Labels}
use Rattle.tool_words.specs.declared.asked.Choices.{Choices}
use Rattle.promql_tool.specs.Chosen.{Terms, terms_in}
use Rattle.promql_tool.specs.Ends.{IsOneOf}
use Rattle.promql_tool.specs.Files.{IsJudged, JudgedFile, all_failed, all_passed, files_text}
use Rattle.promql_tool.specs.Reading.{IsRefusedFor}
use Rattle.promql_tool.specs.Report.{files_of}
use Rattle.promql_tool.specs.declared.fault.Cut.{Cut}
use Rattle.promql_tool.specs.declared.fault.Cut.TheVariants as cut
use Rattle.promql_tool.specs.declared.fault.Refusal.{Refusal}
use Rattle.promql_tool.specs.declared.print.Status.{Status}

-- the status of a run
abbrev pub status_of : Result Status Cut → ℕ
status_of (Ok status) = status.0
status_of (Err cut.Write) = 4
status_of (Err cut.Memory) = 7
status_of (Err (cut.Lost lost)) = 5

-- the paths of files, in order
abbrev pub paths_of : List JudgedFile → List (List ℕ)
paths_of files = map (λ (file : JudgedFile). file.path) files

-- each of these files was judged
abbrev pub AreJudged : Terms → (List ℕ → Option (List ℕ) → Type 0) → List JudgedFile → Type 0
AreJudged terms found files = AllByRecursion (λ (file : JudgedFile). IsJudged terms found file.path file.verdicts) files

-- their lines were written, and nothing before these
pub record WroteTheir (files : List JudgedFile) (before now : Option (List ℕ)) : Type 0 where
  pub more : List ℕ
  pub is : now ≡ appended before (files_text files ++ more)

-- why a run stops at a file: after 3 it isn't there, and after 6 it is refused; else an engine failed or strayed, a write failed, or
-- memory ran out
pub record StopsAt (terms : Terms) (found : List ℕ → Option (List ℕ) → Type 0) (path : List ℕ) (status : ℕ) : Type 0 where
  pub gone : status ≡ 3 → found path None
  pub refused : status ≡ 6 → (bytes : List ℕ) × (refusal : Refusal) × found path (Some bytes) × IsRefusedFor terms bytes refusal
  pub is : IsOneOf (3 ∷ 4 ∷ 5 ∷ 6 ∷ 7 ∷ []) status

-- A run over files fetched all of them, in order, and each was judged. Or it fetched them up to one at which it stopped, and no
-- more: those before it were judged, and of that one nothing was evaluated where it isn't there or is refused.
pub data ReachesFiles {L : Type 0} (fetch : L → List ℕ → L → Type 0) (terms : Terms) (found : List ℕ → Option (List ℕ) → Type 0) (paths : List (List ℕ)) (library_before library_now : L) (before now : Option (List ℕ)) (idle : Type 0) (status : ℕ) : Type 0 where
  whole : (files : List JudgedFile) → paths_of files ≡ paths → AreJudged terms found files → Fetches fetch paths library_before library_now → WroteTheir files before now
      → IsOneOf (0 ∷ 1 ∷ 4 ∷ 7 ∷ []) status → ReachesFiles fetch terms found paths library_before library_now before now idle status
  up_to : (files : List JudgedFile) (path : List ℕ) (later : List (List ℕ)) → paths_of files ++ path ∷ later ≡ paths → AreJudged terms found files → Fetches fetch (paths_of files ++ path ∷ []) library_before library_now
      → WroteTheir files before now → StopsAt terms found path status → (IsOneOf (3 ∷ 6 ∷ []) status → all_passed files + all_failed files ≡ 0 → idle)
      → ReachesFiles fetch terms found paths library_before library_now before now idle status

-- The same of words: those that name no file fetch none, and a query fetches its one. Where memory runs out before the first fetch,
-- nothing was written. An engine may fail before it too, as labels are declared to it.
pub data Reaches {L : Type 0} (fetch : L → List ℕ → L → Type 0) (boxes : ℕ) (words : List (List ℕ)) (found : List ℕ → Option (List ℕ) → Type 0) (library_before library_now : L) (before now : Option (List ℕ)) (idle : Type 0) (status : ℕ) : Type 0 where
  no_file : files_of boxes words ≡ [] → library_now ≡ library_before → Reaches fetch boxes words found library_before library_now before now idle status
  no_memory : status ≡ 7 → library_now ≡ library_before → now ≡ before → Reaches fetch boxes words found library_before library_now before now idle status
  undeclared : IsOneOf (4 ∷ 5 ∷ 7 ∷ []) status → library_now ≡ library_before → Reaches fetch boxes words found library_before library_now before now idle status
  one_file : (choices : Choices) (engines : List Labels) (grid : Grid) (instant : Bool) (path expr : List ℕ) → asked boxes words ≡ Some (query choices engines (moments_in grid instant) path expr) → fetch library_before path library_now
      → Reaches fetch boxes words found library_before library_now before now idle status
  files : (choices : Choices) (engines : List Labels) (paths : List (List ℕ)) → asked boxes words ≡ Some (test choices engines paths) → ReachesFiles fetch (terms_in choices engines) found paths library_before library_now before now idle status
      → Reaches fetch boxes words found library_before library_now before now idle status
