-- What a run over files sees of them, and its report. (promqltest; the texts are this project's own.)
use Rattle.std.specs.Prelude.{◌≡◌, ℕ, ◌==◌, if◌then◌else◌, List, [], ◌∷◌, ◌++◌, Option, None, Some, sum_by}
use Rattle.std.specs.List.{flat_map}
use Rattle.script_read.specs.Outcomes.{PatternList}
use Rattle.script_read.specs.declared.script.Command.{Command}
use Rattle.script_read.specs.declared.script.Script.{Script}
use Rattle.test_runner.specs.Lines.{failed_in, lines_text, passed_in}
use Rattle.test_runner.specs.Verdicts.{AreVerdicts, Judged}
use Rattle.promql_tool.specs.Chosen.{Terms}
use Rattle.promql_tool.specs.Reading.{IsRefusedFor, IsRunnable}
use Rattle.promql_tool.specs.Texts.{Report, fault_text, refusal_text, totals_text}
use Rattle.promql_tool.specs.declared.fault.Refusal.{Refusal}

-- a file that was judged: its path, and the verdicts of its evaluations in order
pub record JudgedFile : Type 0 where
  pub path : List ℕ
  pub verdicts : List Judged

-- what ends a run over files: no file is left, or one isn't there, or one is refused
pub data Last : Type 0 where
  All : Last
  Gone : List ℕ → Last
  Refused : List ℕ → Refusal → Last

-- A file is there, and these are the verdicts of its script, which begins with no samples, under these
-- terms. That a fetch of a path finds bytes, or none, is said by `found`.
pub record IsJudged (terms : Terms) (found : List ℕ → Option (List ℕ) → Type 0) (path : List ℕ) (verdicts : List Judged) : Type 0 where
  pub bytes : List ℕ
  pub is_found : found path (Some bytes)
  pub kept : PatternList
  pub script : Script
  pub is_run : IsRunnable terms kept bytes script
  pub are : AreVerdicts terms.closed terms.declared kept [] script.commands verdicts

-- A file is there, and these are the verdicts of the first commands of its script.
pub record IsRunning (terms : Terms) (found : List ℕ → Option (List ℕ) → Type 0) (path : List ℕ) (verdicts : List Judged) : Type 0 where
  pub bytes : List ℕ
  pub is_found : found path (Some bytes)
  pub kept : PatternList
  pub script : Script
  pub is_run : IsRunnable terms kept bytes script
  pub done : List Command
  pub left : List Command
  pub parts : done ++ left ≡ script.commands
  pub are : AreVerdicts terms.closed terms.declared kept [] done verdicts

-- What a run over files sees, which are taken in order: the first ones are judged, until none is left, or one isn't there, or
-- is refused.
pub data Sees (terms : Terms) (found : List ℕ → Option (List ℕ) → Type 0) : List (List ℕ) → List JudgedFile → Last → Type 0 where
  all : Sees terms found [] [] All
  gone : (path : List ℕ) (paths : List (List ℕ)) → found path None → Sees terms found (path ∷ paths) [] (Gone path)
  refused : (path bytes : List ℕ) (refusal : Refusal) (paths : List (List ℕ)) → found path (Some bytes) → IsRefusedFor terms bytes refusal → Sees terms found (path ∷ paths) [] (Refused path refusal)
  judged : (path : List ℕ) (verdicts : List Judged) (paths : List (List ℕ)) (files : List JudgedFile) (last : Last) → IsJudged terms found path verdicts → Sees terms found paths files last
      → Sees terms found (path ∷ paths) (record { path = path; verdicts = verdicts } ∷ files) last

-- the lines of the files that were judged
abbrev pub files_text : List JudgedFile → List ℕ
files_text files = flat_map (λ (file : JudgedFile). lines_text file.path file.verdicts) files

-- the totals over all files
abbrev pub all_passed : List JudgedFile → ℕ
all_passed files = sum_by (λ (file : JudgedFile). passed_in file.verdicts) files

abbrev pub all_failed : List JudgedFile → ℕ
all_failed files = sum_by (λ (file : JudgedFile). failed_in file.verdicts) files

-- the last line: the totals, or the file that isn't there or is refused
abbrev pub last_text : List JudgedFile → Last → List ℕ
last_text files All = totals_text (all_passed files) (all_failed files)
last_text files (Gone path) = fault_text path
last_text files (Refused path refusal) = refusal_text path refusal

-- 0 where all pass, else 1
abbrev pub last_status : List JudgedFile → Last → ℕ
last_status files All = if all_failed files == 0 then 0 else 1
last_status files (Gone path) = 3
last_status files (Refused path refusal) = 6

-- the report of what was seen: the lines of all files, and then the last one
abbrev pub report_of : List JudgedFile → Last → Report
report_of files last = record { text = files_text files ++ last_text files last; status = last_status files last }

-- What a run over files writes at first, before its last line: nothing, or the lines of the first verdicts of its first file, or
-- all lines of that file and then what the run over the later ones writes at first.
pub data Begins (terms : Terms) (found : List ℕ → Option (List ℕ) → Type 0) : List (List ℕ) → List ℕ → Type 0 where
  waiting : (paths : List (List ℕ)) → Begins terms found paths []
  running : (path : List ℕ) (verdicts : List Judged) (paths : List (List ℕ)) → IsRunning terms found path verdicts → Begins terms found (path ∷ paths) (lines_text path verdicts)
  judged : (path : List ℕ) (verdicts : List Judged) (paths : List (List ℕ)) (text : List ℕ) → IsJudged terms found path verdicts → Begins terms found paths text
      → Begins terms found (path ∷ paths) (lines_text path verdicts ++ text)
