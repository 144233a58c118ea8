-- How a run may end. (This project's own.)
use Rattle.std.specs.Prelude.{◌≡◌, ◌==◌, ℕ, List, [], ◌∷◌, ◌++◌, IsTrue, Option, None, Some}
use Rattle.std.specs.List.{list_any}
use Rattle.edge_io.specs.Written.{appended, WroteFront}
use Rattle.tool_words.specs.Asked.{Wish, asked, test, workload}
use Rattle.tool_words.specs.Engines.{Labels}
use Rattle.tool_words.specs.declared.asked.Choices.{Choices}
use Rattle.promql_tool.specs.Chosen.{Terms, terms_in, terms_of}
use Rattle.promql_tool.specs.Files.{Begins, Gone, JudgedFile, Refused, Sees, files_text}
use Rattle.promql_tool.specs.Found.{Just}
use Rattle.promql_tool.specs.Reading.{IsNoScript, IsRefusedFor}
use Rattle.promql_tool.specs.Report.{IsReport, files_of}
use Rattle.promql_tool.specs.Texts.{Report, fault_text, lost_text, refusal_text}
use Rattle.promql_tool.specs.Workload.{loaded_text, workload_path, workload_text}
use Rattle.promql_tool.specs.declared.fault.Lost.{Lost}
use Rattle.promql_tool.specs.declared.fault.Refusal.{Refusal}

-- a status is among some
abbrev pub IsOneOf : List ℕ → ℕ → Type 0
IsOneOf statuses status = IsTrue (list_any (λ s. s == status) statuses)

-- a report's text was written, and its status was answered
pub record Reports (before now : Option (List ℕ)) (status : ℕ) (report : Report) : Type 0 where
  pub status_is : status ≡ report.status
  pub text_is : now ≡ appended before report.text

-- A file is refused: the lines of the files before it were written, and then its refusal. Or the script of a workload is refused:
-- how much it loads was written, and then its refusal.
pub data IsRefused (boxes : ℕ) (words : List (List ℕ)) (found : List ℕ → Option (List ℕ) → Type 0) (before now : Option (List ℕ)) : Type 0 where
  refuses : (files : List JudgedFile) (path : List ℕ) (refusal : Refusal) → Sees (terms_of boxes words) found (files_of boxes words) files (Refused path refusal)
      → now ≡ appended before (files_text files ++ refusal_text path refusal) → IsRefused boxes words found before now
  makes : (choices : Choices) (engines : List Labels) (series : ℕ) (refusal : Refusal) → asked boxes words ≡ Some (workload choices engines series) → IsRefusedFor (terms_in choices engines) (workload_text series) refusal
      → now ≡ appended before (loaded_text series ++ refusal_text workload_path refusal) → IsRefused boxes words found before now

-- A file isn't there. The lines of the files before it were written, and then its fault.
pub record IsGone (terms : Terms) (paths : List (List ℕ)) (found : List ℕ → Option (List ℕ) → Type 0) (before now : Option (List ℕ)) : Type 0 where
  pub files : List JudgedFile
  pub path : List ℕ
  pub seen : Sees terms found paths files (Gone path)
  pub written : now ≡ appended before (files_text files ++ fault_text path)

-- a file that isn't there, or holds no script that is run
abbrev pub IsUnrun : Terms → Option (List ℕ) → Type 0
IsUnrun terms None = Unit {0}
IsUnrun terms (Some bytes) = IsNoScript terms bytes

-- the first of the files is such, if there is one
abbrev pub IfFirst : List (List ℕ) → (List ℕ → Type 0) → Type 0
IfFirst [] IsSuch = Unit {0}
IfFirst (path ∷ paths) IsSuch = IsSuch path

-- the script of a workload is such, if the words ask for one
abbrev pub IfMade : Option Wish → (Terms → List ℕ → Type 0) → Type 0
IfMade (Some (workload choices engines series)) IsSuch = IsSuch (terms_in choices engines) (workload_text series)
IfMade _ IsSuch = Unit {0}

-- What a run of words writes at first: nothing, or what a run over files does; of a workload, behind how much it loads.
pub data WritesFirst (boxes : ℕ) (words : List (List ℕ)) (found : List ℕ → Option (List ℕ) → Type 0) : List ℕ → Type 0 where
  nothing : WritesFirst boxes words found []
  judging : (choices : Choices) (engines : List Labels) (paths : List (List ℕ)) (text : List ℕ) → asked boxes words ≡ Some (test choices engines paths) → Begins (terms_in choices engines) found paths text → WritesFirst boxes words found text
  working : (choices : Choices) (engines : List Labels) (series : ℕ) (text : List ℕ) → asked boxes words ≡ Some (workload choices engines series) → Begins (terms_in choices engines) (Just (workload_text series)) (workload_path ∷ []) text
      → WritesFirst boxes words found (loaded_text series ++ text)

-- A run that was cut off: nothing was written, or a front of a report, or a front of what is written at first, or of that and the line
-- of an engine that was lost.
pub data IsCut (boxes : ℕ) (words : List (List ℕ)) (found : List ℕ → Option (List ℕ) → Type 0) (before now : Option (List ℕ)) : Type 0 where
  unwritten : now ≡ before → IsCut boxes words found before now
  reporting : (report : Report) → IsReport boxes words found report → WroteFront before now report.text → IsCut boxes words found before now
  beginning : (text : List ℕ) → WritesFirst boxes words found text → WroteFront before now text → IsCut boxes words found before now
  losing : (text : List ℕ) (lost : Lost) → WritesFirst boxes words found text → WroteFront before now (text ++ lost_text lost) → IsCut boxes words found before now

-- A run of words was stopped by an engine: what it writes at first stands, and no more.
pub record IsStoppedWords (boxes : ℕ) (words : List (List ℕ)) (found : List ℕ → Option (List ℕ) → Type 0) (before now : Option (List ℕ)) : Type 0 where
  pub text : List ℕ
  pub first : WritesFirst boxes words found text
  pub written : now ≡ appended before text
