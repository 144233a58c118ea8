-- What the values of the code say of a run.
use Rattle.std.specs.Prelude.{◌≡◌, ℕ, ◌+◌, Bool, List, [], ◌∷◌, ◌++◌, Option, None, Some, Result, Ok, Err, Vec, map, length}
use Rattle.std.specs.declared.alloc.Global.{Global}
use Rattle.edge_io.specs.Written.{appended, WroteFront}
use Rattle.promql_meaning.specs.declared.answer.Outcome.{Outcome}
use Rattle.script_read.specs.Outcomes.{PatternList}
use Rattle.script_read.specs.declared.fault.ReadFault.{ReadFault}
use Rattle.script_read.specs.declared.fault.ReadFault.TheVariants as read
use Rattle.script_read.specs.declared.script.Script.{Script}
use Rattle.script_read.specs.declared.script.ScriptRefusal.{ScriptRefusal}
use Rattle.sample_store.specs.Samples.{AllSeries}
use Rattle.test_runner.specs.Boxes.{StoppedAt}
use Rattle.test_runner.specs.Lines.{failed_in, lines_text, passed_in}
use Rattle.test_runner.specs.Loads.{samples_left}
use Rattle.test_runner.specs.Running.{HasRun, IsAnswerOver, WasCut}
use Rattle.test_runner.specs.Verdicts.{Judged}
use Rattle.test_runner.specs.declared.fault.RunnerFault.TheVariants as runner
use Rattle.test_runner.specs.declared.totals.Totals.{Totals}
use Rattle.ticks.specs.declared.grid.Grid.{Grid}
use Rattle.tool_words.specs.Asked.{asked, explain, format, query, test, workload}
use Rattle.tool_words.specs.Engines.{Labels}
use Rattle.tool_words.specs.declared.asked.Choices.{Choices}
use Rattle.tool_words.specs.declared.asked.Optimisers.{Optimisers}
use Rattle.ticks.specs.Moments.{moments_in}
use Rattle.promql_tool.specs.Chosen.{Terms, terms_in}
use Rattle.promql_tool.specs.Ends.{IsOneOf, Reports}
use Rattle.promql_tool.specs.Files.{Begins, Gone as GoneAt, IsJudged, IsRunning, JudgedFile, Last, Refused as RefusedAt, Sees, report_of}
use Rattle.promql_tool.specs.Found.{Just}
use Rattle.promql_tool.specs.Printed.{Explained, Formatted, rewrites_in}
use Rattle.promql_tool.specs.Query.{AreNoteLines, Queried, notes_in, outcome_report}
use Rattle.promql_tool.specs.Reading.{IsReadAs, IsRefusedFor, IsRunnable}
use Rattle.promql_tool.specs.Report.{workload_report}
use Rattle.promql_tool.specs.Texts.{Report, fault_report, refusal_report, usage_report}
use Rattle.promql_tool.specs.Workload.{loaded_text, workload_path, workload_text}
use Rattle.promql_tool.specs.declared.fault.Refusal.{Refusal}
use Rattle.promql_tool.specs.declared.fault.Refusal.TheVariants as refusal
use Rattle.promql_tool.specs.declared.fault.Stop.{Stop}
use Rattle.promql_tool.specs.declared.fault.Stop.TheVariants.{Gone, Refused}
use Rattle.promql_tool.specs.declared.fetch.File.{File}
use Rattle.promql_tool.specs.declared.fetch.File.TheVariants as file
use Rattle.promql_tool.specs.declared.judge.FileEnd.{FileEnd}
use Rattle.promql_tool.specs.declared.judge.FileEnd.TheVariants.{Judged as JudgedTo, Stopped}
use Rattle.promql_tool.specs.declared.print.Status.{Status}
use Rattle.promql_tool.specs.declared.printing.Page.{Page}
use Rattle.promql_tool.specs.declared.query.Answered.{Answered}
use Rattle.promql_tool.specs.declared.query.Answered.TheVariants as answered

-- what a fetch of a path finds: bytes, or none
abbrev pub Finds : Type 1
Finds = List ℕ → Option (List ℕ) → Type 0

-- ---- one file

-- a file isn't run: it isn't there, or its bytes are refused
abbrev pub Stops : Terms → Finds → List ℕ → Stop → Type 0
Stops terms found path Gone = found path None
Stops terms found path (Refused refusal) = (bytes : List ℕ) × found path (Some bytes) × IsRefusedFor terms bytes refusal

-- what a file is that was fetched
abbrev pub IsFile : Terms → Finds → List ℕ → File → Type 0
IsFile terms found path (file.Bytes bytes) = found path (Some bytes)
IsFile terms found path (file.Stopped stop) = Stops terms found path stop

-- what was read of a file is such, unless memory ran out
abbrev pub GivesFile : Result Script ReadFault → (Result Script ScriptRefusal → Type 0) → Type 0
GivesFile (Ok script) IsSuch = IsSuch (Ok script)
GivesFile (Err (read.Refused refusal)) IsSuch = IsSuch (Err refusal)
GivesFile (Err read.Memory) IsSuch = Unit {0}

-- why the loads of a script are refused
abbrev pub RefusesLoads : Terms → Script → Refusal → Type 0
RefusesLoads terms script (refusal.Script refused) = ⊥
RefusesLoads terms script (refusal.Range line) = samples_left terms.declared script ≡ Err (runner.Range line)
RefusesLoads terms script (refusal.Load refused) = samples_left terms.declared script ≡ Err (runner.Refused refused)

-- what a script came to that was run
abbrev pub ScriptComesTo : Terms → PatternList → List ℕ → Script → Option (List ℕ) → Option (List ℕ) → Type 0 → FileEnd → Type 0
ScriptComesTo terms kept path script before now idle (JudgedTo totals) = HasRun terms.closed terms.declared kept path script before now totals × (series : AllSeries) × (samples_left terms.declared script ≡ Ok series)
ScriptComesTo terms kept path script before now idle (Stopped Gone) = ⊥
ScriptComesTo terms kept path script before now idle (Stopped (Refused refusal)) = RefusesLoads terms script refusal × (now ≡ before) × idle

-- A run over a script was cut off: nothing was written, or its loads are taken and a front of its lines was written.
pub data IsCutScript (terms : Terms) (kept : PatternList) (path : List ℕ) (script : Script) (before now : Option (List ℕ)) : Type 0 where
  Unrun : now ≡ before → IsCutScript terms kept path script before now
  Cut : (series : AllSeries) → samples_left terms.declared script ≡ Ok series → WasCut terms.closed terms.declared kept path script before now → IsCutScript terms kept path script before now

-- A run over a script was stopped by an engine: nothing was written, or its loads are taken and the lines of its first verdicts stand.
pub data IsStoppedScript (terms : Terms) (kept : PatternList) (path : List ℕ) (script : Script) (before now : Option (List ℕ)) : Type 0 where
  Unbegun : now ≡ before → IsStoppedScript terms kept path script before now
  Midway : (series : AllSeries) → samples_left terms.declared script ≡ Ok series → StoppedAt terms.closed kept path terms.declared script before now → IsStoppedScript terms kept path script before now

-- a file was judged, its lines were written, and so many of its evaluations pass and fail
pub record HasJudged (terms : Terms) (found : List ℕ → Option (List ℕ) → Type 0) (path : List ℕ) (before now : Option (List ℕ)) (totals : Totals) : Type 0 where
  pub verdicts : List Judged
  pub judged : IsJudged terms found path verdicts
  pub written : now ≡ appended before (lines_text path verdicts)
  pub passed : totals.passed ≡ passed_in verdicts
  pub failed : totals.failed ≡ failed_in verdicts

-- what a file came to; `idle` holds where nothing was evaluated
abbrev pub ComesTo : Terms → Finds → List ℕ → Option (List ℕ) → Option (List ℕ) → Type 0 → FileEnd → Type 0
ComesTo terms found path before now idle (JudgedTo totals) = HasJudged terms found path before now totals
ComesTo terms found path before now idle (Stopped stop) = Stops terms found path stop × (now ≡ before) × idle

-- `idle` holds where no evaluation of the file has a verdict
abbrev pub RestsIfNone : Type 0 → FileEnd → Type 0
RestsIfNone idle (JudgedTo totals) = totals.passed + totals.failed ≡ 0 → idle
RestsIfNone idle (Stopped stop) = idle

-- A run over a file was cut off: nothing was written, or a front of the lines of its first verdicts.
pub data IsCutFile (terms : Terms) (found : List ℕ → Option (List ℕ) → Type 0) (path : List ℕ) (before now : Option (List ℕ)) : Type 0 where
  Unwritten : now ≡ before → IsCutFile terms found path before now
  Running : (verdicts : List Judged) → IsRunning terms found path verdicts → WroteFront before now (lines_text path verdicts) → IsCutFile terms found path before now

-- A run over a file was stopped by an engine: nothing was written, or the lines of its first verdicts.
pub data IsStoppedFile (terms : Terms) (found : List ℕ → Option (List ℕ) → Type 0) (path : List ℕ) (before now : Option (List ℕ)) : Type 0 where
  Unmoved : now ≡ before → IsStoppedFile terms found path before now
  Standing : (verdicts : List Judged) → IsRunning terms found path verdicts → now ≡ appended before (lines_text path verdicts) → IsStoppedFile terms found path before now

-- what a script came to, whatever engines gave: its loads are taken or refused
abbrev pub ScriptEnds : Terms → Script → Option (List ℕ) → Option (List ℕ) → Type 0 → FileEnd → Type 0
ScriptEnds terms script before now idle (JudgedTo totals) = (series : AllSeries) × (samples_left terms.declared script ≡ Ok series)
ScriptEnds terms script before now idle (Stopped Gone) = ⊥
ScriptEnds terms script before now idle (Stopped (Refused refusal)) = RefusesLoads terms script refusal × (now ≡ before) × idle

-- a file is there, and holds a script whose loads are taken
abbrev pub HoldsScript : Terms → Finds → List ℕ → Type 0
HoldsScript terms found path = (bytes : List ℕ) × found path (Some bytes) × (kept : PatternList) × (script : Script) × IsRunnable terms kept bytes script

-- what a file came to, whatever engines gave: it holds a script, or isn't run
abbrev pub FileEnds : Terms → Finds → List ℕ → Option (List ℕ) → Option (List ℕ) → Type 0 → FileEnd → Type 0
FileEnds terms found path before now idle (JudgedTo totals) = HoldsScript terms found path
FileEnds terms found path before now idle (Stopped stop) = Stops terms found path stop × (now ≡ before) × idle

-- ---- queries

-- what a query over a script came to
abbrev pub AnswersScript : Terms → Script → List ℕ → Grid → Bool → Type 0 → Answered → Type 0
AnswersScript terms script expr grid instant idle (answered.Outcome got) = IsAnswerOver terms.declared script expr grid instant terms.closed got
AnswersScript terms script expr grid instant idle (answered.Stopped Gone) = ⊥
AnswersScript terms script expr grid instant idle (answered.Stopped (Refused refusal)) = RefusesLoads terms script refusal × idle

-- a query over a file has this outcome
pub record IsAnswered (terms : Terms) (found : List ℕ → Option (List ℕ) → Type 0) (path expr : List ℕ) (grid : Grid) (instant : Bool) (got : Outcome) : Type 0 where
  pub bytes : List ℕ
  pub is_found : found path (Some bytes)
  pub kept : PatternList
  pub script : Script
  pub is_read : IsReadAs kept bytes (Ok script)
  pub over : IsAnswerOver terms.declared script expr grid instant terms.closed got

-- what a query over a script came to, whatever engines gave
abbrev pub ScriptAnswers : Terms → Script → Type 0 → Answered → Type 0
ScriptAnswers terms script idle (answered.Outcome got) = (series : AllSeries) × (samples_left terms.declared script ≡ Ok series)
ScriptAnswers terms script idle (answered.Stopped Gone) = ⊥
ScriptAnswers terms script idle (answered.Stopped (Refused refusal)) = RefusesLoads terms script refusal × idle

-- what a query over a file came to, whatever engines gave
abbrev pub FileAnswers : Terms → Finds → List ℕ → Type 0 → Answered → Type 0
FileAnswers terms found path idle (answered.Outcome got) = HoldsScript terms found path
FileAnswers terms found path idle (answered.Stopped stop) = Stops terms found path stop × idle

-- what a query over a file came to
abbrev pub AnswersFile : Terms → Finds → List ℕ → List ℕ → Grid → Bool → Type 0 → Answered → Type 0
AnswersFile terms found path expr grid instant idle (answered.Outcome got) = IsAnswered terms found path expr grid instant got
AnswersFile terms found path expr grid instant idle (answered.Stopped stop) = Stops terms found path stop × idle

-- ---- reports

-- A report was written and its status is answered, or the run was cut off.
abbrev pub Ends : {E : Type 0} → (Report → Type 0) → Type 0 → Option (List ℕ) → Option (List ℕ) → Result Status E → Type 0
Ends IsSuch IsCut before now (Ok status) = (report : Report) × IsSuch report × Reports before now status.0 report
Ends IsSuch IsCut before now (Err cause) = IsCut

-- what ends a run over files at one that isn't run
abbrev pub last_at : List ℕ → Stop → Last
last_at path Gone = GoneAt path
last_at path (Refused refusal) = RefusedAt path refusal

-- a report of files; nothing was evaluated where no file was judged
pub record ReportsFiles (terms : Terms) (found : List ℕ → Option (List ℕ) → Type 0) (paths : List (List ℕ)) (idle : Type 0) (report : Report) : Type 0 where
  pub files : List JudgedFile
  pub last : Last
  pub seen : Sees terms found paths files last
  pub is : report ≡ report_of files last
  pub rests : files ≡ [] → idle

-- a run over files was cut off, before its last line or in it
pub data IsCutFiles (terms : Terms) (found : List ℕ → Option (List ℕ) → Type 0) (paths : List (List ℕ)) (before now : Option (List ℕ)) : Type 0 where
  Early : (text : List ℕ) → Begins terms found paths text → WroteFront before now text → IsCutFiles terms found paths before now
  Late : (files : List JudgedFile) (last : Last) → Sees terms found paths files last → WroteFront before now (report_of files last).text → IsCutFiles terms found paths before now

-- A run over files was stopped by an engine: what it writes at first stands, and no more.
pub record IsStoppedFiles (terms : Terms) (found : List ℕ → Option (List ℕ) → Type 0) (paths : List (List ℕ)) (before now : Option (List ℕ)) : Type 0 where
  pub text : List ℕ
  pub begun : Begins terms found paths text
  pub written : now ≡ appended before text

-- a report of a query; nothing was evaluated where the file isn't run
pub record ReportsQuery (terms : Terms) (found : List ℕ → Option (List ℕ) → Type 0) (path expr : List ℕ) (grid : Grid) (instant : Bool) (idle : Type 0) (report : Report) : Type 0 where
  pub is : Queried terms found path expr grid instant report
  pub rests : IsOneOf (3 ∷ 6 ∷ []) report.status → idle

-- nothing was written, or a front of such a report
pub data IsCutReport (IsSuch : Report → Type 0) (before now : Option (List ℕ)) : Type 0 where
  Nothing : now ≡ before → IsCutReport IsSuch before now
  Partly : (report : Report) → IsSuch report → WroteFront before now report.text → IsCutReport IsSuch before now

-- the report of a file that isn't run
abbrev pub stop_report : List ℕ → Stop → Report
stop_report path Gone = fault_report path
stop_report path (Refused refusal) = refusal_report path refusal

-- the report of what a query came to
abbrev pub ReportsAnswered : List ℕ → Answered → Report → Type 0
ReportsAnswered path (answered.Outcome got) report = (notes : List (List ℕ)) × AreNoteLines (notes_in got) notes × (report ≡ outcome_report got notes)
ReportsAnswered path (answered.Stopped stop) report = report ≡ stop_report path stop

-- a report of a workload; nothing was evaluated where its script was refused
pub record ReportsWorkload (terms : Terms) (series : ℕ) (idle : Type 0) (report : Report) : Type 0 where
  pub files : List JudgedFile
  pub last : Last
  pub seen : Sees terms (Just (workload_text series)) (workload_path ∷ []) files last
  pub is : report ≡ workload_report series files last
  pub rests : files ≡ [] → idle

-- a run of a workload was cut off: nothing was written, or a front of how much it loads and of the lines of its first verdicts, or
-- of its whole report
pub data IsCutWorkload (terms : Terms) (series : ℕ) (before now : Option (List ℕ)) : Type 0 where
  Unmade : now ≡ before → IsCutWorkload terms series before now
  Begun : (text : List ℕ) → Begins terms (Just (workload_text series)) (workload_path ∷ []) text → WroteFront before now (loaded_text series ++ text) → IsCutWorkload terms series before now
  Almost : (files : List JudgedFile) (last : Last) → Sees terms (Just (workload_text series)) (workload_path ∷ []) files last → WroteFront before now (workload_report series files last).text
      → IsCutWorkload terms series before now

-- A run of a workload was stopped by an engine: how much it loads stands, and the lines of its first verdicts, and no more.
pub record IsStoppedWorkload (terms : Terms) (series : ℕ) (before now : Option (List ℕ)) : Type 0 where
  pub text : List ℕ
  pub begun : Begins terms (Just (workload_text series)) (workload_path ∷ []) text
  pub written : now ≡ appended before (loaded_text series ++ text)

-- a report of words, with what is known of the counters
pub data ReportsWords (boxes : ℕ) (words : List (List ℕ)) (found : List ℕ → Option (List ℕ) → Type 0) (idle : Type 0) : Report → Type 0 where
  Misused : asked boxes words ≡ None → idle → ReportsWords boxes words found idle usage_report
  Tested : (choices : Choices) (engines : List Labels) (paths : List (List ℕ)) (report : Report) → asked boxes words ≡ Some (test choices engines paths) → ReportsFiles (terms_in choices engines) found paths idle report → ReportsWords boxes words found idle report
  Queries : (choices : Choices) (engines : List Labels) (grid : Grid) (instant : Bool) (path expr : List ℕ) (report : Report) → asked boxes words ≡ Some (query choices engines (moments_in grid instant) path expr) → ReportsQuery (terms_in choices engines) found path expr grid instant idle report
      → ReportsWords boxes words found idle report
  Works : (choices : Choices) (engines : List Labels) (series : ℕ) (report : Report) → asked boxes words ≡ Some (workload choices engines series) → ReportsWorkload (terms_in choices engines) series idle report → ReportsWords boxes words found idle report
  Formats : (expr : List ℕ) (report : Report) → asked boxes words ≡ Some (format expr) → Formatted expr report → ReportsWords boxes words found idle report
  Explains : (optimisers : Optimisers) (engines : List Labels) (expr : List ℕ) (report : Report) → asked boxes words ≡ Some (explain optimisers engines expr) → Explained (length engines) (rewrites_in optimisers) expr report → ReportsWords boxes words found idle report

-- the report that a page is
abbrev pub page_report : Page → Report
page_report page = record { text = page.text.items; status = page.status.0 }

-- the bytes of lists
abbrev pub bytes_of : List (Vec ℕ Global) → List (List ℕ)
bytes_of lines = map (λ (line : Vec ℕ Global). line.items) lines
