-- What words come to, from what they ask for.
use Rattle.std.proofs.Common.{◌≡◌, ◌∙◌, ℕ, Bool, List, [], ◌∷◌, ◌++◌, Option, None, Some, Result, Ok, Err, IfOk, OnErr, refl, subst, sym, length}
use Rattle.edge_io.specs.Fetches.{FetchesFront}
use Rattle.edge_io.specs.Fronts.{appended-nil}
use Rattle.edge_io.specs.Written.{appended, WroteFront}
use Rattle.edge_io.specs.declared.sink.SinkFail.{SinkFail}
use Rattle.plan_rewrites.specs.declared.choosing.Choices.{Choices as Rewrites}
use Rattle.ticks.specs.declared.grid.Grid.{Grid}
use Rattle.tool_words.specs.Asked.{asked, explain, format, query, test, workload}
use Rattle.tool_words.specs.Engines.{Labels}
use Rattle.tool_words.specs.declared.asked.Choices.{Choices}
use Rattle.tool_words.specs.declared.asked.Optimisers.{Optimisers}
use Rattle.ticks.specs.Moments.{moments_in}
use Rattle.promql_tool.specs.Boxes.{IfLost, IfNames, or_cut}
use Rattle.promql_tool.specs.Chosen.{terms_in}
use Rattle.promql_tool.specs.Ended.{EndsFiles, EndsWords, misused as misused_so, printed as printed_so, queried as queried_so, tested as tested_so, worked as worked_so}
use Rattle.promql_tool.specs.Ends.{IsCut, IsOneOf, IsStoppedWords, beginning, judging, nothing, reporting, unwritten, working}
use Rattle.promql_tool.specs.Found.{Just}
use Rattle.promql_tool.specs.Files.{report_of}
use Rattle.promql_tool.specs.Printed.{Explained, Formatted, planned, refused, rewrites_in, taken, unplanned}
use Rattle.promql_tool.specs.Query.{Queried}
use Rattle.promql_tool.specs.Reached.{status_of}
use Rattle.promql_tool.specs.Report.{AsksToPrint, IsReport, explained, formatted, misused, queried, tested, worked, workload_report}
use Rattle.promql_tool.specs.Runs.{Almost, Begun, Early, Ends, Explains, Formats, IsCutFiles, IsCutReport, IsCutWorkload, IsStoppedFiles, IsStoppedWorkload, Late, Misused, Nothing, Partly, Queries, ReportsFiles, ReportsQuery, ReportsWorkload, ReportsWords, Tested, Unmade, Works}
use Rattle.promql_tool.specs.Texts.{Report, usage, usage_report}
use Rattle.promql_tool.specs.Workload.{loaded_text, workload_path, workload_text}
use Rattle.promql_tool.specs.declared.fault.Cut.{Cut}
use Rattle.promql_tool.specs.declared.fault.Cut.TheVariants as cut
use Rattle.promql_tool.specs.declared.print.Status.{Status}

-- what is known of each engine that is lost
pub when_names : (why : Cut) (P Q : Type 0) → (P → Q) → IfNames why (λ _. P) → IfNames why (λ _. Q)
when_names cut.Write P Q f h = tt
when_names cut.Memory P Q f h = tt
when_names (cut.Lost lost) P Q f h = f h

pub when_lost : {T : Type 0} (r : Result T Cut) (P Q : Type 0) → (P → Q) → IfLost r (λ _. P) → IfLost r (λ _. Q)
when_lost (Ok x) P Q f h = tt
when_lost (Err why) P Q f h = when_names why P Q f h

pub lost_any : {T : Type 0} (r : Result T Cut) (P : Type 0) → P → IfLost r (λ _. P)
lost_any (Ok x) P p = tt
lost_any (Err cut.Write) P p = tt
lost_any (Err cut.Memory) P p = tt
lost_any (Err (cut.Lost lost)) P p = p

-- what cuts a run off is of status 4, 5 or 7
pub cut_one_of : (why : Cut) → IsOneOf (4 ∷ 5 ∷ 7 ∷ []) (status_of (Err why))
cut_one_of cut.Write = refl
cut_one_of cut.Memory = refl
cut_one_of (cut.Lost lost) = refl

-- one file was fetched
pub one_fetched : (L : Type 0) (fetch : L → List ℕ → L → Type 0) (paths : List (List ℕ)) (path : List ℕ) (before now : L) → path ∷ [] ≡ paths → fetch before path now → FetchesFront fetch paths before now
one_fetched L fetch paths path before now is step =
    subst (λ (all : List (List ℕ)). FetchesFront fetch all before now) is (record { fetched = path ∷ []; left = []; parts = refl; states = (now, step, refl) })

-- the usage line
pub misuse_ends : (boxes : ℕ) (words : List (List ℕ)) (found : List ℕ → Option (List ℕ) → Type 0) (before now : Option (List ℕ)) (idle : Type 0) (r : Result Status SinkFail) → asked boxes words ≡ None → idle
    → IfOk r (λ status. (status.0 ≡ 2) × (now ≡ appended before usage)) → OnErr r (WroteFront before now usage) → Ends (ReportsWords boxes words found idle) (IsCut boxes words found before now) before now r
misuse_ends boxes words found before now idle (Ok status) none rests ok err = (usage_report, Misused none rests, record { status_is = ok.0; text_is = ok.1 })
misuse_ends boxes words found before now idle (Err cause) none rests ok err = reporting usage_report (misused none) err

pub misuse_ended : (boxes : ℕ) (words : List (List ℕ)) (found : List ℕ → Option (List ℕ) → Type 0) (before now : Option (List ℕ)) (idle : Type 0) (r : Result Status SinkFail) → asked boxes words ≡ None → idle
    → IfOk r (λ status. (status.0 ≡ 2) × (now ≡ appended before usage)) → IfOk (or_cut r) (λ status. EndsWords boxes words found idle before now status.0)
misuse_ended boxes words found before now idle (Ok status) none rests ok = misused_so none rests ok.1 ok.0
misuse_ended boxes words found before now idle (Err cause) none rests ok = tt

-- what is printed of an expression is of status 0 or 1
formatted_status : (expr : List ℕ) (report : Report) → Formatted expr report → IsOneOf (0 ∷ 1 ∷ []) report.status
formatted_status expr report (taken kept tree stands) = refl
formatted_status expr report (refused refusal is) = refl

explained_status : (engines : ℕ) (rewrites : Rewrites) (expr : List ℕ) (report : Report) → Explained engines rewrites expr report → IsOneOf (0 ∷ 1 ∷ []) report.status
explained_status engines rewrites expr report (planned kept plan has) = refl
explained_status engines rewrites expr report (unplanned refusal is) = refl

-- an expression or a plan that is printed
module _ (boxes : ℕ) (words : List (List ℕ)) (found : List ℕ → Option (List ℕ) → Type 0) (before now : Option (List ℕ)) (idle : Type 0) where
  printed_cut : (IsSuch : Report → Type 0) → ((report : Report) → IsSuch report → IsReport boxes words found report) → IsCutReport IsSuch before now → IsCut boxes words found before now
  printed_cut IsSuch is_report (Nothing same) = unwritten same
  printed_cut IsSuch is_report (Partly report such front) = reporting report (is_report report such) front

  pub format_end : (expr : List ℕ) (r : Result Status SinkFail) → asked boxes words ≡ Some (format expr) → Ends (Formatted expr) (IsCutReport (Formatted expr) before now) before now r
      → Ends (ReportsWords boxes words found idle) (IsCut boxes words found before now) before now r
  format_end expr (Ok status) is e = (e.0, Formats expr e.0 is e.1, e.2)
  format_end expr (Err cause) is e = printed_cut (Formatted expr) (λ report f. formatted expr report is f) e

  pub format_ended : (expr : List ℕ) (Cutting : Type 0) (r : Result Status SinkFail) → asked boxes words ≡ Some (format expr) → Ends (Formatted expr) Cutting before now r → IfOk (or_cut r) (λ status. EndsWords boxes words found idle before now status.0)
  format_ended expr Cutting (Ok status) is e = printed_so (subst AsksToPrint (sym is) tt) (subst (IsOneOf (0 ∷ 1 ∷ [])) (sym e.2.status_is) (formatted_status expr e.0 e.1))
  format_ended expr Cutting (Err cause) is e = tt

  pub explain_ended : (optimisers : Optimisers) (engines : List Labels) (expr : List ℕ) (Cutting : Type 0) (r : Result Status SinkFail) → asked boxes words ≡ Some (explain optimisers engines expr)
      → Ends (Explained (length engines) (rewrites_in optimisers) expr) Cutting before now r → IfOk (or_cut r) (λ status. EndsWords boxes words found idle before now status.0)
  explain_ended optimisers engines expr Cutting (Ok status) is e = printed_so (subst AsksToPrint (sym is) tt) (subst (IsOneOf (0 ∷ 1 ∷ [])) (sym e.2.status_is) (explained_status (length engines) (rewrites_in optimisers) expr e.0 e.1))
  explain_ended optimisers engines expr Cutting (Err cause) is e = tt

  pub explain_end : (optimisers : Optimisers) (engines : List Labels) (expr : List ℕ) (r : Result Status SinkFail) → asked boxes words ≡ Some (explain optimisers engines expr)
      → Ends (Explained (length engines) (rewrites_in optimisers) expr) (IsCutReport (Explained (length engines) (rewrites_in optimisers) expr) before now) before now r → Ends (ReportsWords boxes words found idle) (IsCut boxes words found before now) before now r
  explain_end optimisers engines expr (Ok status) is e = (e.0, Explains optimisers engines expr e.0 is e.1, e.2)
  explain_end optimisers engines expr (Err cause) is e = printed_cut (Explained (length engines) (rewrites_in optimisers) expr) (λ report x. explained optimisers engines expr report is x) e

module _ (boxes : ℕ) (words : List (List ℕ)) (choices : Choices) (engines : List Labels) (found : List ℕ → Option (List ℕ) → Type 0) (before now : Option (List ℕ)) (idle : Type 0) where
  -- files
  files_cut : (paths : List (List ℕ)) → asked boxes words ≡ Some (test choices engines paths) → IsCutFiles (terms_in choices engines) found paths before now → IsCut boxes words found before now
  files_cut paths is (Early text begun front) = beginning text (judging choices engines paths text is begun) front
  files_cut paths is (Late files last seen front) = reporting (report_of files last) (tested choices engines paths files last is seen) front

  pub files_end : (paths : List (List ℕ)) (r : Result Status Cut) → asked boxes words ≡ Some (test choices engines paths) → Ends (ReportsFiles (terms_in choices engines) found paths idle) (IsCutFiles (terms_in choices engines) found paths before now) before now r
      → Ends (ReportsWords boxes words found idle) (IsCut boxes words found before now) before now r
  files_end paths (Ok status) is e = (e.0, Tested choices engines paths e.0 is e.1, e.2)
  files_end paths (Err cause) is e = files_cut paths is e

  pub files_stopped : (paths : List (List ℕ)) (r : Result Status Cut) → asked boxes words ≡ Some (test choices engines paths) → IfLost r (λ _. IsStoppedFiles (terms_in choices engines) found paths before now)
      → IfLost r (λ _. IsStoppedWords boxes words found before now)
  files_stopped paths r is h = when_lost r (IsStoppedFiles (terms_in choices engines) found paths before now) (IsStoppedWords boxes words found before now)
      (λ s. record { text = s.text; first = judging choices engines paths s.text is s.begun; written = s.written }) h

  pub files_ended : (paths : List (List ℕ)) (r : Result Status Cut) → asked boxes words ≡ Some (test choices engines paths) → IfOk r (λ status. EndsFiles (terms_in choices engines) found paths idle now status.0)
      → IfOk r (λ status. EndsWords boxes words found idle before now status.0)
  files_ended paths (Ok status) is h = tested_so choices engines paths is h
  files_ended paths (Err cause) is h = tt

  -- a workload
  workload_cut : (series : ℕ) → asked boxes words ≡ Some (workload choices engines series) → IsCutWorkload (terms_in choices engines) series before now → IsCut boxes words found before now
  workload_cut series is (Unmade same) = unwritten same
  workload_cut series is (Begun text begun front) = beginning (loaded_text series ++ text) (working choices engines series text is begun) front
  workload_cut series is (Almost files last seen front) = reporting (workload_report series files last) (worked choices engines series files last is seen) front

  pub workload_end : (series : ℕ) (r : Result Status Cut) → asked boxes words ≡ Some (workload choices engines series) → Ends (ReportsWorkload (terms_in choices engines) series idle) (IsCutWorkload (terms_in choices engines) series before now) before now r
      → Ends (ReportsWords boxes words found idle) (IsCut boxes words found before now) before now r
  workload_end series (Ok status) is e = (e.0, Works choices engines series e.0 is e.1, e.2)
  workload_end series (Err cause) is e = workload_cut series is e

  pub workload_stopped : (series : ℕ) (r : Result Status Cut) → asked boxes words ≡ Some (workload choices engines series) → IfLost r (λ _. IsStoppedWorkload (terms_in choices engines) series before now)
      → IfLost r (λ _. IsStoppedWords boxes words found before now)
  workload_stopped series r is h = when_lost r (IsStoppedWorkload (terms_in choices engines) series before now) (IsStoppedWords boxes words found before now)
      (λ s. record { text = loaded_text series ++ s.text; first = working choices engines series s.text is s.begun; written = s.written }) h

  pub workload_ended : (series : ℕ) (r : Result Status Cut) → asked boxes words ≡ Some (workload choices engines series)
      → IfOk r (λ status. EndsFiles (terms_in choices engines) (Just (workload_text series)) (workload_path ∷ []) idle now status.0) → IfOk r (λ status. EndsWords boxes words found idle before now status.0)
  workload_ended series (Ok status) is h = worked_so choices engines series is h
  workload_ended series (Err cause) is h = tt

  -- a query
  module _ (grid : Grid) (instant : Bool) (path expr : List ℕ) (is : asked boxes words ≡ Some (query choices engines (moments_in grid instant) path expr)) where
    query_cut : IsCutReport (Queried (terms_in choices engines) found path expr grid instant) before now → IsCut boxes words found before now
    query_cut (Nothing same) = unwritten same
    query_cut (Partly report q front) = reporting report (queried choices engines grid instant path expr report is q) front

    pub query_end : (r : Result Status Cut) → Ends (ReportsQuery (terms_in choices engines) found path expr grid instant idle) (IsCutReport (Queried (terms_in choices engines) found path expr grid instant) before now) before now r
        → Ends (ReportsWords boxes words found idle) (IsCut boxes words found before now) before now r
    query_end (Ok status) e = (e.0, Queries choices engines grid instant path expr e.0 is e.1, e.2)
    query_end (Err cause) e = query_cut e

    pub query_ended : (r : Result Status Cut) → IfOk r (λ status. EndsFiles (terms_in choices engines) found (path ∷ []) idle now status.0) → IfOk r (λ status. EndsWords boxes words found idle before now status.0)
    query_ended (Ok status) h = queried_so choices engines grid instant path expr is h
    query_ended (Err cause) h = tt

-- where nothing was written, an engine stopped the run before its first line
pub unwritten_stopped : (boxes : ℕ) (words : List (List ℕ)) (found : List ℕ → Option (List ℕ) → Type 0) (before now : Option (List ℕ)) (r : Result Status Cut) → IfLost r (λ _. now ≡ before) → IfLost r (λ _. IsStoppedWords boxes words found before now)
unwritten_stopped boxes words found before now r h =
    when_lost r (now ≡ before) (IsStoppedWords boxes words found before now) (λ same. record { text = []; first = nothing; written = same ∙ sym (appended-nil before) }) h
