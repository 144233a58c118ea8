-- What stands after a run, from what was reported.
use Rattle.std.proofs.Common.{◌≡◌, ◌≤◌, ℕ, Bool, true, false, List, [], ◌∷◌, ◌++◌, length, Option, None, Some, IfSome, refl, sym, ap, subst, ◌∙◌, inl, ◌⊎◌, arith}
use Rattle.std.specs.Prelude.{◌==◌, if◌then◌else◌}
use Rattle.edge_io.specs.Written.{appended}
use Rattle.plan_rewrites.specs.declared.choosing.Choices.{Choices as Rewrites}
use Rattle.promql_meaning.specs.declared.answer.Outcome.{Outcome}
use Rattle.promql_meaning.specs.declared.answer.Outcome.TheVariants as outcome
use Rattle.ticks.specs.declared.grid.Grid.{Grid}
use Rattle.tool_words.specs.Asked.{Wish, asked, query, test, workload}
use Rattle.tool_words.specs.Engines.{Labels}
use Rattle.tool_words.specs.declared.asked.Choices.{Choices}
use Rattle.ticks.specs.Moments.{moments_in}
use Rattle.promql_tool.specs.Ends.{IsGone, IsOneOf, IsRefused, Reports, makes, refuses}
use Rattle.promql_tool.specs.Chosen.{Terms, terms_asked, terms_in, terms_of}
use Rattle.promql_tool.specs.Files.{All, Gone, JudgedFile, Last, Refused, Sees, all, all_failed, gone, judged, last_status, refused, report_of}
use Rattle.promql_tool.specs.Found.{Have, IsFound, Just}
use Rattle.promql_tool.specs.Printed.{Explained, Formatted, planned, refused as format_refused, taken, unplanned}
use Rattle.promql_tool.specs.Query.{Queried, answered, gone as query_gone, outcome_report, refused as query_refused}
use Rattle.promql_tool.specs.Reading.{IsRefusedFor}
use Rattle.promql_tool.specs.Report.{HasReport, IsReport, files_asked, files_of, explained, formatted, misused, queried, tested, worked}
use Rattle.promql_tool.specs.Runs.{Explains, Formats, Misused, Queries, ReportsWords, ReportsWorkload, Tested, Works}
use Rattle.promql_tool.specs.Texts.{Report, refusal_text}
use Rattle.promql_tool.specs.Workload.{loaded_text, workload_path, workload_text}
use Rattle.promql_tool.specs.declared.fault.Refusal.{Refusal as Refusing}
use Rattle.promql_tool.proofs.Mapped.{sees_so}

-- ---- statuses

verdict_status : (b : Bool) (P : ℕ → Type 0) → P 0 → P 1 → P (if b then 0 else 1)
verdict_status true P zero one = zero
verdict_status false P zero one = one

last_is : (files : List JudgedFile) (last : Last) (P : ℕ → Type 0) → P 0 → P 1 → P 3 → P 6 → P (last_status files last)
last_is files All P p0 p1 p3 p6 = verdict_status (all_failed files == 0) P p0 p1
last_is files (Gone path) P p0 p1 p3 p6 = p3
last_is files (Refused path refusal) P p0 p1 p3 p6 = p6

outcome_is : (got : Outcome) (notes : List (List ℕ)) (P : ℕ → Type 0) → P 0 → P 1 → P (outcome_report got notes).status
outcome_is (outcome.Answer answer) notes P p0 p1 = p0
outcome_is (outcome.Refused refusal) notes P p0 p1 = p1
outcome_is (outcome.Failed at mark) notes P p0 p1 = p1
outcome_is (outcome.TooManyRows at) notes P p0 p1 = p1

query_is : {terms : Terms} {found : List ℕ → Option (List ℕ) → Type 0} {path expr : List ℕ} {grid : Grid} {instant : Bool} {report : Report} → Queried terms found path expr grid instant report → (P : ℕ → Type 0) → P 0 → P 1 → P 3 → P 6 → P report.status
query_is (query_gone h) P p0 p1 p3 p6 = p3
query_is (query_refused bytes why h w) P p0 p1 p3 p6 = p6
query_is (answered bytes kept script got notes h read over are) P p0 p1 p3 p6 = outcome_is got notes P p0 p1

formatted_is : {expr : List ℕ} {report : Report} → Formatted expr report → (P : ℕ → Type 0) → P 0 → P 1 → P report.status
formatted_is (taken kept tree stands) P p0 p1 = p0
formatted_is (format_refused refusal is) P p0 p1 = p1

explained_is : {engines : ℕ} {rewrites : Rewrites} {expr : List ℕ} {report : Report} → Explained engines rewrites expr report → (P : ℕ → Type 0) → P 0 → P 1 → P report.status
explained_is (planned kept plan has) P p0 p1 = p0
explained_is (unplanned refusal is) P p0 p1 = p1

-- the status of a report
pub report_is : (boxes : ℕ) (words : List (List ℕ)) (found : List ℕ → Option (List ℕ) → Type 0) (report : Report) → IsReport boxes words found report → (P : ℕ → Type 0) → P 0 → P 1 → P 2 → P 3 → P 6 → P report.status
report_is boxes words found report (misused none) P p0 p1 p2 p3 p6 = p2
report_is boxes words found report (tested choices engines paths files last is seen) P p0 p1 p2 p3 p6 = last_is files last P p0 p1 p3 p6
report_is boxes words found report (queried choices engines grid instant path expr said is q) P p0 p1 p2 p3 p6 = query_is q P p0 p1 p3 p6
report_is boxes words found report (worked choices engines series files last is seen) P p0 p1 p2 p3 p6 = last_is files last P p0 p1 p3 p6
report_is boxes words found report (formatted expr said is f) P p0 p1 p2 p3 p6 = formatted_is f P p0 p1
report_is boxes words found report (explained optimisers engines expr said is f) P p0 p1 p2 p3 p6 = explained_is f P p0 p1

-- ---- reports over the files that are told

module _ (f g : List ℕ → Option (List ℕ) → Type 0) (some : (path bytes : List ℕ) → f path (Some bytes) → g path (Some bytes)) where
  query_so : {path expr : List ℕ} {grid : Grid} {instant : Bool} {report : Report} {terms : Terms} → ((path : List ℕ) → f path None → report.status ≡ 3 → g path None) → Queried terms f path expr grid instant report
      → Queried terms g path expr grid instant report
  query_so {path} none (query_gone h) = query_gone (none path h refl)
  query_so {path} none (query_refused bytes why h w) = query_refused bytes why (some path bytes h) w
  query_so {path} none (answered bytes kept script got notes h read over are) = answered bytes kept script got notes (some path bytes h) read over are

  pub report_so : (boxes : ℕ) (words : List (List ℕ)) (report : Report) → ((path : List ℕ) → f path None → report.status ≡ 3 → g path None) → IsReport boxes words f report → IsReport boxes words g report
  report_so boxes words report none (misused h) = misused h
  report_so boxes words report none (tested choices engines paths files last is seen) =
      tested choices engines paths files last is (sees_so f g some (terms_in choices engines) paths files last (λ path h at. none path h (ap (last_status files) at)) seen)
  report_so boxes words report none (queried choices engines grid instant path expr said is q) = queried choices engines grid instant path expr said is (query_so none q)
  report_so boxes words report none (worked choices engines series files last is seen) = worked choices engines series files last is seen
  report_so boxes words report none (formatted expr said is f) = formatted expr said is f
  report_so boxes words report none (explained optimisers engines expr said is f) = explained optimisers engines expr said is f

-- ---- what was seen

module _ (terms : Terms) (found : List ℕ → Option (List ℕ) → Type 0) where
  none_left : (paths : List (List ℕ)) (files : List JudgedFile) (last : Last) → length paths ≤ 0 → Sees terms found paths files last → last ≡ All
  none_left paths files last few all = refl
  none_left paths files last few (gone path later h) = absurd (omega arith)
  none_left paths files last few (refused path bytes refusal later h why) = absurd (omega arith)
  none_left paths files last few (judged path verdicts later more end h seen) = absurd (omega arith)

-- ---- the clauses of a run that ended with a report

-- bytes that were found are told
told_some : (files : List ℕ → Option (List ℕ)) (sound : Type 0) (path bytes : List ℕ) → IsFound (Some files) sound path (Some bytes) → Have files path (Some bytes)
told_some files sound path bytes h = h.if_some

pub is_report : (boxes : ℕ) (words : List (List ℕ)) (found : List ℕ → Option (List ℕ) → Type 0) (idle : Type 0) (report : Report) → ReportsWords boxes words found idle report → IsReport boxes words found report
is_report boxes words found idle report (Misused none rests) = misused none
is_report boxes words found idle report (Tested choices engines paths said is f) = subst (IsReport boxes words found) (sym f.is) (tested choices engines paths f.files f.last is f.seen)
is_report boxes words found idle report (Queries choices engines grid instant path expr said is q) = queried choices engines grid instant path expr said is q.is
is_report boxes words found idle report (Works choices engines series said is w) = subst (IsReport boxes words found) (sym w.is) (worked choices engines series w.files w.last is w.seen)
is_report boxes words found idle report (Formats expr said is f) = formatted expr said is f
is_report boxes words found idle report (Explains optimisers engines expr said is f) = explained optimisers engines expr said is f

-- the files of words that ask for such
named : (boxes : ℕ) (words : List (List ℕ)) (wish : Option Wish) → asked boxes words ≡ wish → files_asked wish ≡ files_of boxes words
named boxes words wish is = ap files_asked (sym is)

-- and their terms
edged : (boxes : ℕ) (words : List (List ℕ)) (wish : Option Wish) → asked boxes words ≡ wish → terms_asked wish ≡ terms_of boxes words
edged boxes words wish is = ap terms_asked (sym is)

module _ (boxes : ℕ) (words : List (List ℕ)) (idle : Type 0) (before now : Option (List ℕ)) (status : ℕ) where
  pub status_is : (found : List ℕ → Option (List ℕ) → Type 0) (report : Report) → ReportsWords boxes words found idle report → Reports before now status report → (P : ℕ → Type 0) → P 0 → P 1 → P 2 → P 3 → P 6 → P status
  status_is found report h r P p0 p1 p2 p3 p6 = subst P (sym r.status_is) (report_is boxes words found report (is_report boxes words found idle report h) P p0 p1 p2 p3 p6)

  module _ (found : List ℕ → Option (List ℕ) → Type 0) where
    -- 6
    files_refused : (terms : Terms) (paths : List (List ℕ)) (files : List JudgedFile) (last : Last) → terms ≡ terms_of boxes words → paths ≡ files_of boxes words → Sees terms found paths files last → Reports before now status (report_of files last) → status ≡ 6
        → IsRefused boxes words found before now
    files_refused terms paths files All edge is seen r six = absurd (verdict_status (all_failed files == 0) (λ n. n ≡ 6 → ⊥) (λ e. omega (arith, e)) (λ e. omega (arith, e)) (sym r.status_is ∙ six))
    files_refused terms paths files (Gone path) edge is seen r six = absurd (omega (arith, r.status_is, six))
    files_refused terms paths files (Refused path why) edge is seen r six =
        refuses files path why (subst (λ (b : Terms). Sees b found (files_of boxes words) files (Refused path why)) edge (subst (λ (ps : List (List ℕ)). Sees terms found ps files (Refused path why)) is seen)) r.text_is

    query_refused_is : (terms : Terms) (path expr : List ℕ) (grid : Grid) (instant : Bool) (report : Report) → terms ≡ terms_of boxes words → path ∷ [] ≡ files_of boxes words → Queried terms found path expr grid instant report → Reports before now status report → status ≡ 6
        → IsRefused boxes words found before now
    query_refused_is terms path expr grid instant report edge is (query_gone h) r six = absurd (omega (arith, r.status_is, six))
    query_refused_is terms path expr grid instant report edge is (query_refused bytes why h w) r six =
        refuses [] path why (subst (λ (ps : List (List ℕ)). Sees (terms_of boxes words) found ps [] (Refused path why)) is (refused path bytes why [] h (subst (λ (b : Terms). IsRefusedFor b bytes why) edge w))) r.text_is
    query_refused_is terms path expr grid instant report edge is (answered bytes kept script got notes h read over are) r six =
        absurd (outcome_is got notes (λ n. n ≡ 6 → ⊥) (λ e. omega (arith, e)) (λ e. omega (arith, e)) (sym r.status_is ∙ six))

    -- the script of a workload is refused
    script_refused : (terms : Terms) (series : ℕ) (paths : List (List ℕ)) (files : List JudgedFile) (last : Last) → paths ≡ workload_path ∷ [] → Sees terms (Just (workload_text series)) paths files last
        → last_status files last ≡ 6 → (why : Refusing) × IsRefusedFor terms (workload_text series) why × ((report_of files last).text ≡ refusal_text workload_path why)
    script_refused terms series paths files last is all six = absurd (cc)
    script_refused terms series paths files last is (gone path later h) six = absurd (omega (arith, six))
    script_refused terms series paths files last is (refused path bytes why later h w) six =
        let same : path ≡ workload_path = cc in
        let made : bytes ≡ workload_text series = cc in
        (why, subst (λ (b : List ℕ). IsRefusedFor terms b why) made w, ap (λ (p : List ℕ). refusal_text p why) same)
    script_refused terms series paths files last is (judged path verdicts later more end j seen) six =
        let none : length later ≤ 0 = omega (arith, ap length is) in
        let ends = none_left terms (Just (workload_text series)) later more end none seen in
        absurd (verdict_status (all_failed files == 0) (λ n. n ≡ 6 → ⊥) (λ e. omega (arith, e)) (λ e. omega (arith, e)) (sym (ap (last_status files) ends) ∙ six))

    workload_refused : (choices : Choices) (engines : List Labels) (series : ℕ) (report : Report) → asked boxes words ≡ Some (workload choices engines series) → ReportsWorkload (terms_in choices engines) series idle report → Reports before now status report → status ≡ 6 → IsRefused boxes words found before now
    workload_refused choices engines series report is w r six =
        let whole = subst (Reports before now status) w.is r in
        let why = script_refused (terms_in choices engines) series (workload_path ∷ []) w.files w.last refl w.seen (sym whole.status_is ∙ six) in
        makes choices engines series why.0 is why.1 (whole.text_is ∙ ap (λ (l : List ℕ). appended before (loaded_text series ++ l)) why.2)

    pub refusal_is : (report : Report) → ReportsWords boxes words found idle report → Reports before now status report → status ≡ 6 → IsRefused boxes words found before now
    refusal_is report (Misused none rests) r six = absurd (omega (arith, r.status_is, six))
    refusal_is report (Tested choices engines paths said is f) r six =
        files_refused (terms_in choices engines) paths f.files f.last (edged boxes words (Some (test choices engines paths)) is) (named boxes words (Some (test choices engines paths)) is) f.seen (subst (Reports before now status) f.is r) six
    refusal_is report (Queries choices engines grid instant path expr said is q) r six =
        query_refused_is (terms_in choices engines) path expr grid instant said (edged boxes words (Some (query choices engines (moments_in grid instant) path expr)) is) (named boxes words (Some (query choices engines (moments_in grid instant) path expr)) is) q.is r six
    refusal_is report (Works choices engines series said is w) r six = workload_refused choices engines series said is w r six
    refusal_is report (Formats expr said is f) r six = absurd (formatted_is f (λ n. n ≡ 6 → ⊥) (λ e. omega (arith, e)) (λ e. omega (arith, e)) (sym r.status_is ∙ six))
    refusal_is report (Explains optimisers engines expr said is f) r six = absurd (explained_is f (λ n. n ≡ 6 → ⊥) (λ e. omega (arith, e)) (λ e. omega (arith, e)) (sym r.status_is ∙ six))

    -- 3
    files_gone : (terms : Terms) (paths : List (List ℕ)) (files : List JudgedFile) (last : Last) → terms ≡ terms_of boxes words → paths ≡ files_of boxes words → Sees terms found paths files last → Reports before now status (report_of files last) → status ≡ 3
        → IsGone (terms_of boxes words) (files_of boxes words) found before now
    files_gone terms paths files All edge is seen r three = absurd (verdict_status (all_failed files == 0) (λ n. n ≡ 3 → ⊥) (λ e. omega (arith, e)) (λ e. omega (arith, e)) (sym r.status_is ∙ three))
    files_gone terms paths files (Gone path) edge is seen r three =
        record { files = files; path = path; seen = subst (λ (b : Terms). Sees b found (files_of boxes words) files (Gone path)) edge (subst (λ (ps : List (List ℕ)). Sees terms found ps files (Gone path)) is seen); written = r.text_is }
    files_gone terms paths files (Refused path why) edge is seen r three = absurd (omega (arith, r.status_is, three))

    query_gone_is : (terms : Terms) (path expr : List ℕ) (grid : Grid) (instant : Bool) (report : Report) → path ∷ [] ≡ files_of boxes words → Queried terms found path expr grid instant report → Reports before now status report → status ≡ 3
        → IsGone (terms_of boxes words) (files_of boxes words) found before now
    query_gone_is terms path expr grid instant report is (query_gone h) r three =
        record { files = []; path = path; seen = subst (λ (ps : List (List ℕ)). Sees (terms_of boxes words) found ps [] (Gone path)) is (gone path [] h); written = r.text_is }
    query_gone_is terms path expr grid instant report is (query_refused bytes why h w) r three = absurd (omega (arith, r.status_is, three))
    query_gone_is terms path expr grid instant report is (answered bytes kept script got notes h read over are) r three =
        absurd (outcome_is got notes (λ n. n ≡ 3 → ⊥) (λ e. omega (arith, e)) (λ e. omega (arith, e)) (sym r.status_is ∙ three))

    -- the script of a workload is there
    script_there : (terms : Terms) (series : ℕ) (paths : List (List ℕ)) (files : List JudgedFile) (last : Last) → paths ≡ workload_path ∷ [] → Sees terms (Just (workload_text series)) paths files last → last_status files last ≡ 3 → ⊥
    script_there terms series paths files last is all three = verdict_status true (λ n. n ≡ 3 → ⊥) (λ e. omega (arith, e)) (λ e. omega (arith, e)) three
    script_there terms series paths files last is (gone path later h) three = cc
    script_there terms series paths files last is (refused path bytes why later h w) three = omega (arith, three)
    script_there terms series paths files last is (judged path verdicts later more end j seen) three =
        let none : length later ≤ 0 = omega (arith, ap length is) in
        let ends = none_left terms (Just (workload_text series)) later more end none seen in
        verdict_status (all_failed files == 0) (λ n. n ≡ 3 → ⊥) (λ e. omega (arith, e)) (λ e. omega (arith, e)) (sym (ap (last_status files) ends) ∙ three)

    pub gone_is : (report : Report) → ReportsWords boxes words found idle report → Reports before now status report → status ≡ 3 → IsGone (terms_of boxes words) (files_of boxes words) found before now
    gone_is report (Misused none rests) r three = absurd (omega (arith, r.status_is, three))
    gone_is report (Tested choices engines paths said is f) r three =
        files_gone (terms_in choices engines) paths f.files f.last (edged boxes words (Some (test choices engines paths)) is) (named boxes words (Some (test choices engines paths)) is) f.seen (subst (Reports before now status) f.is r) three
    gone_is report (Queries choices engines grid instant path expr said is q) r three =
        query_gone_is (terms_in choices engines) path expr grid instant said (named boxes words (Some (query choices engines (moments_in grid instant) path expr)) is) q.is r three
    gone_is report (Works choices engines series said is w) r three = absurd (script_there (terms_in choices engines) series (workload_path ∷ []) w.files w.last refl w.seen (sym (ap (λ (x : Report). x.status) w.is) ∙ sym r.status_is ∙ three))
    gone_is report (Formats expr said is f) r three = absurd (formatted_is f (λ n. n ≡ 3 → ⊥) (λ e. omega (arith, e)) (λ e. omega (arith, e)) (sym r.status_is ∙ three))
    gone_is report (Explains optimisers engines expr said is f) r three = absurd (explained_is f (λ n. n ≡ 3 → ⊥) (λ e. omega (arith, e)) (λ e. omega (arith, e)) (sym r.status_is ∙ three))

  module _ (sound : Type 0) where
    not_three : IsOneOf (0 ∷ 1 ∷ 2 ∷ 6 ∷ []) status → status ≡ 3 → ⊥
    not_three one three = let e = subst (IsOneOf (0 ∷ 1 ∷ 2 ∷ 6 ∷ [])) three one in cc

    pub reports_told : (told : Option (List ℕ → Option (List ℕ))) (report : Report) → ReportsWords boxes words (IsFound told sound) idle report → Reports before now status report
        → IfSome told (λ files. IsOneOf (0 ∷ 1 ∷ 2 ∷ 6 ∷ []) status → HasReport boxes words (Have files) (Reports before now status))
    reports_told None report h r = tt
    reports_told (Some files) report h r = λ one.
        (report, report_so (IsFound (Some files) sound) (Have files) (told_some files sound) boxes words report (λ path none three. absurd (not_three one (r.status_is ∙ three))) (is_report boxes words (IsFound (Some files) sound) idle report h), r)

    pub answers_told : (told : Option (List ℕ → Option (List ℕ))) (report : Report) (out_sound : Type 0) → ReportsWords boxes words (IsFound told sound) idle report → Reports before now status report
        → IfSome told (λ files. sound → out_sound → HasReport boxes words (Have files) (λ said. status ≡ said.status) ⊎ (status ≡ 7))
    answers_told None report out_sound h r = tt
    answers_told (Some files) report out_sound h r = λ s o.
        inl (report, report_so (IsFound (Some files) sound) (Have files) (told_some files sound) boxes words report (λ path none three. none.if_sound s) (is_report boxes words (IsFound (Some files) sound) idle report h), r.status_is)

    pub gone_told : (told : Option (List ℕ → Option (List ℕ))) (report : Report) → ReportsWords boxes words (IsFound told sound) idle report → Reports before now status report
        → IfSome told (λ files. sound → status ≡ 3 → IsGone (terms_of boxes words) (files_of boxes words) (Have files) before now)
    gone_told None report h r = tt
    gone_told (Some files) report h r = λ s three.
        let g = gone_is (IsFound (Some files) sound) report h r three in
        record {
          files = g.files;
          path = g.path;
          seen = sees_so (IsFound (Some files) sound) (Have files) (told_some files sound) (terms_of boxes words) (files_of boxes words) g.files (Gone g.path) (λ path none at. none.if_sound s) g.seen;
          written = g.written;
        }
