-- Words that come to one thing have one report.
use Rattle.std.proofs.Common.{◌≡◌, ℕ, Bool, List, [], ◌∷◌, Option, None, Some, refl, sym, ap, subst, ◌∙◌, length}
use Rattle.std.specs.List.{AllByRecursion}
use Rattle.plan_rewrites.specs.declared.choosing.Choices.{Choices as Rewrites}
use Rattle.ticks.specs.Moments.{Moments, moments_in}
use Rattle.ticks.specs.declared.grid.Grid.{Grid}
use Rattle.tool_words.specs.Asked.{Wish, asked, explain, format, query, test, workload}
use Rattle.promql_tool.specs.Chosen.{Terms, terms_in}
use Rattle.promql_tool.specs.Files.{All, Gone, JudgedFile, Last, Refused, Sees, all, gone, judged, refused, report_of}
use Rattle.promql_tool.specs.Found.{Have, Just}
use Rattle.promql_tool.specs.Printed as printed
use Rattle.promql_tool.specs.Printed.{Explained, Formatted, plan_report, refused_report, rewrites_in, tree_report}
use Rattle.promql_tool.specs.Query.{Queried, outcome_report}
use Rattle.promql_tool.specs.Query as queries
use Rattle.promql_tool.specs.Report.{IsReport, explained, formatted, misused, queried, tested, worked, workload_report}
use Rattle.promql_tool.specs.Settled.{Came, ComesToOne, IsAnsweredOnce, IsPlannedOnce, IsPlannedSo, IsReadOnce, IsReadSo, IsSeen, IsSettled, IsToldSo, NoFile, NoPlan, NoScript, NoTree, NotRun, NotThere, Outline, Planned, Read, Run, Seen, Told, Tree}
use Rattle.promql_tool.specs.Texts.{Report, fault_report, refusal_report, usage_report}
use Rattle.promql_tool.specs.Workload.{workload_path, workload_text}

-- ---- files

module _ (terms : Terms) (found : List ℕ → Option (List ℕ) → Type 0) where
  -- what is seen from a file on, by what that one comes to
  abbrev Follows : List ℕ → List (List ℕ) → Seen → List JudgedFile → Last → Type 0
  Follows path later NotThere files last = (files ≡ []) × (last ≡ Gone path)
  Follows path later (NotRun refusal) files last = (files ≡ []) × (last ≡ Refused path refusal)
  Follows path later (Run verdicts) files last = (more : List JudgedFile) × (files ≡ record { path = path; verdicts = verdicts } ∷ more) × Sees terms found later more last

  record First (path : List ℕ) (later : List (List ℕ)) (files : List JudgedFile) (last : Last) : Type 0 where
    seen : Seen
    is : IsSeen terms found path seen
    follows : Follows path later seen files last

  first_seen : (paths : List (List ℕ)) (files : List JudgedFile) (last : Last) → Sees terms found paths files last → (path : List ℕ) (later : List (List ℕ)) → paths ≡ path ∷ later → First path later files last
  first_seen paths files last all path later e = absurd (cc)
  first_seen paths files last (gone p ps none) path later e =
      let same : p ≡ path = cc in
      subst (λ (x : List ℕ). First x later [] (Gone p)) same (record { seen = NotThere; is = none; follows = (refl, refl) })
  first_seen paths files last (refused p bytes refusal ps is why) path later e =
      let same : p ≡ path = cc in
      subst (λ (x : List ℕ). First x later [] (Refused p refusal)) same (record { seen = NotRun refusal; is = (bytes, is, why); follows = (refl, refl) })
  first_seen paths files last (judged p verdicts ps more end is rest) path later e =
      let same : p ≡ path = cc in
      let behind : ps ≡ later = cc in
      subst (λ (x : List ℕ). First x later (record { path = p; verdicts = verdicts } ∷ more) end) same
      (record { seen = Run verdicts; is = is; follows = (more, refl, subst (λ (l : List (List ℕ)). Sees terms found l more end) behind rest) })

  none_seen : (paths : List (List ℕ)) (files : List JudgedFile) (last : Last) → Sees terms found paths files last → paths ≡ [] → (files ≡ []) × (last ≡ All)
  none_seen paths files last all e = (refl, refl)
  none_seen paths files last (gone p ps none) e = absurd (cc)
  none_seen paths files last (refused p bytes refusal ps is why) e = absurd (cc)
  none_seen paths files last (judged p verdicts ps more end is rest) e = absurd (cc)

  abbrev Same : List JudgedFile → Last → List JudgedFile → Last → Type 0
  Same files last others end = (files ≡ others) × (last ≡ end)

  seen_once : (paths : List (List ℕ)) → AllByRecursion (ComesToOne terms found) paths → (files others : List JudgedFile) (last end : Last) → Sees terms found paths files last → Sees terms found paths others end → Same files last others end
  seen_once [] once files others last end a b =
      let x = none_seen [] files last a refl in
      let y = none_seen [] others end b refl in
      (x.0 ∙ sym y.0, x.1 ∙ sym y.1)
  seen_once (path ∷ later) once files others last end a b =
      let x = first_seen (path ∷ later) files last a path later refl in
      let y = first_seen (path ∷ later) others end b path later refl in
      go x.seen (seen_once later once.1) x.follows (subst (λ (s : Seen). Follows path later s others end) (once.0 y.seen x.seen y.is x.is) y.follows)
    where
      go : (s : Seen) → ((more rest : List JudgedFile) (l e : Last) → Sees terms found later more l → Sees terms found later rest e → Same more l rest e) → Follows path later s files last → Follows path later s others end
          → Same files last others end
      go NotThere behind f g = (f.0 ∙ sym g.0, f.1 ∙ sym g.1)
      go (NotRun refusal) behind f g = (f.0 ∙ sym g.0, f.1 ∙ sym g.1)
      go (Run verdicts) behind f g =
          let more = behind f.0 g.0 last end f.2 g.2 in
          (f.1 ∙ ap (λ (l : List JudgedFile). record { path = path; verdicts = verdicts } ∷ l) more.0 ∙ sym g.1, more.1)

  reports_once : (paths : List (List ℕ)) → AllByRecursion (ComesToOne terms found) paths → (report : List JudgedFile → Last → Report) (files others : List JudgedFile) (last end : Last)
      → Sees terms found paths files last → Sees terms found paths others end → report files last ≡ report others end
  reports_once paths once report files others last end a b =
      let same = seen_once paths once files others last end a b in
      ap (λ (l : List JudgedFile). report l last) same.0 ∙ ap (report others) same.1

-- ---- queries

module _ (terms : Terms) (moments : Moments) (found : List ℕ → Option (List ℕ) → Type 0) (path expr : List ℕ) where
  abbrev says : Told → Report
  says NoFile = fault_report path
  says (NoScript refusal) = refusal_report path refusal
  says (Came got notes) = outcome_report got notes

  record Says (report : Report) : Type 0 where
    told : Told
    is : IsToldSo terms moments found path expr told
    same : report ≡ says told

  said : (grid : Grid) (instant : Bool) → moments ≡ moments_in grid instant → (report : Report) → Queried terms found path expr grid instant report → Says report
  said grid instant at report (queries.gone none) = record { told = NoFile; is = none; same = refl }
  said grid instant at report (queries.refused bytes refusal is why) = record { told = NoScript refusal; is = (bytes, is, why); same = refl }
  said grid instant at report (queries.answered bytes kept script got notes is read over lines) = record {
    told = Came got notes;
    is = record { grid = grid; instant = instant; at = at; bytes = bytes; is_found = is; kept = kept; script = script; is_read = read; over = over; lines = lines };
    same = refl;
  }

  answers_once : IsAnsweredOnce terms moments found path expr → (one other : Report) → Says one → Says other → one ≡ other
  answers_once once one other a b = a.same ∙ ap says (once a.told b.told a.is b.is) ∙ sym b.same

-- ---- expressions that are printed

abbrev prints : Read → Report
prints (Tree kept tree) = tree_report kept tree
prints (NoTree refusal) = refused_report refusal

record Prints (expr : List ℕ) (report : Report) : Type 0 where
  read : Read
  is : IsReadSo expr read
  same : report ≡ prints read

printed_so : (expr : List ℕ) (report : Report) → Formatted expr report → Prints expr report
printed_so expr report (printed.taken kept tree stands) = record { read = Tree kept tree; is = stands; same = refl }
printed_so expr report (printed.refused refusal is) = record { read = NoTree refusal; is = is; same = refl }

printed_once : (expr : List ℕ) → IsReadOnce expr → (one other : Report) → Prints expr one → Prints expr other → one ≡ other
printed_once expr once one other a b = a.same ∙ ap prints (once a.read b.read a.is b.is) ∙ sym b.same

-- ---- plans that are printed

abbrev outlines : Outline → Report
outlines (Planned kept plan) = plan_report kept plan
outlines (NoPlan refusal) = refused_report refusal

record Outlines (engines : ℕ) (rewrites : Rewrites) (expr : List ℕ) (report : Report) : Type 0 where
  outline : Outline
  is : IsPlannedSo engines rewrites expr outline
  same : report ≡ outlines outline

outlined_so : (engines : ℕ) (rewrites : Rewrites) (expr : List ℕ) (report : Report) → Explained engines rewrites expr report → Outlines engines rewrites expr report
outlined_so engines rewrites expr report (printed.planned kept plan has) = record { outline = Planned kept plan; is = has; same = refl }
outlined_so engines rewrites expr report (printed.unplanned refusal is) = record { outline = NoPlan refusal; is = is; same = refl }

outlined_once : (engines : ℕ) (rewrites : Rewrites) (expr : List ℕ) → IsPlannedOnce engines rewrites expr → (one other : Report) → Outlines engines rewrites expr one → Outlines engines rewrites expr other → one ≡ other
outlined_once engines rewrites expr once one other a b = a.same ∙ ap outlines (once a.outline b.outline a.is b.is) ∙ sym b.same

-- ---- words

module _ (files : List ℕ → Option (List ℕ)) where
  -- what a report says of what is asked
  abbrev SaysOf : Option Wish → Report → Type 0
  SaysOf None report = report ≡ usage_report
  SaysOf (Some (test choices engines paths)) report = (seen : List JudgedFile) × (last : Last) × Sees (terms_in choices engines) (Have files) paths seen last × (report ≡ report_of seen last)
  SaysOf (Some (query choices engines moments path expr)) report = Says (terms_in choices engines) moments (Have files) path expr report
  SaysOf (Some (workload choices engines series)) report =
      (seen : List JudgedFile) × (last : Last) × Sees (terms_in choices engines) (Just (workload_text series)) (workload_path ∷ []) seen last × (report ≡ workload_report series seen last)
  SaysOf (Some (format expr)) report = Prints expr report
  SaysOf (Some (explain optimisers engines expr)) report = Outlines (length engines) (rewrites_in optimisers) expr report

  says_of : (boxes : ℕ) (words : List (List ℕ)) (report : Report) → IsReport boxes words (Have files) report → SaysOf (asked boxes words) report
  says_of boxes words report (misused none) = subst (λ (w : Option Wish). SaysOf w usage_report) (sym none) refl
  says_of boxes words report (tested choices engines paths seen last is sees) = subst (λ (w : Option Wish). SaysOf w (report_of seen last)) (sym is) (seen, last, sees, refl)
  says_of boxes words report (queried choices engines grid instant path expr said_so is q) = subst (λ (w : Option Wish). SaysOf w said_so) (sym is) (said (terms_in choices engines) (moments_in grid instant) (Have files) path expr grid instant refl said_so q)
  says_of boxes words report (worked choices engines series seen last is sees) = subst (λ (w : Option Wish). SaysOf w (workload_report series seen last)) (sym is) (seen, last, sees, refl)
  says_of boxes words report (formatted expr said_so is f) = subst (λ (w : Option Wish). SaysOf w said_so) (sym is) (printed_so expr said_so f)
  says_of boxes words report (explained optimisers engines expr said_so is x) = subst (λ (w : Option Wish). SaysOf w said_so) (sym is) (outlined_so (length engines) (rewrites_in optimisers) expr said_so x)

  one_of : (wish : Option Wish) → IsSettled wish files → (one other : Report) → SaysOf wish one → SaysOf wish other → one ≡ other
  one_of None once one other a b = a ∙ sym b
  one_of (Some (test choices engines paths)) once one other a b = a.3 ∙ reports_once (terms_in choices engines) (Have files) paths once report_of a.0 b.0 a.1 b.1 a.2 b.2 ∙ sym b.3
  one_of (Some (query choices engines moments path expr)) once one other a b = answers_once (terms_in choices engines) moments (Have files) path expr once one other a b
  one_of (Some (workload choices engines series)) once one other a b =
      a.3 ∙ reports_once (terms_in choices engines) (Just (workload_text series)) (workload_path ∷ []) (once, tt) (workload_report series) a.0 b.0 a.1 b.1 a.2 b.2 ∙ sym b.3
  one_of (Some (format expr)) once one other a b = printed_once expr once one other a b
  one_of (Some (explain optimisers engines expr)) once one other a b = outlined_once (length engines) (rewrites_in optimisers) expr once one other a b

pub one_report : (boxes : ℕ) (words : List (List ℕ)) (files : List ℕ → Option (List ℕ)) → IsSettled (asked boxes words) files → (one other : Report) → IsReport boxes words (Have files) one → IsReport boxes words (Have files) other → one ≡ other
one_report boxes words files once one other a b = one_of files (asked boxes words) once one other (says_of files boxes words one a) (says_of files boxes words other b)
