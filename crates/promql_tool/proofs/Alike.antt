-- Words that ask for the same, but for what no report depends on.
use Rattle.std.proofs.Common.{◌≡◌, ◌∙◌, ℕ, Bool, List, [], ◌∷◌, Option, None, Some, ap, refl, subst, sym, length}
use Rattle.std.specs.Prelude.{◌↔◌}
use Rattle.ticks.specs.Moments.{moments_in}
use Rattle.ticks.specs.declared.grid.Grid.{Grid}
use Rattle.tool_words.specs.Asked.{Wish, asked, explain, format, query, test, workload}
use Rattle.promql_tool.specs.Chosen.{terms_in, under}
use Rattle.promql_tool.specs.Alike.{AskAlike, explains, formats, misused as asks_nothing, queries, tests, workloads}
use Rattle.promql_tool.specs.Files.{JudgedFile, Last, Sees, report_of}
use Rattle.promql_tool.specs.Found.{Have, Just}
use Rattle.promql_tool.specs.Printed.{Explained, Formatted, rewrites_in}
use Rattle.promql_tool.specs.Query.{Queried}
use Rattle.promql_tool.specs.Report.{IsReport, explained, formatted, misused, queried, tested, worked, workload_report}
use Rattle.promql_tool.specs.Texts.{Report, usage_report}
use Rattle.promql_tool.specs.Workload.{workload_path, workload_text}

module _ (files : List ℕ → Option (List ℕ)) (report : Report) where
  -- the report answers what is asked
  abbrev Answers : Option Wish → Type 0
  Answers None = report ≡ usage_report
  Answers (Some (test choices engines paths)) = (seen : List JudgedFile) × (last : Last) × Sees (terms_in choices engines) (Have files) paths seen last × (report ≡ report_of seen last)
  Answers (Some (query choices engines moments path expr)) = (grid : Grid) × (instant : Bool) × (moments ≡ moments_in grid instant) × Queried (terms_in choices engines) (Have files) path expr grid instant report
  Answers (Some (workload choices engines series)) =
      (seen : List JudgedFile) × (last : Last) × Sees (terms_in choices engines) (Just (workload_text series)) (workload_path ∷ []) seen last × (report ≡ workload_report series seen last)
  Answers (Some (format expr)) = Formatted expr report
  Answers (Some (explain optimisers engines expr)) = Explained (length engines) (rewrites_in optimisers) expr report

  reported : (boxes : ℕ) (words : List (List ℕ)) (wish : Option Wish) → asked boxes words ≡ wish → Answers wish → IsReport boxes words (Have files) report
  reported boxes words None is a = subst (IsReport boxes words (Have files)) (sym a) (misused is)
  reported boxes words (Some (test choices engines paths)) is a = subst (IsReport boxes words (Have files)) (sym a.3) (tested choices engines paths a.0 a.1 is a.2)
  reported boxes words (Some (query choices engines moments path expr)) is a =
      queried choices engines a.0 a.1 path expr report (is ∙ ap (λ m. Some (query choices engines m path expr)) a.2) a.3
  reported boxes words (Some (workload choices engines series)) is a = subst (IsReport boxes words (Have files)) (sym a.3) (worked choices engines series a.0 a.1 is a.2)
  reported boxes words (Some (format expr)) is a = formatted expr report is a
  reported boxes words (Some (explain optimisers engines expr)) is a = explained optimisers engines expr report is a

  answers_too : (wish other : Option Wish) → AskAlike wish other → Answers wish → Answers other
  answers_too wish other asks_nothing a = a
  answers_too wish other (tests one two engines paths edge) a = (a.0, a.1, subst (λ (closed : Bool). Sees (under closed engines) (Have files) paths a.0 a.1) edge a.2, a.3)
  answers_too wish other (queries one two engines moments path expr edge) a =
      (a.0, a.1, a.2, subst (λ (closed : Bool). Queried (under closed engines) (Have files) path expr a.0 a.1 report) edge a.3)
  answers_too wish other (workloads one two engines series edge) a =
      (a.0, a.1, subst (λ (closed : Bool). Sees (under closed engines) (Just (workload_text series)) (workload_path ∷ []) a.0 a.1) edge a.2, a.3)
  answers_too wish other (formats expr) a = a
  answers_too wish other (explains optimisers engines expr) a = a

answers : (files : List ℕ → Option (List ℕ)) (boxes : ℕ) (words : List (List ℕ)) (report : Report) → IsReport boxes words (Have files) report → Answers files report (asked boxes words)
answers files boxes words report (misused is) = subst (Answers files report) (sym is) refl
answers files boxes words report (tested choices engines paths seen last is sees) = subst (Answers files report) (sym is) (seen, last, sees, refl)
answers files boxes words report (queried choices engines grid instant path expr said is q) = subst (Answers files report) (sym is) (grid, instant, refl, q)
answers files boxes words report (worked choices engines series seen last is sees) = subst (Answers files report) (sym is) (seen, last, sees, refl)
answers files boxes words report (formatted expr said is f) = subst (Answers files report) (sym is) f
answers files boxes words report (explained optimisers engines expr said is x) = subst (Answers files report) (sym is) x

turned : (wish other : Option Wish) → AskAlike wish other → AskAlike other wish
turned wish other asks_nothing = asks_nothing
turned wish other (tests one two engines paths edge) = tests two one engines paths (sym edge)
turned wish other (queries one two engines moments path expr edge) = queries two one engines moments path expr (sym edge)
turned wish other (workloads one two engines series edge) = workloads two one engines series (sym edge)
turned wish other (formats expr) = formats expr
turned wish other (explains optimisers engines expr) = explains optimisers engines expr

pub reports_stay : (boxes : ℕ) (words others : List (List ℕ)) → AskAlike (asked boxes words) (asked boxes others) → (files : List ℕ → Option (List ℕ)) (report : Report)
    → IsReport boxes words (Have files) report ↔ IsReport boxes others (Have files) report
reports_stay boxes words others alike files report = (
  λ r. reported files report boxes others (asked boxes others) refl (answers_too files report (asked boxes words) (asked boxes others) alike (answers files boxes words report r)),
  λ r. reported files report boxes words (asked boxes words) refl (answers_too files report (asked boxes others) (asked boxes words) (turned (asked boxes words) (asked boxes others) alike) (answers files boxes others report r)),
)
