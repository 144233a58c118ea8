-- The verdicts of a script's evaluations, over the samples that stand at each. (This project's own, after promqltest.)
use Rattle.std.specs.Prelude.{◌≡◌, ℕ, Bool, true, false, List, [], ◌∷◌, Ok, map}
use Rattle.std.specs.List.{filter}
use Rattle.sample_store.specs.Samples.{AllSeries}
use Rattle.promql_meaning.specs.declared.answer.Outcome.{Outcome}
use Rattle.query_engine.specs.Evaluating.{ComesTo}
use Rattle.ticks.specs.declared.grid.Grid.{Grid}
use Rattle.script_check.specs.OutcomeTexts.{outcome_text}
use Rattle.script_check.specs.Verdicts.{PatternList, verdict_of}
use Rattle.script_read.specs.Series.{LabelList}
use Rattle.script_read.specs.declared.script.Command.{Command}
use Rattle.script_read.specs.declared.script.Expectations.{Expectations}
use Rattle.script_read.specs.declared.script.What.{What}
use Rattle.script_read.specs.declared.script.What.TheVariants.{Eval}
use Rattle.test_runner.specs.Loads.{left_by}
use Rattle.script_check.specs.declared.verdict.Verdict.{Verdict}

-- what an evaluation came to: its line, counted from 1, whether it is of one instant, its verdict, and the text of its
-- outcome, which is empty where that is an answer
pub record Judged : Type 0 where
  pub line : ℕ
  pub instant : Bool
  pub verdict : Verdict
  pub outcome : List ℕ

-- an outcome against what is expected of it, where these search patterns are kept
abbrev pub judgement : PatternList → ℕ → Bool → Expectations → Outcome → Judged
judgement kept line instant expected got = record { line = line; instant = instant; verdict = verdict_of kept expected instant got; outcome = outcome_text got }

-- An evaluation is judged: its text comes to an outcome at the instants of a grid over the series that stand then, with windows
-- that are closed on the left or open, and the verdict is that on this outcome.
pub record IsJudgement (closed : Bool) (kept : PatternList) (series : AllSeries) (line : ℕ) (text : List ℕ) (grid : Grid) (instant : Bool) (expected : Expectations) (judged : Judged) : Type 0 where
  pub got : Outcome
  pub comes : ComesTo text series grid instant closed got
  pub is : judged ≡ judgement kept line instant expected got

abbrev pub IsNoEvaluation : What → Type 0
IsNoEvaluation (Eval grid instant text expected) = ⊥
IsNoEvaluation _ = Unit {0}

-- The verdicts of commands, in order, behind commands that left these series, where engines have declared these labels: each evaluation
-- has one.
pub data AreVerdicts (closed : Bool) (declared : List LabelList) (kept : PatternList) : AllSeries → List Command → List Judged → Type 0 where
  ended : (series : AllSeries) → AreVerdicts closed declared kept series [] []
  changed : (series now : AllSeries) (command : Command) (commands : List Command) (verdicts : List Judged) → IsNoEvaluation command.what → left_by declared command.what series ≡ Ok now
      → AreVerdicts closed declared kept now commands verdicts → AreVerdicts closed declared kept series (command ∷ commands) verdicts
  evaluated : (series : AllSeries) (command : Command) (grid : Grid) (instant : Bool) (text : List ℕ) (expected : Expectations) (judged : Judged) (commands : List Command) (verdicts : List Judged)
      → command.what ≡ Eval grid instant text expected → IsJudgement closed kept series command.line text grid instant expected judged → AreVerdicts closed declared kept series commands verdicts
      → AreVerdicts closed declared kept series (command ∷ commands) (judged ∷ verdicts)

abbrev pub is_evaluation : What → Bool
is_evaluation (Eval grid instant text expected) = true
is_evaluation _ = false

-- the lines of the commands that are evaluations, in order
abbrev pub evaluation_lines : List Command → List ℕ
evaluation_lines commands = map (λ command. command.line) (filter (λ command. is_evaluation command.what) commands)
