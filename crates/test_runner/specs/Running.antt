-- How running a script ends. (This project's own.)
use Rattle.std.specs.Prelude.{◌≡◌, ◌⊎◌, ℕ, Bool, List, [], ◌++◌, Option, Result, Ok, Err}
use Rattle.edge_io.specs.Written.{appended, WroteFront}
use Rattle.edge_io.specs.declared.sink.SinkFail.{SinkFail}
use Rattle.edge_io.specs.declared.sink.SinkFail.TheVariants.{Failed, Memory as NoMemory}
use Rattle.promql_meaning.specs.declared.answer.Outcome.{Outcome}
use Rattle.query_engine.specs.Evaluating.{ComesTo}
use Rattle.sample_store.specs.Samples.{AllSeries}
use Rattle.script_check.specs.Verdicts.{PatternList}
use Rattle.script_read.specs.Series.{LabelList}
use Rattle.script_read.specs.declared.script.Command.{Command}
use Rattle.script_read.specs.declared.script.Script.{Script}
use Rattle.ticks.specs.declared.grid.Grid.{Grid}
use Rattle.test_runner.specs.Lines.{failed_in, lines_text, passed_in}
use Rattle.test_runner.specs.Loads.{samples_left}
use Rattle.test_runner.specs.Verdicts.{AreVerdicts, Judged}
use Rattle.test_runner.specs.declared.fault.RunnerFault.{RunnerFault}
use Rattle.test_runner.specs.declared.fault.RunnerFault.TheVariants.{Refused, Range, Run, Write, Memory}
use Rattle.test_runner.specs.declared.totals.Totals.{Totals}

-- why a write that failed ends a run
abbrev pub cut_by : SinkFail → RunnerFault
cut_by Failed = Write
cut_by NoMemory = Memory

-- Commands were carried out over series, where engines have declared these labels: each of their evaluations has a verdict, their lines
-- were written, and so many pass and fail.
pub record CarriedOut (closed : Bool) (declared : List LabelList) (kept : PatternList) (path : List ℕ) (series : AllSeries) (commands : List Command) (before now : Option (List ℕ)) (totals : Totals) : Type 0 where
  pub verdicts : List Judged
  pub are : AreVerdicts closed declared kept series commands verdicts
  pub written : now ≡ appended before (lines_text path verdicts)
  pub passed : totals.passed ≡ passed_in verdicts
  pub failed : totals.failed ≡ failed_in verdicts

-- Commands were cut off: the first of them have these verdicts, and a front of their lines was written.
pub record WasCutOff (closed : Bool) (declared : List LabelList) (kept : PatternList) (path : List ℕ) (series : AllSeries) (commands : List Command) (before now : Option (List ℕ)) : Type 0 where
  pub done : List Command
  pub left : List Command
  pub parts : done ++ left ≡ commands
  pub verdicts : List Judged
  pub are : AreVerdicts closed declared kept series done verdicts
  pub front : WroteFront before now (lines_text path verdicts)

-- a script was run: its commands were carried out, no sample standing as it begins
abbrev pub HasRun : Bool → List LabelList → PatternList → List ℕ → Script → Option (List ℕ) → Option (List ℕ) → Totals → Type 0
HasRun closed declared kept path script before now totals = CarriedOut closed declared kept path [] script.commands before now totals

-- a run was cut off
abbrev pub WasCut : Bool → List LabelList → PatternList → List ℕ → Script → Option (List ℕ) → Option (List ℕ) → Type 0
WasCut closed declared kept path script before now = WasCutOff closed declared kept path [] script.commands before now

-- a write that failed or want of memory, with what it leaves
abbrev pub IfCut : RunnerFault → Type 0 → Type 0
IfCut (Refused refusal) Cut = Unit {0}
IfCut (Range line) Cut = Unit {0}
IfCut (Run fault) Cut = Unit {0}
IfCut _ Cut = Cut

-- a fault of loads is the one that is said of them
abbrev pub IfOfLoads : Result AllSeries RunnerFault → RunnerFault → Type 0
IfOfLoads said (Run fault) = Unit {0}
IfOfLoads said Write = Unit {0}
IfOfLoads said Memory = Unit {0}
IfOfLoads said fault = said ≡ Err fault

-- the fault that is said of loads is answered, or want of memory
abbrev pub AnswersLoads : {X : Type 0} → Result AllSeries RunnerFault → Result X RunnerFault → Type 0
AnswersLoads (Ok series) answered = Unit {0}
AnswersLoads (Err fault) answered = (answered ≡ Err fault) ⊎ (answered ≡ Err Memory)

-- What a text comes to at the instants of a grid over the samples that a script's loads leave, where engines have declared these labels.
pub record IsAnswerOver (declared : List LabelList) (script : Script) (text : List ℕ) (grid : Grid) (instant closed : Bool) (got : Outcome) : Type 0 where
  pub series : AllSeries
  pub left : samples_left declared script ≡ Ok series
  pub comes : ComesTo text series grid instant closed got
