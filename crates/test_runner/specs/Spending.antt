-- What scripts spend at most. (This project's own.)
use Rattle.std.specs.Prelude.{◌≡◌, List, [], ◌∷◌, Ok}
use Rattle.query_engine.specs.Bounds.{Spends}
use Rattle.query_engine.specs.Planning.{choices_of}
use Rattle.query_engine.specs.declared.options.Options.{Options}
use Rattle.sample_store.specs.Samples.{AllSeries}
use Rattle.script_read.specs.declared.script.Command.{Command}
use Rattle.script_read.specs.declared.script.What.{What}
use Rattle.script_read.specs.declared.script.What.TheVariants.{Eval}
use Rattle.ticks.specs.Works.{Counts}
use Rattle.test_runner.specs.Loads.{left_by}
use Rattle.test_runner.specs.declared.evaluation.Evaluation.{Evaluation}

-- an evaluation over series spends at most what its plan costs
abbrev pub EvaluationSpends : AllSeries → Evaluation → (before after : Counts) → Type 0
EvaluationSpends series asked before after = Spends asked.text.now series asked.grid.now (choices_of asked.options.now) asked.options.now.closed before after

-- and so does a command that is one; any other spends nothing
abbrev pub CommandSpends : Options → AllSeries → What → (before after : Counts) → Type 0
CommandSpends options series (Eval grid instant text expected) before after = Spends text series grid (choices_of options) options.closed before after
CommandSpends options series _ before after = after ≡ before

-- Commands spend what each of them does, one behind another, over the series that stand then; where they are cut off, the others spend
-- nothing.
pub data CommandsSpend (options : Options) : AllSeries → List Command → (before after : Counts) → Type 0 where
  ended : (series : AllSeries) (commands : List Command) (now : Counts) → CommandsSpend options series commands now now
  further : (series left : AllSeries) (command : Command) (commands : List Command) (before between after : Counts) → CommandSpends options series command.what before between → left_by [] command.what series ≡ Ok left
      → CommandsSpend options left commands between after → CommandsSpend options series (command ∷ commands) before after
