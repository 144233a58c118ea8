-- What the program spends at most, where no engine is declared. (This project's own.)
use Rattle.std.specs.Prelude.{◌≡◌, ℕ, Bool, List, [], ◌∷◌, Option, Some, Ok}
use Rattle.query_engine.specs.Bounds.{Spends}
use Rattle.query_engine.specs.Planning.{choices_of}
use Rattle.query_engine.specs.declared.options.Options.{Options}
use Rattle.sample_store.specs.Samples.{AllSeries}
use Rattle.script_read.specs.Outcomes.{PatternList}
use Rattle.script_read.specs.declared.script.Script.{Script}
use Rattle.test_runner.specs.Loads.{samples_left}
use Rattle.test_runner.specs.Spending.{CommandsSpend}
use Rattle.ticks.specs.Moments.{moments_in}
use Rattle.ticks.specs.Works.{Counts}
use Rattle.ticks.specs.declared.grid.Grid.{Grid}
use Rattle.tool_words.specs.Asked.{asked, query, test, workload}
use Rattle.tool_words.specs.Engines.{Labels}
use Rattle.tool_words.specs.declared.asked.Choices.{Choices}
use Rattle.promql_tool.specs.Found.{Just}
use Rattle.promql_tool.specs.Reading.{IsReadAs}
use Rattle.promql_tool.specs.Workload.{workload_path, workload_text}

-- what is chosen for evaluations, as the engine takes it
abbrev pub engine_options : Choices → Options
engine_options choices = record {
  sort = choices.optimisers.sort;
  propagate = choices.optimisers.propagate;
  merge = choices.optimisers.merge;
  trim = choices.optimisers.trim;
  avg = choices.optimisers.avg;
  remote = choices.optimisers.remote;
  batch = choices.batch;
  closed = choices.closed;
}

-- A file spends nothing, as one does that isn't there or is refused, or what the commands of its script do, from no samples on.
pub data FileSpends (options : Options) (found : List ℕ → Option (List ℕ) → Type 0) (path : List ℕ) (before after : Counts) : Type 0 where
  no_file : after ≡ before → FileSpends options found path before after
  of_script : (bytes : List ℕ) (kept : PatternList) (script : Script) → found path (Some bytes) → IsReadAs kept bytes (Ok script) → CommandsSpend options [] script.commands before after
      → FileSpends options found path before after

-- Files spend what each of them does, one behind another; those behind one at which a run stops spend nothing.
pub data FilesSpend (options : Options) (found : List ℕ → Option (List ℕ) → Type 0) : List (List ℕ) → (before after : Counts) → Type 0 where
  no_file_left : (paths : List (List ℕ)) (now : Counts) → FilesSpend options found paths now now
  one_file_more : (path : List ℕ) (paths : List (List ℕ)) (before between after : Counts) → FileSpends options found path before between → FilesSpend options found paths between after
      → FilesSpend options found (path ∷ paths) before after

-- A query of a file spends nothing, as where the file isn't there or is refused, or what its expression does over the samples that the
-- file's script leaves.
pub data QuerySpends (options : Options) (found : List ℕ → Option (List ℕ) → Type 0) (path expr : List ℕ) (grid : Grid) (before after : Counts) : Type 0 where
  no_answer : after ≡ before → QuerySpends options found path expr grid before after
  of_answer : (bytes : List ℕ) (kept : PatternList) (script : Script) (series : AllSeries) → found path (Some bytes) → IsReadAs kept bytes (Ok script) → samples_left [] script ≡ Ok series
      → Spends expr series grid (choices_of options) options.closed before after → QuerySpends options found path expr grid before after

-- Words spend nothing, or what the files, the query or the script of the workload do that they ask for.
pub data WordsSpend (boxes : ℕ) (words : List (List ℕ)) (found : List ℕ → Option (List ℕ) → Type 0) (before after : Counts) : Type 0 where
  no_evaluation : after ≡ before → WordsSpend boxes words found before after
  tests : (choices : Choices) (engines : List Labels) (paths : List (List ℕ)) → asked boxes words ≡ Some (test choices engines paths) → FilesSpend (engine_options choices) found paths before after → WordsSpend boxes words found before after
  queries : (choices : Choices) (engines : List Labels) (grid : Grid) (instant : Bool) (path expr : List ℕ) → asked boxes words ≡ Some (query choices engines (moments_in grid instant) path expr)
      → QuerySpends (engine_options choices) found path expr grid before after → WordsSpend boxes words found before after
  works : (choices : Choices) (engines : List Labels) (series : ℕ) → asked boxes words ≡ Some (workload choices engines series) → FileSpends (engine_options choices) (Just (workload_text series)) workload_path before after
      → WordsSpend boxes words found before after
