-- What a script begins with. (This project's own.)
use Rattle.std.specs.Prelude.{◌≡◌, ◌≤◌, ℕ, List, [], Ok, drop, length, take}
use Rattle.std.specs.List.{AllByRecursion}
use Rattle.sample_store.specs.Samples.{AllSeries}
use Rattle.script_read.specs.declared.script.Command.{Command}
use Rattle.test_runner.specs.Loads.{left_by_all}
use Rattle.test_runner.specs.Verdicts.{IsNoEvaluation}

-- So many commands stand in front that evaluate nothing, and those behind them change nothing.
pub record ChangesStandInFront (commands : List Command) (front : ℕ) : Type 0 where
  pub within : front ≤ length commands
  pub quiet : AllByRecursion (λ (one : Command). IsNoEvaluation one.what) (take front commands)
  pub settled : (series : AllSeries) → left_by_all [] (drop front commands) series ≡ Ok series

-- So many commands in front were carried out, which evaluate nothing and leave these series.
pub record HasBegun (commands : List Command) (series : AllSeries) (done : ℕ) : Type 0 where
  pub within : done ≤ length commands
  pub quiet : AllByRecursion (λ (one : Command). IsNoEvaluation one.what) (take done commands)
  pub left : left_by_all [] (take done commands) [] ≡ Ok series
