use Rattle.gather_tree_tests.specs.Loads.{IsLoading}
use Rattle.gather_tree_tests.proofs.samples.load_series.Given as goal

abbrev pub invariant-loop-text : goal.invariant-loop-text
invariant-loop-text l = IsLoading l.store l.engine
