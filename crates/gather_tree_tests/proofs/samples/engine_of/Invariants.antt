use Rattle.gather_tree_tests.specs.Loads.{IsLoading}
use Rattle.gather_tree_tests.proofs.samples.engine_of.Given as goal

abbrev pub invariant-loop-line : goal.invariant-loop-line
invariant-loop-line l = IsLoading l.store l.engine
