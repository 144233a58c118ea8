use Rattle.engine_tests.specs.Going.{AreFitting}
use Rattle.engine_tests.proofs.gathers.add_all.Given as goal

abbrev pub invariant-loop-line : goal.invariant-loop-line
invariant-loop-line l = AreFitting l.grid l.added l.exchange
