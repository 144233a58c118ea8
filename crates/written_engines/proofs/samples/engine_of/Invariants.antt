use Rattle.written_engines.specs.Loading.{IsLoading}
use Rattle.written_engines.proofs.samples.engine_of.Given as goal

abbrev pub invariant-loop-line : goal.invariant-loop-line
invariant-loop-line l = IsLoading l.store l.engine
