use Rattle.written_engines.specs.Loading.{IsLoading}
use Rattle.written_engines.proofs.samples.load_series.Given as goal

abbrev pub invariant-loop-text : goal.invariant-loop-text
invariant-loop-text l = IsLoading l.store l.engine
