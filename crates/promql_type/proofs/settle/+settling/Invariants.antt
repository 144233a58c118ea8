use Rattle.std.proofs.Common.{◌≡◌, ◌++◌, map}
use Rattle.promql_type.specs.Settled.{settled}
use Rattle.promql_type.proofs.settle.+settling.Given as goal

abbrev pub invariant-settle_all-loop-e : goal.invariant-settle_all-loop-e
invariant-settle_all-loop-e l = l.trees ++ map settled l.e-iterator.rest.items ≡ map settled l.fn.arguments
