use Rattle.std.proofs.Common.{◌≡◌, ◌++◌, map}
use Rattle.promql_ast.specs.Edged.{edged}
use Rattle.promql_ast.proofs.+edging.Given as goal

abbrev pub invariant-edge::all_edged-loop-e : goal.invariant-edge::all_edged-loop-e
invariant-edge::all_edged-loop-e l = l.trees ++ map (edged l.closed) l.e-iterator.rest.items ≡ map (edged l.fn.closed) l.fn.expressions
