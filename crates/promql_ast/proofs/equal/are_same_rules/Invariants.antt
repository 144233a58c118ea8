use Rattle.std.proofs.Common.{◌≡◌, take}
use Rattle.promql_ast.proofs.equal.are_same_rules.Given as goal

abbrev pub invariant-loop-i : goal.invariant-loop-i
invariant-loop-i l = take l.i l.a-2 ≡ take l.i l.b-2
