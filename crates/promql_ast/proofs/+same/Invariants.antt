use Rattle.std.proofs.Common.{◌≡◌, take}
use Rattle.promql_ast.proofs.+same.Given as goal

abbrev pub invariant-equal::are_same-loop-i : goal.invariant-equal::are_same-loop-i
invariant-equal::are_same-loop-i l = take l.i l.a-2 ≡ take l.i l.b-2
