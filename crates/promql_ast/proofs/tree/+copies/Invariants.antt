use Rattle.std.proofs.Common.{◌≡◌, take}
use Rattle.promql_ast.proofs.tree.+copies.Given as goal

abbrev pub invariant-all_copied-loop-e : goal.invariant-all_copied-loop-e
invariant-all_copied-loop-e l = l.copies ≡ take l.e-index l.e-items
