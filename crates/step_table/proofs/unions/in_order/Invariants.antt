use Rattle.std.proofs.Common.{◌≡◌, ◌++◌}
use Rattle.step_table.proofs.unions.in_order.Given as goal

abbrev pub invariant-loop-item : goal.invariant-loop-item
invariant-loop-item g l = l.list ++ l.item-iterator ≡ l.initial.item-iterator
