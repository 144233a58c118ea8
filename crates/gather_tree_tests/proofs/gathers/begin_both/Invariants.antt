use Rattle.std.proofs.Common.{◌≡◌, length, map}
use Rattle.gather_tree_tests.proofs.Beginning.{AreBegun}
use Rattle.gather_tree_tests.proofs.gathers.begin_both.Given as goal

abbrev pub invariant-loop-i : goal.invariant-loop-i
invariant-loop-i g l = record {
  begun : AreBegun l.i (map (λ b. (goal.Engine-dyn g (b.vtable, b.value)).seen b.value) l.engines);
  len : length l.engines ≡ length l.initial.engines;
}
