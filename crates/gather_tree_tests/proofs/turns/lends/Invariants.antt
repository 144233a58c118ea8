use Rattle.std.proofs.Common.{None, map}
use Rattle.plan_tree.specs.Chains.{IsReady}
use Rattle.gather_tree_tests.proofs.turns.lends.Given as goal

abbrev pub invariant-loop : goal.invariant-loop
invariant-loop g l = IsReady l.store l.patterns None (map (λ b. (goal.Engine-dyn g (b.vtable, b.value)).seen b.value) l.engines) l.tree
