use Rattle.std.proofs.Common.{◌≡◌, length, map}
use Rattle.promql_tool.specs.Boxes.{AreFresh}
use Rattle.program_tests.specs.contracts.gathered.add.{dyn-1-ghosts}
use Rattle.program_tests.proofs.gathered.run_counted.OwnLists.{own-1, lawful-own-1}
use Rattle.program_tests.proofs.gathered.run_counted.Given as goal

-- the boxes so far, each as it was made
abbrev pub invariant-loop : goal.invariant-loop
invariant-loop g l = record {
  fresh : AreFresh (map (λ b. ((dyn-1-ghosts (own-1, lawful-own-1)).0.entry b.vtable).1.seen b.value) l.engines.items);
  many : length l.engines.items ≡ l.counter;
}
