use Rattle.std.proofs.Common.{◌≡◌, length, map}
use Rattle.promql_tool.specs.Boxes.{AreFresh}
use Rattle.promql.specs.contracts.add.{dyn-1-ghosts}
use Rattle.promql.proofs.run_words.OwnLists.{own-1, lawful-own-1}
use Rattle.promql.proofs.run_words.Given as goal

-- the boxes so far, each as it was made
abbrev pub invariant-loop : goal.invariant-loop
invariant-loop g l = record {
  fresh : AreFresh (map (λ b. ((dyn-1-ghosts (own-1, lawful-own-1)).0.entry b.vtable).1.seen b.value) l.engines.items);
  many : length l.engines.items ≡ l.counter;
}
