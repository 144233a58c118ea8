use Rattle.std.proofs.Common.{◌≡◌, ◌≤◌, ◌+◌, [], drop, map, take}
use Rattle.plan_bases.specs.Bases.{AreRight, HoldsLeaves}
use Rattle.plan_bases.specs.Looks.{leaves_look_behind}
use Rattle.plan_bases.specs.declared.leaves.Leaf.{Leaf}
use Rattle.plan_bases.proofs.lists.SeriesLists.add_all.Given as goal

abbrev pub invariant-loop-leaf : goal.invariant-loop-leaf
invariant-loop-leaf g l = record {
  right : AreRight l.fn.patterns l.store l.self;
  same : l.patterns ≡ l.fn.patterns;
  holds : HoldsLeaves l.fn.patterns l.self (take l.leaf-index l.leaves);
  tested : l.work.tested + leaves_look_behind l.fn.patterns l.store (map (λ (leaf : Leaf). leaf.base) (take l.leaf-index l.leaves)) (drop l.leaf-index l.leaves)
      ≤ l.fn.work.tested + leaves_look_behind l.fn.patterns l.store [] l.leaves;
  fetched : l.work.fetched ≡ l.fn.work.fetched;
  probed : l.work.probed ≡ l.fn.work.probed;
}
