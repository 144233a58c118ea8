use Rattle.std.proofs.Common.{◌≡◌, length, take}
use Rattle.op_aggregate.specs.Places.{AreTallied, items_at}
use Rattle.op_aggregate.proofs.groups.Groups.take.Given as goal

abbrev pub invariant-loop-slot : goal.invariant-loop-slot
invariant-loop-slot l = record {
  f : l.self.f ≡ l.fn.self.f;
  many : length l.self.all.items ≡ length l.fn.self.all.items;
  tallied : AreTallied (items_at l.places (take l.slot-index l.slots)) l.self;
}
