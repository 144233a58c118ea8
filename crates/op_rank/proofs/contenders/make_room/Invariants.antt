use Rattle.std.proofs.Common.{◌≡◌, [], length}
use Rattle.std.specs.List.{AllByRecursion}
use Rattle.op_rank.specs.declared.best.Best.{Best}
use Rattle.op_rank.proofs.contenders.make_room.Given as goal

abbrev pub invariant-loop-group : goal.invariant-loop-group
invariant-loop-group l = record {
  len : length l.best.items ≡ l._group;
  empty : AllByRecursion (λ (b : Best). b.kept.items ≡ []) l.best.items;
}
