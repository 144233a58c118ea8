use Rattle.std.proofs.Common.{◌≡◌, map, take}
use Rattle.op_rank.specs.declared.label_order.LabelAt.{LabelAt}
use Rattle.op_rank.proofs.label_order.places_of.Given as goal

abbrev pub invariant-loop-one : goal.invariant-loop-one
invariant-loop-one l = l.places.items ≡ map (λ (one : LabelAt). one.place) (take l.one-index l.all)
