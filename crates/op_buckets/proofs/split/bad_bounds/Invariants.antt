use Rattle.std.proofs.Common.{◌≡◌, take}
use Rattle.std.specs.List.{filter_map}
use Rattle.op_buckets.specs.Splits.{note_at}
use Rattle.op_buckets.proofs.split.bad_bounds.Given as goal

abbrev pub invariant-loop-slot : goal.invariant-loop-slot
invariant-loop-slot l = l.notes ≡ filter_map (note_at l.fed l.bounds) (take l.slot-index l.slots)
