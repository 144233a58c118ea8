use Rattle.std.proofs.Common.{◌≡◌, take}
use Rattle.std.specs.List.{filter_map}
use Rattle.op_buckets.specs.Splits.{AreNumberEntries, entry_of}
use Rattle.op_buckets.proofs.SlotsOrdered.{made_by}
use Rattle.op_buckets.proofs.split.list.Given as goal

abbrev pub invariant-loop-key : goal.invariant-loop-key
invariant-loop-key l = record {
  list : l.entries.items ≡ filter_map (made_by (entry_of l.groups l.bounds) l.slots) (take l.key-index l.keys);
  numbers : AreNumberEntries l.entries.items;
}
