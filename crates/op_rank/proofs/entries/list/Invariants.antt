use Rattle.std.proofs.Common.{◌≡◌, map, take}
use Rattle.op_rank.specs.Entries.{AreNumberEntries, entry_of}
use Rattle.op_rank.proofs.entries.list.Given as goal

abbrev pub invariant-loop-i : goal.invariant-loop-i
invariant-loop-i l = record {
  list : l.entries.items ≡ map (entry_of l.groups) (take l.i l.slots);
  numbers : AreNumberEntries l.entries.items;
}
