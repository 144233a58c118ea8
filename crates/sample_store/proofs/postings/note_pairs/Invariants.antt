use Rattle.std.proofs.Common.{◌≡◌, take}
use Rattle.sample_store.specs.Listing.{noted}
use Rattle.sample_store.proofs.postings.note_pairs.Given as goal

abbrev pub invariant-loop-i : goal.invariant-loop-i
invariant-loop-i l = record {
  lists : l.lists.entries ≡ noted l.fn.lists.entries (take l.i l.labels) l.place;
}
