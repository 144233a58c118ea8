use Rattle.std.proofs.Common.{◌≡◌}
use Rattle.sample_store.specs.Listing.{swept}
use Rattle.sample_store.proofs.postings.take_back.Given as goal

abbrev pub invariant-loop-i : goal.invariant-loop-i
invariant-loop-i l = record {
  lists : l.lists.entries ≡ swept l.place l.i l.fn.lists.entries;
}
