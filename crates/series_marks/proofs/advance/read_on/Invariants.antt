use Rattle.std.proofs.Common.{◌≡◌, ◌+◌, ◌≤◌, length, drop}
use Rattle.series_marks.specs.Reads.{after}
use Rattle.sample_store.specs.Samples.{samples_at}
use Rattle.series_marks.specs.Reads.{Rises, last_of}
use Rattle.series_marks.proofs.advance.read_on.Given as goal

abbrev pub invariant-loop-m : goal.invariant-loop-m
invariant-loop-m g l = record {
  stands : l.rest.rest ≡ drop (length l.rest.before) (samples_at l.store l.s);
  within : (length l.rest.before) ≤ length (samples_at l.store l.s);
  rises : Rises l.last l.rest.rest;
  last : last_of l.m.0 l.rest.rest l.last ≡ last_of l.m.0 (drop l.place (samples_at l.store l.s)) l.fn.start;
  coming : after l.m.0 l.rest.rest ≡ after l.m.0 (drop l.place (samples_at l.store l.s));
  probed : l.work.probed ≡ l.fn.work.probed;
  tested : l.work.tested ≡ l.fn.work.tested;
  read : l.work.fetched + l.place ≡ l.fn.work.fetched + (length l.rest.before);
}

abbrev pub decreases-loop-m : goal.decreases-loop-m
decreases-loop-m g l = length l.rest.rest
