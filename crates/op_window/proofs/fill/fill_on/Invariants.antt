use Rattle.std.proofs.Common.{◌≡◌, ◌+◌, ◌≤◌, length, drop}
use Rattle.std.specs.List.{filter_map}
use Rattle.promql_meaning.specs.Selecting.{fresh_sample}
use Rattle.sample_store.specs.Samples.{samples_at}
use Rattle.series_marks.specs.Reads.{Rises, after, last_of, until}
use Rattle.op_window.specs.Sliding.{with_samples}
use Rattle.op_window.proofs.fill.fill_on.Given as goal

abbrev pub invariant-loop-m : goal.invariant-loop-m
invariant-loop-m g l = record {
  stands : l.rest.rest ≡ drop (length l.rest.before) (samples_at l.store l.s);
  within : (length l.rest.before) ≤ length (samples_at l.store l.s);
  rises : Rises l.last l.rest.rest;
  last : last_of l.m.0 l.rest.rest l.last ≡ last_of l.m.0 (drop l.place (samples_at l.store l.s)) l.fn.start;
  coming : after l.m.0 l.rest.rest ≡ after l.m.0 (drop l.place (samples_at l.store l.s));
  probed : l.work.probed ≡ l.fn.work.probed;
  tested : l.work.tested ≡ l.fn.work.tested;
  read : l.work.fetched + l.place ≡ l.fn.work.fetched + length l.rest.before;
  few : l.work.fetched + length (until l.m.0 l.rest.rest) ≡ l.fn.work.fetched + length (until l.m.0 (drop l.place (samples_at l.store l.s)));
  filled : with_samples l.slices (filter_map fresh_sample (until l.m.0 l.rest.rest)) ≡ with_samples l.fn.slices (filter_map fresh_sample (until l.m.0 (drop l.place (samples_at l.store l.s))));
}

abbrev pub decreases-loop-m : goal.decreases-loop-m
decreases-loop-m g l = length l.rest.rest
