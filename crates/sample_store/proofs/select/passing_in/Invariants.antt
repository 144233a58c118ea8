use Rattle.std.proofs.Common.{◌≡◌, ◌+◌, ◌++◌, drop, map, ℕ, Bor}
use Rattle.sample_store.specs.Samples.{passing_at, Names}
use Rattle.sample_store.proofs.select.passing_in.Given as goal

abbrev pub invariant-loop-i : goal.invariant-loop-i
invariant-loop-i g l = record {
  found : map (λ (p : Bor Names × ℕ). (p.0.now, p.1)) l.found.items ++ passing_at l.fn.patterns l.rules l.series.entries (drop l.i l.list.numbers.now) ≡ passing_at l.fn.patterns l.rules l.series.entries l.list.numbers.now;
  same : l.patterns ≡ l.fn.patterns;
  tested : l.work.tested ≡ l.fn.work.tested + l.i;
  fetched : l.work.fetched ≡ l.fn.work.fetched;
  probed : l.work.probed ≡ l.fn.work.probed;
}
