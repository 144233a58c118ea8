use Rattle.std.proofs.Common.{◌≡◌, ◌+◌, ◌*◌, ◌++◌, ℕ, drop, filter, length}
use Rattle.match_rule.specs.Patterns.{labels_pass}
use Rattle.sample_store.specs.Samples.{labels_at}
use Rattle.plan_bases.proofs.testing.passing.Given as goal

abbrev pub invariant-loop-i : goal.invariant-loop-i
invariant-loop-i g l = record {
  found : l.found ++ filter (λ (n : ℕ). labels_pass l.fn.patterns l.rules (labels_at l.store n)) (drop l.i l.numbers) ≡ filter (λ (n : ℕ). labels_pass l.fn.patterns l.rules (labels_at l.store n)) l.numbers;
  same : l.patterns ≡ l.fn.patterns;
  tested : l.work.tested ≡ l.fn.work.tested + l.i * length l.rules;
  fetched : l.work.fetched ≡ l.fn.work.fetched;
  probed : l.work.probed ≡ l.fn.work.probed;
}
