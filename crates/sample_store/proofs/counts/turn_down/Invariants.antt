use Rattle.std.proofs.Common.{◌≡◌, ◌≤◌, ℕ, length}
use Rattle.std.specs.List.{AllByRecursion}
use Rattle.sample_store.specs.Counts.{seen}
use Rattle.sample_store.proofs.counts.turn_down.Given as goal

abbrev pub invariant-loop-j : goal.invariant-loop-j
invariant-loop-j l = record {
  ahead : l.j ≤ l.fn.edge;
  far : l.to ≤ l.j;
  same : seen l.j l.total l.kept.items ≡ seen l.fn.edge l.total l.fn.kept.items;
  many : length l.kept.items ≡ length l.fn.kept.items;
  few : AllByRecursion (λ (n : ℕ). n ≤ l.total) l.kept.items;
}

abbrev pub decreases-loop-j : goal.decreases-loop-j
decreases-loop-j l = l.j
