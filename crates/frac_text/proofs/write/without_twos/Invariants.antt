use Rattle.std.proofs.Common.{ℕ, ◌≡◌, ◌<◌, ◌*◌, ◌^◌}
use Rattle.frac_text.proofs.write.without_twos.Given as goal

abbrev pub invariant-loop-rest : goal.invariant-loop-rest
invariant-loop-rest l = record { positive : 0 < l.rest; so_far : (k : ℕ) × (l.d ≡ l.rest * 2 ^ k) }

abbrev pub decreases-loop-rest : goal.decreases-loop-rest
decreases-loop-rest l = l.rest
