use Rattle.std.proofs.Common.{◌+◌, ℕ, option_map}
use Rattle.script_check.specs.Rounds.{AreMatched}
use Rattle.script_check.proofs.rounds.last_of_round.Given as goal

abbrev pub invariant-loop-k : goal.invariant-loop-k
invariant-loop-k l = (done : ℕ) → AreMatched l.wanted l.got (option_map (λ b. b.now) l.last) done → AreMatched l.wanted l.got (option_map (λ b. b.now) l.before) (done + l.k)
