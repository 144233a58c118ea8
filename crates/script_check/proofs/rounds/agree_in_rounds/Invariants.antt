use Rattle.std.proofs.Common.{◌-◌, length, option_map}
use Rattle.script_check.specs.Rounds.{AreMatched}
use Rattle.script_check.proofs.rounds.agree_in_rounds.Given as goal

abbrev pub invariant-loop-done : goal.invariant-loop-done
invariant-loop-done l = AreMatched l.wanted l.got (option_map (λ b. b.now) l.last) l.done

abbrev pub decreases-loop-done : goal.decreases-loop-done
decreases-loop-done l = length l.wanted - l.done
