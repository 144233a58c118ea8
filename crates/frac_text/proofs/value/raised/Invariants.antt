use Rattle.std.proofs.Common.{◌≡◌, ◌≤◌, ◌*◌, ◌^◌, ◌-◌}
use Rattle.xfrac.specs.Fractions.{limit}
use Rattle.frac_text.proofs.value.raised.Given as goal

abbrev pub invariant-loop-done : goal.invariant-loop-done
invariant-loop-done l = record { is : l.more ≡ l.n * 10 ^ l.done; within : l.more ≤ limit; inside : l.done ≤ l.places }

abbrev pub decreases-loop-done : goal.decreases-loop-done
decreases-loop-done l = l.places - l.done
