use Rattle.std.proofs.Common.{◌≤◌, ◌*◌, ◌^◌, ◌-◌}
use Rattle.frac_text.specs.Scales.{IsRest}
use Rattle.frac_text.proofs.value.lowered.Given as goal

abbrev pub invariant-loop-done : goal.invariant-loop-done
invariant-loop-done l = record { is : IsRest l.lower l.fn.rest.n (l.fn.rest.d * 10 ^ l.done); inside : l.done ≤ l.places }

abbrev pub decreases-loop-done : goal.decreases-loop-done
decreases-loop-done l = l.places - l.done
