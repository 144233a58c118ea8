use Rattle.std.proofs.Common.{take}
use Rattle.window_fn.specs.Fits.{AreSumsOf}
use Rattle.window_fn.specs.Slopes.{spans}
use Rattle.window_fn.proofs.slopes.moments_over.Given as goal

abbrev pub invariant-loop-i : goal.invariant-loop-i
invariant-loop-i l = AreSumsOf l.sums (take l.i (spans l.origin.0 l.times)) (take l.i l.values)
