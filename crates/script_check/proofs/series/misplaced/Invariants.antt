use Rattle.std.proofs.Common.{◌≡◌, drop}
use Rattle.script_check.specs.Series.{misplaced}
use Rattle.script_check.proofs.series.misplaced.Given as goal

abbrev pub invariant-loop-place : goal.invariant-loop-place
invariant-loop-place l = misplaced (drop l.place l.wanted) (drop l.place l.got) ≡ misplaced l.wanted l.got
