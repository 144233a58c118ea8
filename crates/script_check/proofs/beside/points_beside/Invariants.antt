use Rattle.std.proofs.Common.{◌≡◌, drop}
use Rattle.script_check.specs.Beside.{points_beside}
use Rattle.script_check.proofs.beside.points_beside.Given as goal

abbrev pub invariant-loop-place : goal.invariant-loop-place
invariant-loop-place l = points_beside (drop l.place l.wanted) (drop l.place l.got) ≡ points_beside l.wanted l.got
