use Rattle.std.proofs.Common.{◌≡◌, drop, None, option_map}
use Rattle.script_check.specs.Beside.{stand_beside}
use Rattle.script_check.proofs.beside.stand_beside.Given as goal

abbrev pub invariant-loop-place : goal.invariant-loop-place
invariant-loop-place l = stand_beside (option_map (λ b. b.now) l.before) (drop l.place l.wanted) (drop l.place l.got) ≡ stand_beside None l.wanted l.got
