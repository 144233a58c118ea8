use Rattle.std.proofs.Common.{◌≡◌, drop, None}
use Rattle.step_put.specs.Placed.{do_rise, slots_made}
use Rattle.step_put.proofs.rising.do_rise.Given as goal

abbrev pub invariant-loop-row : goal.invariant-loop-row
invariant-loop-row l = do_rise None (slots_made l.places l.placed) ≡ do_rise l.last (slots_made l.places (drop l.row-index l.placed))
