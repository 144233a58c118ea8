use Rattle.std.proofs.Common.{◌≡◌, take}
use Rattle.op_subquery.specs.Rings.{last_kept}
use Rattle.op_subquery.proofs.points.last_instant.Given as goal

abbrev pub invariant-loop-i : goal.invariant-loop-i
invariant-loop-i l = l.last ≡ last_kept l.fn.last (take l.i l.rows.steps)
