use Rattle.std.proofs.Common.{None}
use Rattle.script_check.proofs.Uneven.{series_uneven}
use Rattle.script_check.proofs.beside.stand_beside.Goals as goal

pub returns-then-wanted-got : goal.returns-then-wanted-got
returns-then-wanted-got c = series_uneven None c.args.wanted.now c.args.got.now c.if-wanted-got.true
