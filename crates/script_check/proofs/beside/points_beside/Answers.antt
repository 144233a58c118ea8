use Rattle.script_check.proofs.Uneven.{points_uneven}
use Rattle.script_check.proofs.beside.points_beside.Goals as goal

pub returns-then-wanted-got : goal.returns-then-wanted-got
returns-then-wanted-got c = points_uneven c.args.wanted.now c.args.got.now c.if-wanted-got.true
