use Rattle.std.proofs.Common.{sym}
use Rattle.step_table.proofs.Sameness.{mark_decides, told}
use Rattle.step_table.proofs.marks.Mark.is_same.Goals as goal

pub returns : goal.returns
returns c = told _ _ _ (sym c.eq.ensures) (mark_decides c.args.self.now c.args.other.now)
