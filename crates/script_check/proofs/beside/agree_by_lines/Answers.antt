use Rattle.std.proofs.Common.{sym, ◌∙◌}
use Rattle.script_check.proofs.LineByLine.{no_reason_beside}
use Rattle.script_check.proofs.beside.agree_by_lines.Goals as goal

pub returns : goal.returns
returns c = λ h ordered. no_reason_beside c.args.wanted.now c.args.got.now ordered (sym c.stand_beside.ensures ∙ h)
