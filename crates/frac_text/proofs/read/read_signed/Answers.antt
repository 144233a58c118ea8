use Rattle.std.proofs.Common.{◌∙◌, arith}
use Rattle.frac_text.proofs.Signed.{script_plain}
use Rattle.frac_text.proofs.read.read_signed.Goals as goal

pub returns-else-first-eq43 : goal.returns-else-first-eq43
returns-else-first-eq43 c = c.read_plain-else-first-eq43.ensures ∙ script_plain c.args.text.now (omega arith) c.if-first-eq45.false c.if-first-eq43.false
