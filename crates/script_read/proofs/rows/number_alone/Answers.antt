use Rattle.std.proofs.Common.{sym}
use Rattle.script_read.proofs.Words.{number_beside}
use Rattle.script_read.proofs.rows.number_alone.Goals as goal

pub returns-in-Ok : goal.returns-in-Ok
returns-in-Ok c = sym (number_beside (λ word. word.now) c.args.words.now _ c.in-Ok.field-0 c.in-len2-up.len_at_least (sym c.in-Ok.ensures))
