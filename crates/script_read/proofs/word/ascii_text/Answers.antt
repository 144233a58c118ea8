use Rattle.std.proofs.Common.{sym, ◌∙◌}
use Rattle.script_read.proofs.Names.{ascii_is_text}
use Rattle.script_read.proofs.word.ascii_text.Goals as goal

pub returns-in-Err : goal.returns-in-Err
returns-in-Err c = absurd (c.in-Err.ensures.cases.0 (ascii_is_text c.args.word.now (sym c.is_ascii.ensures ∙ c.if-not-is_ascii.false)))
