use Rattle.std.proofs.Common.{sym}
use Rattle.script_check.proofs.judging.agree_on_notes.Goals as goal

pub returns-in-Answer-clause-silent : goal.returns-in-Answer-clause-silent
returns-in-Answer-clause-silent c = λ h kept. rw (c.in-Answer.is, sym c.as_slice.ensures) (c.agree_with_notes.ensures.silent h kept)
