use Rattle.std.proofs.Common.{sym, ◌∙◌}
use Rattle.script_check.specs.NoteTexts.{texts_of}
use Rattle.script_check.proofs.Wanting.{wanted_by_all, wanted_by_bare}
use Rattle.script_check.proofs.noted.agree_with_notes.Goals as goal

pub returns-then-has_bare-clause-silent : goal.returns-then-has_bare-clause-silent
returns-then-has_bare-clause-silent c = λ h kept. wanted_by_bare kept c.args.lines.now (texts_of c.args.warnings c.args.notes.now) (sym c.has_bare.ensures ∙ h)

pub returns-else-has_bare-clause-silent : goal.returns-else-has_bare-clause-silent
returns-else-has_bare-clause-silent c = λ h kept. wanted_by_all kept c.args.warnings c.args.lines.now c.args.notes.now (c.all_wanted.ensures h)
