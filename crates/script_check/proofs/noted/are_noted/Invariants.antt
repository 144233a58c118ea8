use Rattle.std.proofs.Common.{◌≡◌, drop, true}
use Rattle.script_check.specs.NoteTexts.{texts_of}
use Rattle.script_check.specs.Verdicts.{PatternList, noted_holds}
use Rattle.script_check.proofs.noted.are_noted.Given as goal

abbrev pub invariant-loop-line : goal.invariant-loop-line
invariant-loop-line l = (kept : PatternList) → noted_holds kept (drop l.line-index l.lines) (texts_of l.warnings l.notes) ≡ true → noted_holds kept l.lines (texts_of l.warnings l.notes) ≡ true
