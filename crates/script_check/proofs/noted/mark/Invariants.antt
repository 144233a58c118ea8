use Rattle.script_check.specs.Noted.{AreNotesMarked}
use Rattle.script_check.proofs.noted.mark.Given as goal

abbrev pub invariant-loop-line : goal.invariant-loop-line
invariant-loop-line l = AreNotesMarked l.part l.lines l.initial.marks → AreNotesMarked l.part l.lines l.marks
