use Rattle.script_check.specs.Paired.{AreMarked}
use Rattle.script_check.proofs.paired.mark.Given as goal

abbrev pub invariant-loop-one : goal.invariant-loop-one
invariant-loop-one l = AreMarked l.part l.others l.initial.marks → AreMarked l.part l.others l.marks
