use Rattle.std.specs.Option.{option_map}
use Rattle.step_rules.proofs.Absent.{IsCounted}
use Rattle.step_rules.proofs.absences.absent_value.Given as goal

abbrev pub invariant-loop-rule : goal.invariant-loop-rule
invariant-loop-rule l = IsCounted l.rules l.label l.rule-index l.equalities (option_map (λ text. text.now) l.last)
