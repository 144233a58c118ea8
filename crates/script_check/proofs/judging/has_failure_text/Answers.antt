use Rattle.std.proofs.Common.{◌≡◌, List, refl, subst, sym, true}
use Rattle.std.specs.List.{list_all}
use Rattle.script_read.specs.declared.script.Wanted.{Wanted}
use Rattle.script_check.specs.OutcomeTexts.{outcome_text}
use Rattle.script_check.specs.Verdicts.{meets}
use Rattle.script_check.proofs.judging.has_failure_text.Goals as goal

pub returns-then-meets_lines-clause-answer : goal.returns-then-meets_lines-clause-answer
returns-then-meets_lines-clause-answer c =
    let kept = c.args.searches.now in
    subst (λ (lines : List Wanted). true ≡ list_all (meets kept (outcome_text c.args.o.now)) lines) c.as_slice.ensures (sym (c.if-meets_lines.ensures refl kept))
