use Rattle.std.proofs.Common.{◌≡◌, drop, true}
use Rattle.std.specs.List.{list_all}
use Rattle.script_check.specs.OutcomeTexts.{outcome_text}
use Rattle.script_check.specs.Verdicts.{PatternList, meets}
use Rattle.script_check.proofs.failure_text.meets_lines.Given as goal

abbrev pub invariant-loop-line : goal.invariant-loop-line
invariant-loop-line l =
    (kept : PatternList) → list_all (meets kept (outcome_text l.outcome)) (drop l.line-index l.lines) ≡ true
    → list_all (meets kept (outcome_text l.outcome)) l.lines ≡ true
