use Rattle.std.proofs.Common.{◌≡◌, drop}
use Rattle.plan_rewrite.specs.RuleLists.{is_part}
use Rattle.plan_rewrite.proofs.rule_lists.is_part.Given as goal

abbrev pub invariant-loop-rule : goal.invariant-loop-rule
invariant-loop-rule l = is_part (drop l.rule-index l.a) l.b ≡ is_part l.a l.b
