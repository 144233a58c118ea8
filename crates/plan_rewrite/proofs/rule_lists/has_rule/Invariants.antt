use Rattle.std.proofs.Common.{◌≡◌, drop}
use Rattle.plan_rewrite.specs.RuleLists.{has_rule}
use Rattle.plan_rewrite.proofs.rule_lists.has_rule.Given as goal

abbrev pub invariant-loop-one : goal.invariant-loop-one
invariant-loop-one l = has_rule (drop l.one-index l.rules) l.rule ≡ has_rule l.rules l.rule
