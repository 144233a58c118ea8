use Rattle.std.proofs.Common.{length}
use Rattle.plan_bases.proofs.rule_list.+same_rules.Given as goal

abbrev pub decreases-same_rules : goal.decreases-same_rules
decreases-same_rules l = length l.a.now
