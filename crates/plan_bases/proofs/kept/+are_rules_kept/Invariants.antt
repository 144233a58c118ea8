use Rattle.std.proofs.Common.{length}
use Rattle.plan_bases.proofs.kept.+are_rules_kept.Given as goal

abbrev pub decreases-are_rules_kept : goal.decreases-are_rules_kept
decreases-are_rules_kept l = length l.rules.now
