use Rattle.std.proofs.Common.{◌≡◌, drop, fold}
use Rattle.opt_matchers.specs.Handing.{other_rules, with_rule, with_rules_of}
use Rattle.opt_matchers.proofs.handing.with_rules_of.Given as goal

abbrev pub invariant-loop-rule : goal.invariant-loop-rule
invariant-loop-rule l = fold with_rule l.all (other_rules (drop l.rule-index l.others)) ≡ with_rules_of l.rules l.others
