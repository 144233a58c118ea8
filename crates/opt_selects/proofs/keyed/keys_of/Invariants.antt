use Rattle.std.proofs.Common.{◌≡◌, take, map}
use Rattle.opt_selects.specs.RuleKeys.{rule_key}
use Rattle.opt_selects.proofs.keyed.keys_of.Given as goal

abbrev pub invariant-loop-rule : goal.invariant-loop-rule
invariant-loop-rule l = l.keys.items ≡ map (rule_key l.start) (take l.rule-index l.rules)
