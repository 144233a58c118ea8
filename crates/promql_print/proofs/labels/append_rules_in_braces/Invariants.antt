use Rattle.std.proofs.Common.{◌≡◌, ◌++◌, drop, map}
use Rattle.promql_print.specs.Labels.{parted, rule_text}
use Rattle.promql_print.proofs.labels.append_rules_in_braces.Given as goal

abbrev pub invariant-loop-rule : goal.invariant-loop-rule
invariant-loop-rule l =
    l.into.items ++ parted l.started (map (rule_text l.patterns) (drop l.rule-index l.rules))
    ≡ l.initial.into.items ++ parted l.initial.started (map (rule_text l.patterns) l.rules)
