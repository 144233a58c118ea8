use Rattle.std.proofs.Common.{◌≡◌, [], drop}
use Rattle.std.specs.BTreeSet.{insert_key}
use Rattle.std.specs.Prelude.{fold, map}
use Rattle.label_set.specs.Labels.{byte_cmp}
use Rattle.step_rules.proofs.absences.labels_of.Given as goal

abbrev pub invariant-loop-rule : goal.invariant-loop-rule
invariant-loop-rule l = fold (insert_key byte_cmp) l.labels.keys (map (λ rule. rule.label) (drop l.rule-index l.rules)) ≡ fold (insert_key byte_cmp) [] (map (λ rule. rule.label) l.rules)
