use Rattle.std.proofs.Common.{◌≡◌, drop}
use Rattle.match_rule.specs.Patterns.{HaveTheirPatterns, labels_pass}
use Rattle.match_rule.proofs.rules.labels_pass.Given as goal

abbrev pub invariant-loop-rule : goal.invariant-loop-rule
invariant-loop-rule l = record {
  same : l.patterns ≡ l.fn.patterns;
  have : HaveTheirPatterns l.fn.patterns (drop l.rule-index l.rules);
  so_far : labels_pass l.fn.patterns (drop l.rule-index l.rules) l.labels ≡ labels_pass l.fn.patterns l.rules l.labels;
}
