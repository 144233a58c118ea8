use Rattle.std.proofs.Common.{◌≡◌, drop, filter}
use Rattle.opt_matchers.specs.Handing.{is_on_metric, names_metric}
use Rattle.opt_matchers.specs.Sides.{names_behind}
use Rattle.opt_matchers.proofs.handing.names_metric.Given as goal

abbrev pub invariant-loop-rule : goal.invariant-loop-rule
invariant-loop-rule l = names_behind l.named (filter is_on_metric (drop l.rule-index l.rules)) ≡ names_metric l.rules
