use Rattle.std.proofs.Common.{◌≡◌, drop}
use Rattle.opt_selects.specs.Bases.{share_metric}
use Rattle.opt_selects.proofs.bases.share_metric.Given as goal

abbrev pub invariant-loop-rule : goal.invariant-loop-rule
invariant-loop-rule l = share_metric (drop l.rule-index l.a) l.b ≡ share_metric l.a l.b
