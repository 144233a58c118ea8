use Rattle.std.proofs.Common.{◌≡◌, ◌++◌}
use Rattle.std.specs.Vec.Iter.{into_iter_items}
use Rattle.plan_rewrite.specs.RuleLists.{lacking}
use Rattle.opt_selects.proofs.bases.lacking.Given as goal

abbrev pub invariant-loop-rule : goal.invariant-loop-rule
invariant-loop-rule l = l.more ++ lacking l.base (into_iter_items l.rule-iterator) ≡ lacking l.base (into_iter_items l.initial.rule-iterator)
