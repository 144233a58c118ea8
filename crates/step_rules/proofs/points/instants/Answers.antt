use Rattle.std.proofs.Common.{◌∙◌, ◌++◌, ◌∷◌, [], ◌-◌, ap, refl, arith}
use Rattle.step_rules.proofs.Instants.{begun, behind_first, one_more, times_more}
use Rattle.step_rules.proofs.points.instants.Goals as goal

pub loop-left-init : goal.loop-left-init
loop-left-init c = record {
  us = begun _ c.args.first c.args.step.0 c.args.more (c.in_ok-push.ensures.ok ∙ ap (λ us. us ++ c.args.first ∷ []) c.new-us.ensures);
  times = behind_first c.args.first.0 c.args.step.0 c.args.more c.requires;
}

pub next-u-requires : goal.next-u-requires
next-u-requires c = (times_more c.loop-left.u.0 _ c.args.step.0 c.loop-left.left (c.loop-left.left - 1) (omega arith) refl c.loop-left.invariant.times).0

pub loop-left-preserved : goal.loop-left-preserved
loop-left-preserved c = record {
  us = one_more c.loop-left.us _ _ c.loop-left.u c.next-u.result c.args.step.0 c.loop-left.left (c.loop-left.left - 1) (omega arith) c.next-u.ensures c.in_ok-push-2.ensures.ok c.loop-left.invariant.us;
  times = (times_more c.loop-left.u.0 c.next-u.result.0 c.args.step.0 c.loop-left.left (c.loop-left.left - 1) (omega arith) c.next-u.ensures c.loop-left.invariant.times).1;
}
