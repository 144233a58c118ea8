use Rattle.std.proofs.Common.{false}
use Rattle.ticks.specs.Walks.{IsInstant}
use Rattle.plan_parts.proofs.Grown.{ok_then, part_at, unary_part}
use Rattle.plan_parts.proofs.Giving.{stamp_gives}
use Rattle.plan_parts.specs.Parts.{of_stamp}
use Rattle.op_small.specs.declared.rule.SmallRule.TheVariants as small
use Rattle.step_kernels.specs.declared.unary.UnaryRule.TheVariants as unary
use Rattle.plan_work.specs.PlanLaws.{IsOver}
use Rattle.plan_parts.proofs.kinds.stamped.Goals as goal

pub returns-clause-part : goal.returns-clause-part
returns-clause-part c = λ asked walk before now p inner k e i. ok_then c.unary.result c.unary.ensures.made (λ part u.
    let rows = c.in_ok-rows.rows in
    let r = part_at asked walk before now inner c.args.rows rows c.in_ok-rows.was i in
    unary_part asked walk before now p part c.args.patterns.now (unary.Small (small.Stamp rows.own)) false inner rows k u r (of_stamp e) (IsOver.of_stamp e) (λ h. absurd (cc))
    (λ f g. stamp_gives asked (IsInstant walk) p inner rows.scalar rows.own f g e))
