use Rattle.std.proofs.Common.{false, subst}
use Rattle.ticks.specs.Walks.{IsInstant}
use Rattle.plan_parts.proofs.Grown.{ok_then, part_at, unary_part}
use Rattle.plan_parts.proofs.Giving.{filter_gives, relabel_gives}
use Rattle.plan_parts.specs.Parts.{IsUnary, of_filter, of_relabel}
use Rattle.step_kernels.specs.declared.unary.UnaryRule.TheVariants as unary
use Rattle.label_set.specs.declared.rules.Relabel.{Relabel}
use Rattle.label_set.specs.declared.rules.Relabel.TheVariants.{Filter}
use Rattle.plan_work.specs.PlanLaws.{IsOver}
use Rattle.plan_parts.proofs.kinds.relabelled.Goals as goal

pub returns-clause-relabel : goal.returns-clause-relabel
returns-clause-relabel c = λ asked walk before now p inner k e i. ok_then c.unary.result c.unary.ensures.made (λ part u.
    let rows = c.in_ok-rows.rows in
    let r = part_at asked walk before now inner c.args.rows rows c.in_ok-rows.was i in
    unary_part asked walk before now p part c.args.patterns.now (unary.Relabel c.args.rule) false inner rows k u r (of_relabel c.args.rule e) (IsOver.of_relabel c.args.rule e) (λ h. absurd (cc))
    (λ f g. relabel_gives asked (IsInstant walk) p inner rows.scalar rows.own f g c.args.rule e))

pub returns-clause-filter : goal.returns-clause-filter
returns-clause-filter c = λ asked walk before now p inner rules' k same e i. ok_then c.unary.result c.unary.ensures.made (λ part u'.
    let rows = c.in_ok-rows.rows in
    let r = part_at asked walk before now inner c.args.rows rows c.in_ok-rows.was i in
    let u = subst (λ (z : Relabel). IsUnary c.args.patterns.now (unary.Relabel z) false rows part) same u' in
    unary_part asked walk before now p part c.args.patterns.now (unary.Relabel (Filter rules')) false inner rows k u r (of_filter rules' e) (IsOver.of_filter rules' e) (λ h. absurd (cc))
    (λ f g. filter_gives asked (IsInstant walk) p inner rows.scalar rows.own f g rules' e))
