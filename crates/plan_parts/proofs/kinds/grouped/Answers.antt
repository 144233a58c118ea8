use Rattle.std.proofs.Common.{◌∙◌, false, [], ◌∷◌, ap}
use Rattle.ticks.specs.Walks.{IsInstant}
use Rattle.plan_parts.proofs.Grown.{ok_then, number_part, part_at, unary_part}
use Rattle.plan_parts.proofs.Giving.{counted_gives, grouped_gives}
use Rattle.plan_parts.specs.Parts.{of_group}
use Rattle.step_kernels.specs.declared.binary.BinaryRule.TheVariants as binary
use Rattle.step_kernels.specs.declared.unary.UnaryRule.TheVariants as unary
use Rattle.op_small.specs.declared.rule.SmallRule.TheVariants as small
use Rattle.logical_plan.specs.declared.nodes.PlanNode.TheVariants as node
use Rattle.func_table.specs.declared.table.Aggregate.{Aggregate}
use Rattle.func_table.specs.declared.table.Aggregate.TheVariants.{CountValues}
use Rattle.op_small.specs.Rules.{small as small_step}
use Rattle.promql_meaning.specs.Givens.{barren, no_marks}
use Rattle.plan_work.specs.PlanLaws.{IsOver}
use Rattle.plan_parts.proofs.kinds.grouped.Goals as goal

pub returns-in-CountValues-clause-part : goal.returns-in-CountValues-clause-part
returns-in-CountValues-clause-part c = λ asked walk before now p inner k e' i. ok_then c.beside_number.result c.beside_number.ensures.made (λ part m.
    let rows = c.in_ok-rows.rows in
    let r = part_at asked walk before now inner c.args.rows rows c.in_ok-rows.was i in
    let by = c.args.by in
    let label = c.args.label in
    let e = e' ∙ ap (λ (f : Aggregate). node.Group f by (inner ∷ []) label) c.in-CountValues.is in
    number_part asked walk before now p part (binary.Rank CountValues by label) c.whole.result inner rows m r (of_group CountValues by [] [] label e) (IsOver.of_group CountValues by label e)
    (λ x g. counted_gives asked (IsInstant walk) by label p inner rows.scalar rows.own x (λ t. small_step (small.Number c.whole.result) t (barren no_marks)) g e))

pub returns-in_default-clause-part : goal.returns-in_default-clause-part
returns-in_default-clause-part c = λ asked walk before now p inner k e i. ok_then c.unary.result c.unary.ensures.made (λ part u.
    let rows = c.in_ok-rows.rows in
    let r = part_at asked walk before now inner c.args.rows rows c.in_ok-rows.was i in
    let f = c.args.f in
    let by = c.args.by in
    let label = c.args.label in
    unary_part asked walk before now p part c.args.patterns.now (unary.Group f by) false inner rows k u r (of_group f by [] [] label e) (IsOver.of_group f by label e) (λ h. absurd (cc))
    (λ x g. grouped_gives asked (IsInstant walk) f by label p inner rows.scalar rows.own x g e u.reads))
