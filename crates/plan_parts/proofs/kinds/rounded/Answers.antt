use Rattle.std.proofs.Common.{false, [], sym, subst}
use Rattle.ticks.specs.Walks.{IsInstant}
use Rattle.plan_parts.proofs.Grown.{ok_then, number_part}
use Rattle.plan_parts.proofs.Giving.{round_gives}
use Rattle.plan_parts.specs.Parts.{of_element}
use Rattle.op_small.specs.declared.rule.SmallRule.TheVariants as small
use Rattle.step_kernels.specs.declared.binary.BinaryRule.TheVariants as binary
use Rattle.op_element.specs.declared.formula.ElementRule.TheVariants as formula
use Rattle.func_table.specs.declared.table.Element.TheVariants as element
use Rattle.op_small.specs.Rules.{small as small_step}
use Rattle.plan_parts.specs.Gives.{Gives}
use Rattle.promql_meaning.specs.Givens.{barren, no_marks}
use Rattle.step_kernels.specs.Binaries.{binary_step}
use Rattle.xfrac.specs.declared.value.XFrac.{XFrac}
use Rattle.plan_work.specs.PlanLaws.{IsOver}
use Rattle.plan_parts.proofs.kinds.rounded.Goals as goal

pub returns-clause-part : goal.returns-clause-part
returns-clause-part c = ok_then c.beside_number.result c.beside_number.ensures.made (λ part m. λ asked walk before now p inner e r.
    let rows = c.args.rows in
    number_part asked walk before now p part (binary.Apply (formula.Apply element.Round)) c.whole.result inner rows m r (of_element element.Round [] e) (IsOver.of_element element.Round e)
    (λ f g. subst (λ (v : XFrac). Gives asked (IsInstant walk) p false false (λ t. binary_step (binary.Apply (formula.Apply element.Round)) (f t) (small_step (small.Number v) t (barren no_marks)))) (sym c.whole.ensures)
    (round_gives asked (IsInstant walk) p inner rows.scalar rows.own f g e)))
