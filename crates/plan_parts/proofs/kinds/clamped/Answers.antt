use Rattle.std.proofs.Common.{◌∙◌, [], ◌∷◌, ap}
use Rattle.ticks.specs.Walks.{IsInstant}
use Rattle.plan_parts.proofs.Grown.{ok_then, clamp_part, part_at}
use Rattle.plan_parts.proofs.Giving.{clamp_gives}
use Rattle.plan_parts.specs.Parts.{of_element, of_element_argument}
use Rattle.op_element.specs.declared.formula.ElementRule.TheVariants as formula
use Rattle.func_table.specs.declared.table.Element.{Element}
use Rattle.func_table.specs.declared.table.Element.TheVariants as element
use Rattle.logical_plan.specs.declared.nodes.PlanNode.TheVariants as node
use Rattle.plan_work.specs.PlanLaws.{IsThree}
use Rattle.std.proofs.lemmas.Result.{err_from_is_err_and}
use Rattle.promql_type.specs.Kinds.{is_scalar}
use Rattle.logical_plan.specs.PlanTypes.{element_kind}
use Rattle.plan_parts.proofs.Handed.{handed_on}
use Rattle.plan_parts.proofs.kinds.clamped.Goals as goal

pub returns-in-Clamp-clause-part : goal.returns-in-Clamp-clause-part
returns-in-Clamp-clause-part c = λ asked walk before one two now p inner a b e' i j k. ok_then c.clamp.result c.clamp.ensures.made (λ part m.
    let rows = c.in_ok-rows.rows in
    let low = c.in_ok-low.low in
    let high = c.in_ok-low.high in
    let r = part_at asked walk before one inner c.args.rows rows c.in_ok-rows.was i in
    let l = part_at asked walk one two a c.args.low low c.in_ok-low.ensures.first j in
    let h = part_at asked walk two now b c.args.high high c.in_ok-low.ensures.second k in
    let e = e' ∙ ap (λ (f : Element). node.Element f inner (a ∷ b ∷ [])) c.in-Clamp.is in
    clamp_part asked walk before now p part one two r.added l.added h.added (formula.Apply element.Clamp) inner a b rows low high m r l h (of_element element.Clamp (a ∷ b ∷ []) e) (of_element_argument element.Clamp inner [] (b ∷ []) e) (of_element_argument element.Clamp inner (a ∷ []) [] e)
    (IsThree.of_arguments element.Clamp e)
    (λ x y z g u v. clamp_gives asked (IsInstant walk) p inner a b rows.scalar rows.own low.scalar low.own high.scalar high.own x y z g u v e))

pub returns-in_err-low-clause-total : goal.returns-in_err-low-clause-total
returns-in_err-low-clause-total c = λ kind least most takes h k m.
    let p = err_from_is_err_and c.from_residual-in_err-low.result c.from_residual-in_err-low.ensures.1 in
    handed_on (is_scalar (element_kind c.args.f kind)) _ _ _ p.1 p.2 (c.in_err-low.ensures.total (is_scalar least) (is_scalar most) k m)
