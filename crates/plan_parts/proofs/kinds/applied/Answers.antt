use Rattle.std.proofs.Common.{◌≡◌, ◌∙◌, Bool, [], ap, subst}
use Rattle.ticks.specs.Walks.{IsInstant}
use Rattle.plan_parts.proofs.Grown.{ok_then, keeps_one, not_true, part_at, unary_part}
use Rattle.plan_parts.proofs.Giving.{alone_gives}
use Rattle.plan_parts.specs.Parts.{IsBuilt, IsUnary, keeps_scalar, of_element}
use Rattle.step_kernels.specs.declared.unary.UnaryRule.TheVariants as unary
use Rattle.op_element.specs.declared.formula.ElementRule.TheVariants as formula
use Rattle.func_table.specs.declared.table.Element.{Element}
use Rattle.logical_plan.specs.declared.nodes.PlanNode.TheVariants as node
use Rattle.plan_tree.specs.Nodes.{shape_of}
use Rattle.op_element.specs.Rules.{reads_first}
use Rattle.plan_work.specs.PlanLaws.{IsOver}
use Rattle.promql_type.specs.Kinds.{is_scalar}
use Rattle.logical_plan.specs.PlanTypes.{element_kind}
use Rattle.plan_parts.proofs.Taking.{alone_kind, alone_taken, built_as}
use Rattle.plan_parts.proofs.kinds.applied.Goals as goal

pub returns-in-Round-clause-part : goal.returns-in-Round-clause-part
returns-in-Round-clause-part c = λ asked walk before now p inner k e i. ok_then c.rounded.result c.rounded.ensures.part (λ part h.
    let rows = c.in_ok-rows.rows in
    let r = part_at asked walk before now inner c.args.rows rows c.in_ok-rows.was i in
    h asked walk before now p inner (e ∙ ap (λ (f : Element). node.Element f inner []) c.in-Round.is) r)

pub returns-in_default-clause-part : goal.returns-in_default-clause-part
returns-in_default-clause-part c = λ asked walk before now p inner k e i. ok_then c.unary.result c.unary.ensures.made (λ part u.
    let rows = c.in_ok-rows.rows in
    let r = part_at asked walk before now inner c.args.rows rows c.in_ok-rows.was i in
    let kept = c.args.patterns.now in
    let f = c.args.f in
    unary_part asked walk before now p part kept (unary.Apply (formula.Apply f)) (keeps_scalar f rows.scalar) inner rows k
    (subst (λ (b : Bool). IsUnary kept (unary.Apply (formula.Apply f)) b rows part) c.keeps_scalar-scalar.ensures u) r (of_element f [] e) (IsOver.of_element f e) (λ h. keeps_one f rows.scalar (shape_of rows.tree) r.scalar h)
    (λ x g. alone_gives asked (IsInstant walk) f p inner rows.scalar rows.own x g e (not_true (reads_first (formula.Apply f)) u.reads)))

pub returns-in_default-clause-total : goal.returns-in_default-clause-total
returns-in_default-clause-total c = λ kind takes h.
    let f = c.args.f in
    let rows = c.in_ok-rows.rows in
    let scalar : c.keeps_scalar-scalar.result ≡ is_scalar (element_kind f kind) =
    c.keeps_scalar-scalar.ensures ∙ ap (keeps_scalar f) (built_as (is_scalar kind) c.args.rows rows c.in_ok-rows.was h) ∙ alone_kind f kind takes in
    subst (λ (b : Bool). IsBuilt b c.unary.result) scalar (c.unary.ensures.total (alone_taken f kind c.in_default.not-Round takes) tt)
