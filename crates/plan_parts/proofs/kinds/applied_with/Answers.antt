use Rattle.std.proofs.Common.{◌≡◌, ◌∙◌, Bool, true, false, [], ◌∷◌, refl, rules, subst, sym, inl}
use Rattle.ticks.specs.Walks.{IsInstant}
use Rattle.plan_parts.proofs.Grown.{ok_then, binary_part, part_at}
use Rattle.plan_parts.proofs.Giving.{beside_gives}
use Rattle.plan_parts.specs.Parts.{IsBuilt, of_element, of_element_argument}
use Rattle.step_kernels.specs.declared.binary.BinaryRule.TheVariants as binary
use Rattle.op_element.specs.declared.formula.ElementRule.TheVariants as formula
use Rattle.op_element.specs.Rules.{reads_first, reads_second}
use Rattle.plan_work.specs.PlanLaws.{IsBeside}
use Rattle.std.proofs.lemmas.Result.{err_from_is_err_and}
use Rattle.promql_type.specs.Kinds.{is_scalar}
use Rattle.logical_plan.specs.PlanTypes.{element_kind}
use Rattle.plan_parts.proofs.Handed.{handed_on}
use Rattle.plan_parts.proofs.Taking.{beside_taken, built_as}
use Rattle.plan_parts.specs.Adding.{in_order}
use Rattle.plan_parts.proofs.kinds.applied_with.Goals as goal

pub returns-clause-part : goal.returns-clause-part
returns-clause-part c = λ asked walk before between now p inner a e i j. ok_then c.binary.result c.binary.ensures.made (λ part b.
    let rows = c.in_ok-rows.rows in
    let beside = c.in_ok-rows.beside in
    let r = part_at asked walk before between inner c.args.rows rows c.in_ok-rows.ensures.first i in
    let q = part_at asked walk between now a c.args.beside beside c.in_ok-rows.ensures.second j in
    let f = c.args.f in
    let one : reads_first (formula.Apply f) ≡ true = search rules in
    let none : reads_second (formula.Apply f) ≡ false = search rules in
    binary_part asked walk before now p part before between between now (in_order before between now r.added q.added) (binary.Apply (formula.Apply f)) false inner a rows beside b r q (of_element f (a ∷ []) e) (of_element_argument f inner [] [] e) (inl (IsBeside.of_argument f e)) (λ h. absurd (cc))
    (λ x y g h. beside_gives asked (IsInstant walk) f p inner a rows.scalar rows.own beside.scalar beside.own x y g h e one none))

pub returns-in_err-rows-clause-total : goal.returns-in_err-rows-clause-total
returns-in_err-rows-clause-total c = λ kind other takes h k.
    let p = err_from_is_err_and c.from_residual.result c.from_residual.ensures.1 in
    handed_on (is_scalar (element_kind c.args.f kind)) _ _ _ p.1 p.2 (c.in_err-rows.ensures.total (is_scalar kind) (is_scalar other) h k)

pub returns-clause-total : goal.returns-clause-total
returns-clause-total c = λ kind other takes h k.
    let t = beside_taken c.args.f kind other takes in
    let scalar : c.in_ok-rows.beside.scalar ≡ true = built_as (is_scalar other) c.args.beside c.in_ok-rows.beside c.in_ok-rows.ensures.second k ∙ t.0 in
    subst (λ (b : Bool). IsBuilt b c.binary.result) (sym t.1) (c.binary.ensures.total refl (λ reads. scalar))
