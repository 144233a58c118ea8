use Rattle.std.proofs.Common.{◌≡◌, ◌∙◌, true, false, [], ◌∷◌, rules, inr}
use Rattle.ticks.specs.Walks.{IsInstant}
use Rattle.plan_parts.proofs.Grown.{ok_then, binary_part, part_at}
use Rattle.plan_parts.proofs.Giving.{ranked_gives}
use Rattle.plan_parts.specs.Parts.{of_group, reads_parameter}
use Rattle.step_kernels.specs.declared.binary.BinaryRule.TheVariants as binary
use Rattle.plan_work.specs.PlanLaws.{IsBeside}
use Rattle.std.proofs.lemmas.Result.{err_from_is_err_and}
use Rattle.promql_type.specs.Kinds.{is_scalar}
use Rattle.plan_parts.proofs.Handed.{handed_on}
use Rattle.plan_parts.proofs.Taking.{built_as, parameter_taken}
use Rattle.plan_parts.specs.Adding.{turned}
use Rattle.plan_parts.proofs.kinds.ranked.Goals as goal

pub returns-clause-part : goal.returns-clause-part
returns-clause-part c = λ asked walk before between now p k a e i j. ok_then c.binary.result c.binary.ensures.made (λ part b.
    let rows = c.in_ok-rows.rows in
    let parameter = c.in_ok-rows.parameter in
    let r = part_at asked walk between now a c.args.rows rows c.in_ok-rows.ensures.first i in
    let q = part_at asked walk before between k c.args.parameter parameter c.in_ok-rows.ensures.second j in
    let f = c.args.f in
    let by = c.args.by in
    let label = c.args.label in
    let reads : reads_parameter f ≡ true = search rules in
    binary_part asked walk before now p part between now before between (turned before between now q.added r.added) (binary.Rank f by label) false a k rows parameter b r q (of_group f by (k ∷ []) [] label e) (of_group f by [] (a ∷ []) label e) (inr (IsBeside.of_parameter f by label e)) (λ h. absurd (cc))
    (λ x y g h. ranked_gives asked (IsInstant walk) f by label p k a rows.scalar rows.own parameter.scalar parameter.own x y g h e reads))

pub returns-in_err-rows-clause-total : goal.returns-in_err-rows-clause-total
returns-in_err-rows-clause-total c = λ kind first takes h k.
    let p = err_from_is_err_and c.from_residual.result c.from_residual.ensures.1 in
    handed_on false _ _ _ p.1 p.2 (c.in_err-rows.ensures.total (is_scalar kind) (is_scalar first) h k)

pub returns-clause-total : goal.returns-clause-total
returns-clause-total c = λ kind first takes h k.
    let t = parameter_taken c.args.f c.args.by first kind c.args.label takes in
    let scalar : c.in_ok-rows.parameter.scalar ≡ true = built_as (is_scalar first) c.args.parameter c.in_ok-rows.parameter c.in_ok-rows.ensures.second k ∙ t.1 in
    c.binary.ensures.total t.0 (λ reads. scalar)
