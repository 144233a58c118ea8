use Rattle.std.proofs.Common.{false, inr, true}
use Rattle.ticks.specs.Walks.{IsInstant}
use Rattle.plan_parts.proofs.Grown.{ok_then, binary_part, part_at}
use Rattle.plan_parts.proofs.Giving.{buckets_gives}
use Rattle.plan_parts.specs.Parts.{of_buckets, of_quantile}
use Rattle.step_kernels.specs.declared.binary.BinaryRule.TheVariants as binary
use Rattle.plan_work.specs.PlanLaws.{IsBeside}
use Rattle.std.proofs.lemmas.Result.{err_from_is_err_and}
use Rattle.plan_parts.proofs.Handed.{handed_on}
use Rattle.plan_parts.specs.Adding.{in_order}
use Rattle.plan_parts.proofs.kinds.quantiles.Goals as goal

pub returns-clause-part : goal.returns-clause-part
returns-clause-part c = λ asked walk before between now p inner a e i j. ok_then c.binary.result c.binary.ensures.made (λ part b.
    let rows = c.in_ok-rows.rows in
    let beside = c.in_ok-rows.beside in
    let r = part_at asked walk before between inner c.args.rows rows c.in_ok-rows.ensures.first i in
    let q = part_at asked walk between now a c.args.beside beside c.in_ok-rows.ensures.second j in
    binary_part asked walk before now p part before between between now (in_order before between now r.added q.added) binary.Buckets false inner a rows beside b r q (of_buckets a e) (of_quantile inner e) (inr (IsBeside.of_buckets e)) (λ h. absurd (cc))
    (λ x y g h. buckets_gives asked (IsInstant walk) p a inner rows.scalar rows.own beside.scalar beside.own x y g h e))

pub returns-in_err-rows-clause-total : goal.returns-in_err-rows-clause-total
returns-in_err-rows-clause-total c = λ scalar h k.
    let p = err_from_is_err_and c.from_residual.result c.from_residual.ensures.1 in
    handed_on false _ _ _ p.1 p.2 (c.in_err-rows.ensures.total scalar true h k)
