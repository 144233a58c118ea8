use Rattle.std.proofs.Common.{false, inl}
use Rattle.ticks.specs.Walks.{IsInstant}
use Rattle.plan_parts.proofs.Grown.{ok_then, binary_part, part_at}
use Rattle.plan_parts.proofs.Giving.{ratio_gives}
use Rattle.plan_parts.specs.Parts.{of_count, of_sum}
use Rattle.step_kernels.specs.declared.binary.BinaryRule.TheVariants as binary
use Rattle.plan_work.specs.PlanLaws.{IsBeside}
use Rattle.std.proofs.lemmas.Result.{err_from_is_err_and}
use Rattle.plan_parts.proofs.Handed.{handed_on}
use Rattle.plan_parts.specs.Adding.{in_order}
use Rattle.plan_parts.proofs.kinds.divided.Goals as goal

pub returns-clause-part : goal.returns-clause-part
returns-clause-part c = λ asked walk before between now p left right e i j. ok_then c.binary.result c.binary.ensures.made (λ part b.
    let sum = c.in_ok-sum.sum in
    let count = c.in_ok-sum.count in
    let r = part_at asked walk before between left c.args.sum sum c.in_ok-sum.ensures.first i in
    let q = part_at asked walk between now right c.args.count count c.in_ok-sum.ensures.second j in
    binary_part asked walk before now p part before between between now (in_order before between now r.added q.added) binary.Ratio false left right sum count b r q (of_sum right e) (of_count left e) (inl (IsBeside.of_ratio e)) (λ h. absurd (cc))
    (λ x y g h. ratio_gives asked (IsInstant walk) p left right sum.scalar sum.own count.scalar count.own x y g h e))

pub returns-in_err-sum-clause-total : goal.returns-in_err-sum-clause-total
returns-in_err-sum-clause-total c = λ scalar other h k.
    let p = err_from_is_err_and c.from_residual.result c.from_residual.ensures.1 in
    handed_on false _ _ _ p.1 p.2 (c.in_err-sum.ensures.total scalar other h k)
