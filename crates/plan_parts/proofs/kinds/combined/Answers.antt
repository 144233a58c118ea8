use Rattle.std.proofs.Common.{false, inl}
use Rattle.ticks.specs.Walks.{IsInstant}
use Rattle.plan_parts.proofs.Grown.{ok_then, binary_part, part_at}
use Rattle.plan_parts.proofs.Giving.{set_gives}
use Rattle.plan_parts.specs.Parts.{of_set_left, of_set_right}
use Rattle.step_kernels.specs.declared.binary.BinaryRule.TheVariants as binary
use Rattle.plan_work.specs.PlanLaws.{IsBeside}
use Rattle.std.proofs.lemmas.Result.{err_from_is_err_and}
use Rattle.plan_parts.proofs.Handed.{handed_on}
use Rattle.plan_parts.specs.Adding.{in_order}
use Rattle.plan_parts.proofs.kinds.combined.Goals as goal

pub returns-clause-part : goal.returns-clause-part
returns-clause-part c = λ asked walk before between now p left right e i j. ok_then c.binary.result c.binary.ensures.made (λ part b.
    let rows = c.in_ok-rows.rows in
    let beside = c.in_ok-rows.beside in
    let r = part_at asked walk before between left c.args.rows rows c.in_ok-rows.ensures.first i in
    let q = part_at asked walk between now right c.args.beside beside c.in_ok-rows.ensures.second j in
    let op = c.args.op in
    let pairing = c.args.pairing in
    binary_part asked walk before now p part before between between now (in_order before between now r.added q.added) (binary.Combine op pairing) false left right rows beside b r q (of_set_left op right pairing e) (of_set_right op left pairing e) (inl (IsBeside.of_set op pairing e)) (λ h. absurd (cc))
    (λ x y g h. set_gives asked (IsInstant walk) p left right rows.scalar rows.own beside.scalar beside.own x y g h op pairing e))

pub returns-in_err-rows-clause-total : goal.returns-in_err-rows-clause-total
returns-in_err-rows-clause-total c = λ scalar other h k.
    let p = err_from_is_err_and c.from_residual.result c.from_residual.ensures.1 in
    handed_on false _ _ _ p.1 p.2 (c.in_err-rows.ensures.total scalar other h k)
