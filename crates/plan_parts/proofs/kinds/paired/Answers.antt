use Rattle.std.proofs.Common.{true, false, inl, inr}
use Rattle.ticks.specs.Walks.{IsInstant}
use Rattle.plan_parts.proofs.Grown.{ok_then, binary_part, part_at}
use Rattle.plan_parts.proofs.Giving.{left_gives, right_gives, vectors_give}
use Rattle.plan_parts.specs.Parts.{of_left, of_right}
use Rattle.step_kernels.specs.declared.binary.BinaryRule.TheVariants as binary
use Rattle.op_element.specs.declared.formula.ElementRule.TheVariants as formula
use Rattle.plan_work.specs.PlanLaws.{IsBeside}
use Rattle.std.proofs.lemmas.Result.{err_from_is_err_and}
use Rattle.promql_type.specs.Kinds.{both, is_scalar}
use Rattle.plan_parts.proofs.Handed.{handed_on}
use Rattle.plan_parts.specs.Adding.{in_order, turned}
use Rattle.plan_parts.proofs.kinds.paired.Goals as goal

pub returns-then-right-clause-part : goal.returns-then-right-clause-part
returns-then-right-clause-part c = λ asked walk before between now p l r' e i j. ok_then c.binary.result c.binary.ensures.made (λ part b.
    let left = c.in_ok-left.left in
    let right = c.in_ok-left.right in
    let r = part_at asked walk before between l c.args.left left c.in_ok-left.ensures.first i in
    let q = part_at asked walk between now r' c.args.right right c.in_ok-left.ensures.second j in
    let op = c.args.op in
    let pairing = c.args.pairing in
    binary_part asked walk before now p part before between between now (in_order before between now r.added q.added) (binary.Apply (formula.WithScalar op false)) left.scalar l r' left right b r q (of_left op r' pairing e) (of_right op l pairing e) (inl (IsBeside.of_pair op pairing e)) r.scalar
    (λ x y g h. right_gives asked (IsInstant walk) p l r' left.scalar left.own right.scalar right.own x y g h op pairing e c.if-right.true))

pub returns-then-left-clause-part : goal.returns-then-left-clause-part
returns-then-left-clause-part c = λ asked walk before between now p l r' e i j. ok_then c.binary-then-left.result c.binary-then-left.ensures.made (λ part b.
    let left = c.in_ok-left.left in
    let right = c.in_ok-left.right in
    let r = part_at asked walk before between l c.args.left left c.in_ok-left.ensures.first i in
    let q = part_at asked walk between now r' c.args.right right c.in_ok-left.ensures.second j in
    let op = c.args.op in
    let pairing = c.args.pairing in
    binary_part asked walk before now p part between now before between (turned before between now r.added q.added) (binary.Apply (formula.WithScalar op true)) false r' l right left b q r (of_right op l pairing e) (of_left op r' pairing e) (inr (IsBeside.of_pair op pairing e)) (λ h. absurd (cc))
    (λ y x h g. left_gives asked (IsInstant walk) p l r' left.scalar left.own right.scalar right.own x y g h op pairing e c.if-left.true c.if-right.false))

pub returns-clause-part : goal.returns-clause-part
returns-clause-part c = λ asked walk before between now p l r' e i j. ok_then c.binary-2.result c.binary-2.ensures.made (λ part b.
    let left = c.in_ok-left.left in
    let right = c.in_ok-left.right in
    let r = part_at asked walk before between l c.args.left left c.in_ok-left.ensures.first i in
    let q = part_at asked walk between now r' c.args.right right c.in_ok-left.ensures.second j in
    let op = c.args.op in
    let pairing = c.args.pairing in
    binary_part asked walk before now p part before between between now (in_order before between now r.added q.added) (binary.Join op pairing) false l r' left right b r q (of_left op r' pairing e) (of_right op l pairing e) (inl (IsBeside.of_pair op pairing e)) (λ h. absurd (cc))
    (λ x y g h. vectors_give asked (IsInstant walk) p l r' left.scalar left.own right.scalar right.own x y g h op pairing e c.if-left.false c.if-right.false))

pub returns-in_err-left-clause-total : goal.returns-in_err-left-clause-total
returns-in_err-left-clause-total c = λ kind other h k.
    let p = err_from_is_err_and c.from_residual.result c.from_residual.ensures.1 in
    handed_on (is_scalar (both kind other)) _ _ _ p.1 p.2 (c.in_err-left.ensures.total (is_scalar kind) (is_scalar other) h k)
