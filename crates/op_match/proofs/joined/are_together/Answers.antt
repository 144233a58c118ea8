use Rattle.std.proofs.Common.{◌∙◌, ◌≤◌, arith, length, sym}
use Rattle.step_batch.specs.declared.steps.PlacedStep.{PlacedStep}
use Rattle.op_match.specs.Joins.{instants}
use Rattle.op_match.proofs.Lists.{whole}
use Rattle.step_put.specs.Feeding.{count_of}
use Rattle.op_match.proofs.Feeding.{same_more}
use Rattle.op_match.proofs.joined.are_together.Goals as goal

pub loop-i-preserved : goal.loop-i-preserved
loop-i-preserved c = same_more c.args.left.now.steps c.args.right.now.steps c.loop-i.i c.at.result c.at-in-loop-i.result c.at.ensures c.at-in-loop-i.ensures (c.is_same.ensures.0 c.if-not-is_same.false) c.loop-i.invariant

pub returns : goal.returns
returns c = λ t.
    let n = c.loop-i.i in
    let a = count_of (λ (s : PlacedStep). s.at) c.args.left.now.steps in
    let b = count_of (λ (s : PlacedStep). s.at) c.args.right.now.steps in
    let la : length (instants c.args.left.now) ≤ n = omega (arith, a, c.len-i-end.ensures.len, c.loop-i-test.false) in
    let lb : length (instants c.args.right.now) ≤ n = omega (arith, b, c.len.ensures.len, c.len-2.ensures.len, c.if-len.false, c.len-i-end.ensures.len, c.loop-i-test.false) in
    sym (whole (instants c.args.left.now) n la) ∙ c.loop-i.invariant ∙ whole (instants c.args.right.now) n lb
