use Rattle.std.proofs.Common.{◌+◌, arith}
use Rattle.frac_text.proofs.Values.{raised_step, raised_more}
use Rattle.frac_text.proofs.value.raised.Goals as goal

pub returns-then-more-gt-LIMIT : goal.returns-then-more-gt-LIMIT
returns-then-more-gt-LIMIT c = λ within.
    let is = raised_step c.args.n c.loop-done.more c.loop-done.done c.loop-done.invariant.is in
    let more = raised_more c.args.n (c.loop-done.done + 1) c.args.places (omega arith) in
    omega (arith, is, more, within)

pub loop-done-preserved : goal.loop-done-preserved
loop-done-preserved c =
    record { is = raised_step c.args.n c.loop-done.more c.loop-done.done c.loop-done.invariant.is; within = omega arith; inside = omega arith }
