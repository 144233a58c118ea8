use Rattle.std.proofs.Common.{◌∙◌, sym}
use Rattle.op_match.proofs.Lists.{put_stops, put_goes}
use Rattle.op_match.proofs.labels.put_all.Goals as goal

pub returns-then-not-branch : goal.returns-then-not-branch
returns-then-not-branch c = sym (put_stops c.loop-i.all c.args.pairs.now c.loop-i.i _ _ c.pair.ensures (rw c.if-not-branch.true at c.in_ok-put_one.ensures.taken)) ∙ c.loop-i.invariant

pub loop-i-preserved : goal.loop-i-preserved
loop-i-preserved c =
    let both = rw c.if-not-branch.false at c.in_ok-put_one.ensures.taken in
    put_goes c.loop-i.all c.args.pairs.now c.loop-i.i _ _ c.pair.ensures _ both.0 both.1 ∙ c.loop-i.invariant
