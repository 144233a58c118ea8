use Rattle.std.proofs.Common.{◌∙◌, arith}
use Rattle.std.proofs.lemmas.List.{length-set}
use Rattle.op_rank.proofs.Choosing.{emptied_all, emptied_more}
use Rattle.op_rank.proofs.contenders.empty_all.Goals as goal

pub loop-i-preserved : goal.loop-i-preserved
loop-i-preserved c =
    let i = c.loop-i.invariant in
    record {
      len = length-set c.loop-i.best.items c.loop-i.i c.clear.new.self ∙ i.len;
      empty = emptied_more c.loop-i.best.items c.loop-i.i c.clear.new.self (let l = c.loop-i-test.true in omega (arith, l, i.len)) c.clear.ensures i.empty;
    }

pub returns : goal.returns
returns c = let i = c.loop-i.invariant in emptied_all c.loop-i.best.items c.loop-i.i (let l = c.loop-i-test.false in omega (arith, l, i.len)) i.empty
