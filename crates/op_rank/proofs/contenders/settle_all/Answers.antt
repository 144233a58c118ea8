use Rattle.std.proofs.Common.{◌∙◌, ◌<◌, length, arith, refl}
use Rattle.std.proofs.lemmas.List.{length-set}
use Rattle.op_rank.proofs.Choosing.{left_more, settled_all, settled_more}
use Rattle.op_rank.proofs.contenders.settle_all.Goals as goal

pub loop-i-init : goal.loop-i-init
loop-i-init c = record {
  len = refl;
  done = λ group all k l. absurd (omega (arith, l));
  left = λ group l. refl;
}

pub loop-i-preserved : goal.loop-i-preserved
loop-i-preserved c =
    let i = c.loop-i.invariant in
    let w = c.args.wanted in
    let old = c.args.best.now.items in
    let now = c.loop-i.best.items in
    let n = c.loop-i.i in
    let l : n < length now = (let t = c.loop-i-test.true in omega (arith, t, i.len)) in
    record {
      len = length-set now n c.settle.new.self ∙ i.len;
      done = settled_more w.down w.count old now n i.done i.left c.index_mut.result.now c.settle.new.self l c.index_mut.ensures.value c.settle.ensures;
      left = left_more w.down w.count old now n i.done i.left c.settle.new.self;
    }

pub returns-clause-best : goal.returns-clause-best
returns-clause-best c =
    let i = c.loop-i.invariant in
    let w = c.args.wanted in
    settled_all w.down w.count c.args.best.now.items c.loop-i.best.items c.loop-i.i i.done i.left (let t = c.loop-i-test.false in omega (arith, t, i.len))
