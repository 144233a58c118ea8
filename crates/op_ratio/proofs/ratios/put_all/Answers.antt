use Rattle.std.proofs.Common.{◌≡◌, ◌∙◌, ◌<◌, ◌≤◌, arith, length, map, refl, ap, take}
use Rattle.step_batch.specs.Lent.{stage_of, stages}
use Rattle.op_ratio.specs.Ratios.{all_ratios}
use Rattle.step_put.specs.Feeding.{count_of, follow_here, follow_next, follow_none, time_some, whole}
use Rattle.op_ratio.proofs.Feeding.{lent_more}
use Rattle.op_ratio.proofs.ratios.put_all.Goals as goal

pub loop-i-init : goal.loop-i-init
loop-i-init c = record {
  room = refl;
  left = refl;
  fed = refl;
  follow = follow_none c.args.made.now.lent c.args.sum.now.steps c.requires.empty;
  lent = ap (λ ss. map (stage_of c.args.made.now.lent.labels) ss) c.requires.empty;
}

pub put_one-requires-clause-later : goal.put_one-requires-clause-later
put_one-requires-clause-later c = λ t e. follow_here c.loop-i.made.lent c.args.sum.now.steps c.loop-i.i t e c.loop-i.invariant.follow

pub loop-i-preserved : goal.loop-i-preserved
loop-i-preserved c =
    let i = c.loop-i.invariant in
    let n = c.loop-i.i in
    let sum = c.args.sum.now in
    let count = c.args.count.now in
    let l : n < length sum.steps = omega (arith, c.len-i-end.ensures.len, c.loop-i-test.true) in
    let t = time_some sum.steps n l in
    let sums = count_of (stage_of sum.labels) sum.steps in
    let counts = count_of (stage_of count.labels) count.steps in
    record {
      room = c.put_one.ensures.room ∙ i.room;
      left = c.put_one.ensures.left ∙ i.left;
      fed = c.put_one.ensures.fed ∙ i.fed;
      follow = follow_next c.put_one.new.made.lent sum.steps n t.0 t.1 c.len-i-end.ensures.lent.rising (λ u h. c.in_ok-put_one.ensures.later t.0 u t.1 h);
      lent = lent_more (stages sum) (stages count) (stages c.loop-i.made.lent) (stages c.put_one.new.made.lent) n
          (omega (arith, l, sums)) (omega (arith, l, counts, c.requires.steps)) i.lent c.in_ok-put_one.ensures.lent;
    }

pub returns-clause-lent : goal.returns-clause-lent
returns-clause-lent c =
    let n = c.loop-i.i in
    let sum = c.args.sum.now in
    let count = c.args.count.now in
    let l : length sum.steps ≤ n = omega (arith, c.len-i-end.ensures.len, c.loop-i-test.false) in
    let sums = count_of (stage_of sum.labels) sum.steps in
    let counts = count_of (stage_of count.labels) count.steps in
    let all_sums = whole (stages sum) n (omega (arith, l, sums)) in
    let all_counts = whole (stages count) n (omega (arith, l, counts, c.requires.steps)) in
    let together : all_ratios (take n (stages sum)) (take n (stages count)) ≡ all_ratios (stages sum) (stages count) = λ j. all_ratios (all_sums j) (all_counts j) in
    c.loop-i.invariant.lent ∙ together
