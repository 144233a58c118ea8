use Rattle.std.proofs.Common.{◌≡◌, ◌∙◌, ◌<◌, ◌≤◌, arith, length, map, refl, ap, take}
use Rattle.step_batch.specs.Lent.{stage_of, stages}
use Rattle.op_set.specs.Combining.{all_combined}
use Rattle.step_put.specs.Feeding.{follow_here, follow_next, follow_none, time_some}
use Rattle.op_set.proofs.Feeding.{lent_more}
use Rattle.op_set.proofs.Named.{count_of, whole}
use Rattle.op_set.proofs.combined.put_all.Goals as goal

pub loop-i-init : goal.loop-i-init
loop-i-init c = record {
  labels = refl;
  count = refl;
  follow = follow_none c.args.made.now c.args.left.now.steps c.requires.empty;
  lent = ap (λ ss. map (stage_of c.args.made.now.labels) ss) c.requires.empty;
}

pub put_one-requires-clause-later : goal.put_one-requires-clause-later
put_one-requires-clause-later c = λ t e. follow_here c.loop-i.made c.args.left.now.steps c.loop-i.i t e c.loop-i.invariant.follow

pub loop-i-preserved : goal.loop-i-preserved
loop-i-preserved c =
    let i = c.loop-i.invariant in
    let n = c.loop-i.i in
    let left = c.args.left.now in
    let right = c.args.right.now in
    let l : n < length left.steps = omega (arith, c.len-i-end.ensures.len, c.loop-i-test.true) in
    let t = time_some left.steps n l in
    let left_count = count_of (stage_of left.labels) left.steps in
    let right_count = count_of (stage_of right.labels) right.steps in
    record {
      labels = c.put_one.ensures.labels ∙ i.labels;
      count = c.put_one.ensures.count ∙ i.count;
      follow = follow_next c.put_one.new.made left.steps n t.0 t.1 c.len-i-end.ensures.lent.rising (λ u h. c.in_ok-put_one.ensures.later t.0 u t.1 h);
      lent = lent_more c.args.names.now.op c.args.names.now.pairing (stages left) (stages right) (stages c.loop-i.made) (stages c.put_one.new.made) n
          (omega (arith, l, left_count)) (omega (arith, l, right_count, c.requires.steps)) i.lent c.in_ok-put_one.ensures.lent;
    }

pub returns-clause-lent : goal.returns-clause-lent
returns-clause-lent c =
    let n = c.loop-i.i in
    let left = c.args.left.now in
    let right = c.args.right.now in
    let l : length left.steps ≤ n = omega (arith, c.len-i-end.ensures.len, c.loop-i-test.false) in
    let left_count = count_of (stage_of left.labels) left.steps in
    let right_count = count_of (stage_of right.labels) right.steps in
    let lefts = whole (stages left) n (omega (arith, l, left_count)) in
    let rights = whole (stages right) n (omega (arith, l, right_count, c.requires.steps)) in
    let together : all_combined c.args.names.now.op c.args.names.now.pairing (take n (stages left)) (take n (stages right)) ≡ all_combined c.args.names.now.op c.args.names.now.pairing (stages left) (stages right) = λ j. all_combined c.args.names.now.op c.args.names.now.pairing (lefts j) (rights j) in
    c.loop-i.invariant.lent ∙ together
