use Rattle.std.proofs.Common.{◌∙◌, ◌<◌, ◌≤◌, arith, length, map, ap}
use Rattle.step_batch.specs.Lent.{stage_of, stages}
use Rattle.op_rank.specs.ValueCounts.{counted_at, values_counted}
use Rattle.step_put.specs.Feeding.{count_of, follow_here, follow_next, follow_none, time_some, whole}
use Rattle.op_rank.proofs.Steps.{each_more}
use Rattle.op_rank.proofs.value_counts.put_all.Goals as goal

pub loop-i-init : goal.loop-i-init
loop-i-init c = record {
  follow = follow_none c.args.made.now c.args.rows.now.steps c.requires.empty;
  lent = λ by g. ap (λ ss. map (stage_of c.args.made.now.labels) ss) c.requires.empty;
}

pub put_one-requires-clause-later : goal.put_one-requires-clause-later
put_one-requires-clause-later c = λ t e. follow_here c.loop-i.made c.args.rows.now.steps c.loop-i.i t e c.loop-i.invariant.follow

pub loop-i-preserved : goal.loop-i-preserved
loop-i-preserved c =
    let i = c.loop-i.invariant in
    let n = c.loop-i.i in
    let rows = c.args.rows.now in
    let l : n < length rows.steps = omega (arith, c.len-i-end.ensures.len, c.loop-i-test.true) in
    let t = time_some rows.steps n l in
    let count = count_of (stage_of rows.labels) rows.steps in
    record {
      follow = follow_next c.put_one.new.made rows.steps n t.0 t.1 c.len-i-end.ensures.lent.rising (λ u h. c.in_ok-put_one.ensures.later t.0 u t.1 h);
      lent = λ by g.
          each_more (counted_at by c.args.counting.now.label.now) (stages rows) (stages c.loop-i.made) (stages c.put_one.new.made) n (omega (arith, l, count)) (i.lent by g)
          (λ s h. c.in_ok-put_one.ensures.lent by s g h);
    }

pub returns : goal.returns
returns c =
    let n = c.loop-i.i in
    let rows = c.args.rows.now in
    let label = c.args.counting.now.label.now in
    let count = count_of (stage_of rows.labels) rows.steps in
    let l : length rows.steps ≤ n = omega (arith, c.len-i-end.ensures.len, c.loop-i-test.false) in
    record {
      lent = λ by g. c.loop-i.invariant.lent by g ∙ ap (values_counted by label) (whole (stages rows) n (omega (arith, l, count)));
    }
