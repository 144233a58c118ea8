use Rattle.std.proofs.Common.{◌∙◌, ◌<◌, arith, length}
use Rattle.step_batch.specs.Lent.{stages}
use Rattle.promql_meaning.specs.Elements.{row_by_row}
use Rattle.step_put.specs.Placed.{made_step}
use Rattle.op_small.specs.Rules.{each}
use Rattle.op_small.proofs.Lents.{each_fits, follow_after, follow_none, follow_told, made_each, stages_none, times_of, told_next}
use Rattle.op_small.proofs.rows.put_rows.Goals as goal

pub loop-i-init : goal.loop-i-init
loop-i-init c = record {
  left = c.begin_feed.ensures.left;
  fed = c.in_ok-begin_feed.ensures.fed ∙ c.labels.ensures.labels;
  lent = stages_none c.begin_feed.new.self.lent c.begin_feed.ensures.steps;
  follow = follow_none c.begin_feed.new.self.lent (times_of c.args.rows.now.steps) c.begin_feed.ensures.steps;
}

pub put-requires-clause-later : goal.put-requires-clause-later
put-requires-clause-later c =
    let l : c.loop-i.i < length c.args.rows.now.steps = omega (arith, c.len-i-end.ensures.len, c.loop-i-test.true) in
    follow_told c.loop-i.buffer.lent c.args.rows.now.steps c.loop-i.i c.at-t.result l c.at-t.ensures c.loop-i.invariant.follow

pub put-requires-clause-rising : goal.put-requires-clause-rising
put-requires-clause-rising c =
    each_fits c.args.own c.at-t.result.0 c.loop-i.buffer.fed c.args.rows.now.labels c.slots.result.now c.as_slice.result.now c.loop-i.invariant.fed (c.as_slice.ensures.value ∙ c.in_ok-make_all.ensures) c.slots.ensures.rising

pub loop-i-preserved : goal.loop-i-preserved
loop-i-preserved c =
    let l : c.loop-i.i < length c.args.rows.now.steps = omega (arith, c.len-i-end.ensures.len, c.loop-i-test.true) in
    let i = c.loop-i.invariant in
    record {
      left = c.put.ensures.left ∙ i.left;
      fed = c.put.ensures.fed ∙ i.fed;
      lent = told_next (λ t s. row_by_row (each c.args.buffer.now.left c.args.own t) s) c.args.rows.now.labels c.args.rows.now.steps c.loop-i.i c.at-t.result c.slots.result.now c.marks.result.now _ (stages c.loop-i.buffer.lent) (stages c.put.new.self.lent)
          l c.at-t.ensures c.slots.ensures.slots c.marks.ensures i.lent
          ((λ j. made_step (i.left j) (i.fed j) c.marks.result.now ((c.as_slice.ensures.value ∙ c.in_ok-make_all.ensures) j))
          ∙ made_each c.lent_steps_are_tables.ensures.rows c.rows_ignore_order.ensures.outcomes c.args.buffer.now.left c.args.own c.at-t.result.0 c.args.rows.now.labels c.slots.result.now c.marks.result.now c.len-i-end.ensures.lent.distinct c.slots.ensures.rising)
          c.in_ok-put.ensures.lent;
      follow = follow_after c.put.new.self.lent c.args.rows.now.steps c.loop-i.i c.at-t.result l c.at-t.ensures c.len-i-end.ensures.lent.rising c.in_ok-put.ensures.later;
    }
