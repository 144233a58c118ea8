use Rattle.std.proofs.Common.{◌∙◌, ◌<◌, ◌∷◌, [], arith, length}
use Rattle.step_batch.specs.Lent.{stages}
use Rattle.step_table.specs.Outcomes.{taken}
use Rattle.op_small.specs.Rules.{names_under, small}
use Rattle.op_small.specs.declared.rule.SmallRule.TheVariants.{Absent}
use Rattle.op_small.proofs.Lents.{absent_is, follow_after, follow_none, follow_told, made_one, one_rises, stages_none, times_of, told_next}
use Rattle.op_small.proofs.ones.put_absences.Goals as goal

pub loop-i-init : goal.loop-i-init
loop-i-init c = record {
  left = c.begin_under.ensures.left;
  fed = c.in_ok-begin_under.ensures.fed;
  lent = stages_none c.begin_under.new.buffer.lent c.begin_under.ensures.steps;
  follow = follow_none c.begin_under.new.buffer.lent (times_of c.args.rows.now.steps) c.begin_under.ensures.steps;
}

pub put-requires-clause-later : goal.put-requires-clause-later
put-requires-clause-later c =
    let l : c.loop-i.i < length c.args.rows.now.steps = omega (arith, c.len-i-end.ensures.len, c.loop-i-test.true) in
    follow_told c.loop-i.buffer.lent c.args.rows.now.steps c.loop-i.i c.at-t.result l c.at-t.ensures c.loop-i.invariant.follow

pub put-requires-clause-rising : goal.put-requires-clause-rising
put-requires-clause-rising c = one_rises c.loop-i.buffer.fed (names_under c.args.under.now) c.absent_value-value.result c.loop-i.invariant.fed

pub loop-i-preserved : goal.loop-i-preserved
loop-i-preserved c =
    let l : c.loop-i.i < length c.args.rows.now.steps = omega (arith, c.len-i-end.ensures.len, c.loop-i-test.true) in
    let i = c.loop-i.invariant in
    record {
      left = c.put.ensures.left ∙ i.left;
      fed = c.put.ensures.fed ∙ i.fed;
      lent = told_next (small (Absent c.args.under.now)) c.args.rows.now.labels c.args.rows.now.steps c.loop-i.i c.at-t.result c.slots.result.now c.marks.result.now _ (stages c.loop-i.buffer.lent) (stages c.put.new.self.lent)
          l c.at-t.ensures c.slots.ensures.slots c.marks.ensures i.lent
          (made_one c.steps_are_well_formed.ensures.table c.loop-i.buffer.left c.loop-i.buffer.fed (names_under c.args.under.now) c.marks.result.now c.absent_value-value.result (i.left ∙ c.requires) i.fed
          ∙ (λ j. taken c.marks.result.now (record { labels = names_under c.args.under.now; value = c.absent_value-value.ensures j } ∷ []))
          ∙ absent_is c.lent_steps_are_tables.ensures.rows c.args.rows.now.labels c.slots.result.now c.marks.result.now c.len-i-end.ensures.lent.distinct c.slots.ensures.rising c.args.under.now)
          c.in_ok-put.ensures.lent;
      follow = follow_after c.put.new.self.lent c.args.rows.now.steps c.loop-i.i c.at-t.result l c.at-t.ensures c.len-i-end.ensures.lent.rising c.in_ok-put.ensures.later;
    }
