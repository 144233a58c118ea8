use Rattle.std.proofs.Common.{◌∙◌, ◌<◌, ◌∷◌, [], Some, ap, arith, length}
use Rattle.std.specs.Prelude.{Ok}
use Rattle.step_batch.specs.Lent.{stages}
use Rattle.step_table.specs.Groups.{Names}
use Rattle.step_table.specs.Outcomes.{taken}
use Rattle.op_small.specs.Rules.{small}
use Rattle.op_small.specs.declared.rule.SmallRule.TheVariants.{Scalar}
use Rattle.op_small.proofs.Lents.{follow_after, follow_none, follow_told, made_one, one_rises, scalar_is, stages_none, times_of, told_next}
use Rattle.op_small.proofs.ones.put_scalars.Goals as goal

pub loop-i-init : goal.loop-i-init
loop-i-init c = record {
  left = c.begin_feed.ensures.left;
  fed = c.in_ok-begin_feed.ensures.fed ∙ c.from_ref.ensures.value ∙ ap (λ (n : Names). n ∷ []) c.empty-none.ensures;
  lent = stages_none c.begin_feed.new.self.lent c.begin_feed.ensures.steps;
  follow = follow_none c.begin_feed.new.self.lent (times_of c.args.rows.now.steps) c.begin_feed.ensures.steps;
}

pub put-requires-clause-later : goal.put-requires-clause-later
put-requires-clause-later c =
    let l : c.loop-i.i < length c.args.rows.now.steps = omega (arith, c.len-i-end.ensures.len, c.loop-i-test.true) in
    follow_told c.loop-i.buffer.lent c.args.rows.now.steps c.loop-i.i c.at-t.result l c.at-t.ensures c.loop-i.invariant.follow

pub put-requires-clause-rising : goal.put-requires-clause-rising
put-requires-clause-rising c = one_rises c.loop-i.buffer.fed [] (Ok (Some c.value_of_one.result)) c.loop-i.invariant.fed

pub loop-i-preserved : goal.loop-i-preserved
loop-i-preserved c =
    let l : c.loop-i.i < length c.args.rows.now.steps = omega (arith, c.len-i-end.ensures.len, c.loop-i-test.true) in
    let i = c.loop-i.invariant in
    record {
      left = c.put.ensures.left ∙ i.left;
      fed = c.put.ensures.fed ∙ i.fed;
      lent = told_next (small Scalar) c.args.rows.now.labels c.args.rows.now.steps c.loop-i.i c.at-t.result c.slots.result.now c.marks.result.now _ (stages c.loop-i.buffer.lent) (stages c.put.new.self.lent)
          l c.at-t.ensures c.slots.ensures.slots c.marks.ensures i.lent
          (made_one c.steps_are_well_formed.ensures.table c.loop-i.buffer.left c.loop-i.buffer.fed [] c.marks.result.now (Ok (Some c.value_of_one.result)) (i.left ∙ c.requires) i.fed
          ∙ (λ j. taken c.marks.result.now (record { labels = []; value = Ok (Some (c.value_of_one.ensures j)) } ∷ []))
          ∙ scalar_is c.lent_steps_are_tables.ensures.rows c.args.rows.now.labels c.slots.result.now c.marks.result.now c.len-i-end.ensures.lent.distinct c.slots.ensures.rising)
          c.in_ok-put.ensures.lent;
      follow = follow_after c.put.new.self.lent c.args.rows.now.steps c.loop-i.i c.at-t.result l c.at-t.ensures c.len-i-end.ensures.lent.rising c.in_ok-put.ensures.later;
    }
