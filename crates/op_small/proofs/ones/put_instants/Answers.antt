use Rattle.std.proofs.Common.{◌∙◌, ◌∷◌, [], ap, refl, slice_index_or}
use Rattle.std.specs.Prelude.{pos}
use Rattle.promql_meaning.specs.Givens.{barren, no_marks}
use Rattle.step_batch.specs.Lent.{stages}
use Rattle.step_table.specs.Groups.{Names}
use Rattle.step_table.specs.Outcomes.{taken}
use Rattle.ticks.specs.declared.moment.Ms.{Ms}
use Rattle.op_small.specs.Rules.{rule_of, small}
use Rattle.op_small.proofs.Lents.{follow_here, follow_next, follow_none, instant_is, lent_next, made_one, one_rises, stages_none}
use Rattle.op_small.proofs.ones.put_instants.Goals as goal

pub loop-t-init : goal.loop-t-init
loop-t-init c = record {
  left = c.begin_feed.ensures.left;
  fed = c.in_ok-begin_feed.ensures.fed ∙ c.from_ref.ensures.value ∙ ap (λ (n : Names). n ∷ []) c.empty-none.ensures;
  lent = stages_none c.begin_feed.new.self.lent c.begin_feed.ensures.steps;
  follow = follow_none c.begin_feed.new.self.lent c.args.at.now c.begin_feed.ensures.steps;
}

pub put-requires-clause-later : goal.put-requires-clause-later
put-requires-clause-later c = follow_here c.loop-t.buffer.lent c.args.at.now c.loop-t.t-index (record { 0 = pos 0 }) c.loop-t-test.true c.loop-t.invariant.follow

pub put-requires-clause-rising : goal.put-requires-clause-rising
put-requires-clause-rising c = one_rises c.loop-t.buffer.fed [] c.value_at-value.result c.loop-t.invariant.fed

pub loop-t-preserved : goal.loop-t-preserved
loop-t-preserved c =
    let t : Ms = slice_index_or c.args.at.now c.loop-t.t-index (record { 0 = pos 0 }) in
    let i = c.loop-t.invariant in
    record {
      left = c.put.ensures.left ∙ i.left;
      fed = c.put.ensures.fed ∙ i.fed;
      lent = lent_next (small (rule_of c.args.number.now)) (λ (u : Ms). record { at = u; step = barren no_marks }) c.args.at.now c.loop-t.t-index (record { 0 = pos 0 }) t (barren no_marks) _ (stages c.loop-t.buffer.lent) (stages c.put.new.self.lent)
          c.loop-t-test.true refl i.lent
          (made_one c.steps_are_well_formed.ensures.table c.loop-t.buffer.left c.loop-t.buffer.fed [] c.no_marks-marks.result c.value_at-value.result (i.left ∙ c.requires.left) i.fed
          ∙ (λ j. taken (c.no_marks-marks.ensures j) (record { labels = []; value = c.value_at-value.ensures j } ∷ [])) ∙ instant_is c.args.number.now t.0)
          c.in_ok-put.ensures.lent;
      follow = follow_next c.put.new.self.lent c.args.at.now c.loop-t.t-index (record { 0 = pos 0 }) c.loop-t-test.true c.requires.rising c.in_ok-put.ensures.later;
    }
