use Rattle.std.proofs.Common.{◌∙◌, ◌+◌, ℕ, List, Some, take, sym, ap, subst}
use Rattle.step_put.specs.Puts.{AreAt, names_in}
use Rattle.step_table.specs.declared.step.Row.{Row}
use Rattle.step_put.proofs.Putting.{at_next}
use Rattle.step_put.proofs.put.places_of.Goals as goal

pub loop-row-preserved : goal.loop-row-preserved
loop-row-preserved c = record {
  kept = λ j names h. c.place.ensures.kept j names (c.loop-row.invariant.kept j names h);
  places = subst (λ (z : List ℕ). AreAt c.place.new.self.labels (names_in (take (c.loop-row.row-index + 1) c.args.rows.now)) z) (sym c.in_ok-push.ensures.ok)
      (at_next c.loop-row.buffer.labels c.place.new.self.labels c.args.rows.now c.loop-row.places c.loop-row.row-index c.in_ok-place.place c.row-item.result c.loop-row-test.true c.place.ensures.kept c.loop-row.invariant.places
      (c.in_ok-place.ensures.place ∙ ap (λ (r : Row). Some r.labels) c.row-item.is));
  steps = c.place.ensures.steps ∙ c.loop-row.invariant.steps;
  stages = c.in_ok-place.ensures.stages ∙ c.loop-row.invariant.stages;
}
