use Rattle.std.proofs.Common.{List, length, map}
use Rattle.step_table.specs.Timed.{StepAt}
use Rattle.op_subquery.specs.Kept.{StepsWithin, kept_of}
use Rattle.op_subquery.specs.Rings.{AreHeld, Goes}
use Rattle.op_subquery.proofs.hand.hand_each.Given as goal

abbrev pub invariant-loop-moment : goal.invariant-loop-moment
invariant-loop-moment l = record {
  within : StepsWithin (length l.labels) l.steps.items;
  goes : (held : List StepAt) (coming : List StepAt) → AreHeld l.fn.windows.rows l.fn.raised (map (kept_of l.labels) l.fn.steps.items) held coming
      → Goes l.moment.0 l.windows.rows l.raised (map (kept_of l.labels) l.steps.items) held coming;
}

abbrev pub decreases-loop-moment : goal.decreases-loop-moment
decreases-loop-moment l = length l.steps.items
