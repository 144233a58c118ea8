use Rattle.std.proofs.Common.{◌≡◌, ◌<◌, ◌++◌, ℕ, List, map, take}
use Rattle.std.specs.List.{AllByRecursion}
use Rattle.step_put.specs.Puts.{AreAt}
use Rattle.step_table.specs.Groups.{Names}
use Rattle.op_subquery.specs.Kept.{StepsWithin, kept_in, kept_of}
use Rattle.op_subquery.proofs.waiting.take_each.Given as goal

abbrev pub invariant-loop-i : goal.invariant-loop-i
invariant-loop-i l = record {
  within : (high : ℕ) → StepsWithin high l.fn.steps.items → AllByRecursion (λ (p : ℕ). p < high) l.places → StepsWithin high l.steps.items;
  kept : (labels : List Names) → AreAt labels l.rows.labels l.places → map (kept_of labels) l.steps.items ≡ map (kept_of labels) l.fn.steps.items ++ map (kept_in l.rows.labels) (take l.i l.rows.steps);
}
