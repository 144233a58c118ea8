use Rattle.std.proofs.Common.{◌≡◌, map, take}
use Rattle.step_put.specs.Placed.{left_of}
use Rattle.step_put.specs.Puts.{AreAt}
use Rattle.step_put.proofs.own_places.places_of.Given as goal

abbrev pub invariant-loop-i : goal.invariant-loop-i
invariant-loop-i l = record {
  named : AreAt l.buffer.labels (map (left_of l.left) (take l.i l.labels)) l.places.items;
  steps : l.buffer.steps ≡ l.fn.buffer.steps;
}
