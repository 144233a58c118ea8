use Rattle.std.proofs.Common.{◌≡◌, ℕ, Some, false, map}
use Rattle.std.specs.Prelude.{slice_get}
use Rattle.step_table.specs.Groups.{Names}
use Rattle.step_put.specs.Placed.{left_of}
use Rattle.step_put.specs.Puts.{AreAt}
use Rattle.step_put.proofs.Keeping.{mixed}
use Rattle.step_put.proofs.own_places.placed.Given as goal

abbrev pub invariant-loop-i : goal.invariant-loop-i
invariant-loop-i l = record {
  fed : l.kept.fed.items ≡ mixed l.i l.labels l.fn.before.fed.items;
  named : AreAt l.buffer.labels (map (left_of l.left) l.kept.fed.items) l.kept.places.items;
  stays : (j : ℕ) (names : Names) → slice_get l.fn.buffer.labels j ≡ Some names → slice_get l.buffer.labels j ≡ Some names;
  stay : l.changed ≡ false → l.kept.places.items ≡ l.fn.before.places.items;
  steps : l.buffer.steps ≡ l.fn.buffer.steps;
}
