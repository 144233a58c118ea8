use Rattle.std.proofs.Common.{◌≡◌, ◌++◌, drop}
use Rattle.step_put.specs.Clashes.{marks_at, shared_places}
use Rattle.step_put.proofs.clashing.marks_of_shared.Given as goal

abbrev pub invariant-loop-place : goal.invariant-loop-place
invariant-loop-place l = l.shared ++ marks_at l.labels (shared_places l.place (drop l.place l.cells)) ≡ marks_at l.labels (shared_places 0 l.cells)
