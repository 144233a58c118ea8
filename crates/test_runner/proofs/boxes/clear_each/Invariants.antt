use Rattle.std.proofs.Common.{◌≡◌, length, map}
use Rattle.remote_api.specs.Seen.{IsCleared}
use Rattle.test_runner.specs.Parts.{AreCalled}
use Rattle.test_runner.proofs.boxes.clear_each.Given as goal

abbrev pub invariant-loop-i : goal.invariant-loop-i
invariant-loop-i g l = record {
  called : AreCalled l.i IsCleared (map (λ b. (goal.Engine-dyn g (b.vtable, b.value)).seen b.value) l.initial.engines) (map (λ b. (goal.Engine-dyn g (b.vtable, b.value)).seen b.value) l.engines);
  len : length l.engines ≡ length l.initial.engines;
}
