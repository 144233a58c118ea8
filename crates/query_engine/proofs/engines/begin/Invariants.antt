use Rattle.std.proofs.Common.{◌≡◌, length, map}
use Rattle.query_engine.proofs.Boxes.{BegunUpTo}
use Rattle.query_engine.proofs.engines.begin.Given as goal

abbrev pub invariant-loop-i : goal.invariant-loop-i
invariant-loop-i g l = (let es = map (λ b. (goal.Engine-dyn g (b.vtable, b.value)).seen b.value) l.initial.engines in let fs = map (λ b. (goal.Engine-dyn g (b.vtable, b.value)).seen b.value) l.engines in record {
  begun : BegunUpTo l.i es fs;
  len : length l.engines ≡ length l.initial.engines;
})
