use Rattle.std.proofs.Common.{map}
use Rattle.ticks.specs.declared.walk.Walk.{Grid}
use Rattle.engine_tests.specs.Going.{AreGoing}
use Rattle.engine_tests.proofs.runs.told.Given as goal

abbrev pub invariant-loop-lent : goal.invariant-loop-lent
invariant-loop-lent g l = AreGoing l.patterns (map (λ b. (goal.Engine-dyn g (b.vtable, b.value)).seen b.value) l.engines) l.exchange.places (Grid l.grid) l.count 0 l.next l.next
