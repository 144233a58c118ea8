use Rattle.std.proofs.Common.{Some, map}
use Rattle.ticks.specs.declared.walk.Walk.{Grid}
use Rattle.engine_tests.specs.Going.{AreGoing}
use Rattle.engine_tests.proofs.gathers.go_on.Given as goal

abbrev pub invariant-loop-k : goal.invariant-loop-k
invariant-loop-k g l = AreGoing l.patterns (map (λ b. (goal.Engine-dyn g (b.vtable, b.value)).seen b.value) l.engines) l.exchange.places (Grid l.grid) l.count l.k l.next (Some l.fn.at)
