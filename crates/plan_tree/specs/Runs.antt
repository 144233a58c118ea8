-- What a call that takes memory alone comes to in a run. (This project's own.)
use Rattle.std.specs.Prelude.{Result, Ok, Err}
use Rattle.exchange.specs.declared.fault.RunFault.{RunFault}
use Rattle.exchange.specs.declared.fault.RunFault.TheVariants as run

-- the same answer, with want of memory as the fault of a run
abbrev pub as_run : {T E : Type 0} → Result T E → Result T RunFault
as_run (Ok x) = Ok x
as_run (Err e) = Err run.Memory
