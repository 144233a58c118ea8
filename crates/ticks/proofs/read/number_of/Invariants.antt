use Rattle.std.proofs.Common.{take}
use Rattle.ticks.specs.Durations.{number, IsCapped}
use Rattle.ticks.proofs.read.number_of.Given as goal

abbrev pub invariant-loop-digit : goal.invariant-loop-digit
invariant-loop-digit l = IsCapped (number (take l.digit-index l.digits)) l.n
