use Rattle.std.proofs.Common.{◌≡◌, take}
use Rattle.engine_local.proofs.patterns.copied.Given as goal

abbrev pub invariant-loop-number : goal.invariant-loop-number
invariant-loop-number l = l.kept ≡ take l.number l.patterns
