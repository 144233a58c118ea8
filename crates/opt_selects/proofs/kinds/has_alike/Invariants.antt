use Rattle.std.specs.Prelude.{⊤}
use Rattle.opt_selects.proofs.kinds.has_alike.Given as goal

abbrev pub invariant-loop-place : goal.invariant-loop-place
invariant-loop-place l = ⊤
