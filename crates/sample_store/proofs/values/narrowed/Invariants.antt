use Rattle.std.proofs.Common.{◌≡◌, ◌++◌, drop, map}
use Rattle.sample_store.specs.Values.{whole_held}
use Rattle.sample_store.proofs.values.narrowed.Given as goal

abbrev pub invariant-loop-held : goal.invariant-loop-held
invariant-loop-held l = map whole_held l.numbers ++ drop l.held-index l.values ≡ l.values
