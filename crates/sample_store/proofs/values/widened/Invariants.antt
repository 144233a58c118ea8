use Rattle.std.proofs.Common.{◌≡◌, ◌++◌, drop, map}
use Rattle.sample_store.specs.Values.{whole_held}
use Rattle.sample_store.proofs.values.widened.Given as goal

abbrev pub invariant-loop-n : goal.invariant-loop-n
invariant-loop-n l = l.values ++ map whole_held (drop l.n-index l.numbers) ≡ map whole_held l.numbers
