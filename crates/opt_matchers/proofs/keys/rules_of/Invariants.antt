use Rattle.std.proofs.Common.{◌≡◌, ◌++◌, map}
use Rattle.std.specs.Vec.Iter.{into_iter_items}
use Rattle.opt_matchers.specs.declared.keys.Keyed.{Keyed}
use Rattle.opt_matchers.proofs.keys.rules_of.Given as goal

abbrev pub invariant-loop-one : goal.invariant-loop-one
invariant-loop-one l = l.rules ++ map (λ (k : Keyed). k.rule) (into_iter_items l.one-iterator) ≡ map (λ (k : Keyed). k.rule) (into_iter_items l.initial.one-iterator)
