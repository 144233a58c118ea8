use Rattle.std.proofs.Common.{◌++◌}
use Rattle.std.specs.Vec.Iter.{into_iter_items}
use Rattle.opt_selects.specs.Bases.{HaveSameBases}
use Rattle.opt_selects.proofs.kinds.first_of_each.Given as goal

abbrev pub invariant-loop-one : goal.invariant-loop-one
invariant-loop-one l = HaveSameBases (l.kept.items ++ into_iter_items l.one-iterator) (into_iter_items l.initial.one-iterator)
