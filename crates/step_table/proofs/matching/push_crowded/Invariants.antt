use Rattle.std.proofs.Common.{◌≡◌, ◌++◌, map}
use Rattle.std.specs.Vec.Iter.{into_iter_items}
use Rattle.step_table.specs.declared.marks.Mark.TheVariants.{ImplicitManyToOne}
use Rattle.step_table.proofs.matching.push_crowded.Given as goal

abbrev pub invariant-loop-signature : goal.invariant-loop-signature
invariant-loop-signature l = l.fatal ++ map ImplicitManyToOne (into_iter_items l.signature-iterator) ≡ l.initial.fatal ++ map ImplicitManyToOne (into_iter_items l.initial.signature-iterator)
