use Rattle.std.proofs.Common.{◌≡◌, ◌++◌}
use Rattle.std.specs.Prelude.{Option}
use Rattle.std.specs.List.{filter_map}
use Rattle.std.specs.Vec.Iter.{into_iter_items}
use Rattle.exchange.specs.declared.place.Place.{Place}
use Rattle.exchange.proofs.turns.standing_in.Given as goal

abbrev pub invariant-loop-slot : goal.invariant-loop-slot
invariant-loop-slot l = l.places ++ filter_map (λ (slot : Option Place). slot) (into_iter_items l.slot-iterator) ≡ filter_map (λ (slot : Option Place). slot) (into_iter_items l.initial.slot-iterator)
