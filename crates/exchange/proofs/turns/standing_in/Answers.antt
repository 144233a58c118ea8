use Rattle.std.proofs.Common.{◌≡◌, ◌∙◌, [], sym}
use Rattle.std.specs.Vec.Iter.{into_iter_items}
use Rattle.std.proofs.lemmas.List.{nil_from_length}
use Rattle.exchange.proofs.Slots.{all_standing}
use Rattle.exchange.proofs.turns.standing_in.Goals as goal

pub returns : goal.returns
returns c =
    let none : into_iter_items c.loop-slot.slot-iterator ≡ [] = nil_from_length _ (sym c.loop-slot.slot-iterator.rest.ok.0 ∙ c.in-None.ensures.steps.0) in
    let items : into_iter_items c.into_iter-slot-iterator.result ≡ c.args.slots = c.into_iter-slot-iterator.ensures.into_iter_gives.0 ∙ c.into_vec-slot-items.ensures in
    all_standing c.loop-slot.places (into_iter_items c.loop-slot.slot-iterator) (into_iter_items c.into_iter-slot-iterator.result) c.args.slots none items c.loop-slot.invariant
