use Rattle.std.proofs.Common.{arith, rules, ◌∙◌, ◌<◌, ℕ, length, sym, subst, take}
use Rattle.op_aggregate.specs.Places.{AreTallied, items_at}
use Rattle.op_aggregate.proofs.Grouping.{items_few, items_more, place_within, slot_place}
use Rattle.op_aggregate.proofs.groups.Groups.take.Goals as goal

pub place_at-place-requires : goal.place_at-place-requires
place_at-place-requires c = slot_place 0 (length c.args.places.now) c.args.slots.now c.loop-slot.slot-index c.slot-item.result c.loop-slot-test.true c.slot-item.is c.requires.slots

pub add-requires : goal.add-requires
add-requires c =
    let i = c.loop-slot.invariant in
    let places = c.args.places.now in
    let slots = c.args.slots.now in
    let n = c.loop-slot.slot-index in
    let place = slot_place 0 (length places) slots n c.slot-item.result c.loop-slot-test.true c.slot-item.is c.requires.slots in
    let few : length slots < 18446744073709551616 = first_of (omega arith, search rules, grind arith) in
    record {
      there = subst (λ (k : ℕ). c.place_at-place.result < k) (sym i.many) (place_within (length c.args.self.now.all.items) places c.slot-item.result.place c.place_at-place.result place c.place_at-place.ensures c.requires.places);
      tallied = (items_at places (take n slots), i.tallied, items_few places slots n 18446744073709551616 c.loop-slot-test.true few);
    }

pub loop-slot-preserved : goal.loop-slot-preserved
loop-slot-preserved c =
    let i = c.loop-slot.invariant in
    let places = c.args.places.now in
    let slots = c.args.slots.now in
    let n = c.loop-slot.slot-index in
    record {
      f = c.add.ensures.f ∙ i.f;
      many = c.add.ensures.many ∙ i.many;
      tallied = subst (λ z. AreTallied z c.add.new.self) (sym (items_more places slots n c.place_at-place.result c.slot-item.result c.loop-slot-test.true c.slot-item.is c.place_at-place.ensures)) (c.in_ok-add.ensures.tallied (items_at places (take n slots)) i.tallied);
    }
