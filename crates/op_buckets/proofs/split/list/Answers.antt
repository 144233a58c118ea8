use Rattle.std.proofs.Common.{◌≡◌, ◌∙◌, Option, ap, length, sym}
use Rattle.std.specs.List.{filter_map}
use Rattle.std.specs.Option.{option_map, option_to_list}
use Rattle.op_buckets.specs.Splits.{bound_there, entry_of, entry_with}
use Rattle.op_buckets.specs.declared.split.Entry.{Entry}
use Rattle.step_put.specs.Feeding.{whole}
use Rattle.op_buckets.proofs.SlotsOrdered.{made_by, made_more, made_moved, place_below, slot_below}
use Rattle.op_buckets.proofs.Splitting.{numbers_more}
use Rattle.op_buckets.proofs.split.list.Goals as goal

pub slot_there-slot-requires : goal.slot_there-slot-requires
slot_there-slot-requires c = slot_below c.args.keys.now (length c.args.slots.now) c.loop-key.key-index c.key-item.result c.requires.all c.requires.count c.loop-key-test.true c.key-item.is

pub group_there-group-requires : goal.group_there-group-requires
group_there-group-requires c = place_below (length c.args.groups.now) 0 c.args.slots.now c.key-item.result.slot c.slot_there-slot.result.now c.requires.groups c.slot_there-slot.ensures

pub bound_there-bound-requires : goal.bound_there-bound-requires
bound_there-bound-requires c = place_below (length c.args.bounds.now) 0 c.args.slots.now c.key-item.result.slot c.slot_there-slot.result.now c.requires.bounds c.slot_there-slot.ensures

pub loop-key-preserved : goal.loop-key-preserved
loop-key-preserved c =
    let slot = c.slot_there-slot.result.now in
    let one : Option Entry = option_map (entry_with c.group_there-group.result slot.value) c.bound_there-bound.result in
    let is : one ≡ entry_of c.args.groups.now c.args.bounds.now slot = λ j. option_map (entry_with (c.group_there-group.ensures j) slot.value) (bound_there (sym c.bound_there-bound.ensures j)) in
    record {
      list = made_more (entry_of c.args.groups.now c.args.bounds.now) c.args.slots.now c.args.keys.now c.loop-key.key-index c.key-item.result slot one c.loop-key.entries.items c.list_one.new.entries.items c.loop-key-test.true c.key-item.is c.slot_there-slot.ensures is c.loop-key.invariant.list c.in_ok-list_one.ensures.list;
      numbers = numbers_more c.loop-key.entries.items (option_to_list one) c.list_one.new.entries.items c.loop-key.invariant.numbers c.in_ok-list_one.ensures.numbers c.in_ok-list_one.ensures.list;
    }

pub returns-clause-moved : goal.returns-clause-moved
returns-clause-moved c = made_moved (entry_of c.args.groups.now c.args.bounds.now) c.args.slots.now c.args.keys.now c.loop-key.entries.items c.requires.all c.requires.count
    (c.loop-key.invariant.list ∙ ap (filter_map (made_by (entry_of c.args.groups.now c.args.bounds.now) c.args.slots.now)) (whole c.args.keys.now c.loop-key.key-index c.loop-key-test.false))
