use Rattle.std.proofs.Common.{◌+◌, [], List, length, take, sym, subst}
use Rattle.std.specs.Map.{keys_of}
use Rattle.step_put.specs.Puts.{AreAt}
use Rattle.step_batch.specs.declared.steps.Slot.{Slot}
use Rattle.step_table.specs.Matching.{by_signature}
use Rattle.op_match.specs.Places.{names_fed, rows_in}
use Rattle.op_match.proofs.Lists.{whole}
use Rattle.op_match.proofs.Finding.{numbers_are}
use Rattle.op_match.proofs.Rising.{place_within}
use Rattle.op_match.proofs.meeting.take_numbers.Goals as goal

pub loop-slot-init : goal.loop-slot-init
loop-slot-init c = λ set p h. subst (AreAt set []) (sym c.clear.ensures.items) tt

pub number_at-number-requires : goal.number_at-number-requires
number_at-number-requires c = place_within 0 (length c.args.side.now) c.args.slots.now c.loop-slot.slot-index c.slot-item.result c.loop-slot-test.true c.slot-item.is c.requires

pub loop-slot-preserved : goal.loop-slot-preserved
loop-slot-preserved c = λ set p h.
    subst (AreAt set (keys_of (by_signature p (rows_in (names_fed c.args.side.now) (take (c.loop-slot.slot-index + 1) c.args.slots.now))))) (sym c.in_ok-push.ensures.items)
    (numbers_are set p c.args.side.now c.args.slots.now c.loop-slot.slot-index c.slot-item.result c.number_at-number.result c.loop-slot.numbers.items c.loop-slot-test.true c.slot-item.is c.number_at-number.ensures h (c.loop-slot.invariant set p h))

pub returns : goal.returns
returns c = λ set p h. subst (λ (ss : List Slot). AreAt set (keys_of (by_signature p (rows_in (names_fed c.args.side.now) ss))) c.loop-slot.numbers.items) (whole c.args.slots.now c.loop-slot.slot-index c.loop-slot-test.false) (c.loop-slot.invariant set p h)
