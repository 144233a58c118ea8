use Rattle.std.proofs.Common.{◌≡◌, ◌∙◌, ◌<◌, List, ℕ, arith, length, Some, sym, ap, subst}
use Rattle.std.specs.Option.{option_map}
use Rattle.std.specs.Prelude.{slice_get}
use Rattle.op_match.specs.declared.sides.Fed.{Fed}
use Rattle.step_batch.specs.Lent.{SlotsRise}
use Rattle.op_match.specs.Places.{names_fed}
use Rattle.op_match.proofs.Finding.{number_below, numbers_count, slot_more, slot_on}
use Rattle.op_match.proofs.Lists.{on_ok, within}
use Rattle.op_match.proofs.Naming.{names_count}
use Rattle.op_match.proofs.Rising.{slot_within}
use Rattle.op_match.proofs.meeting.join_slot.Goals as goal

pub find-requires-clause-room : goal.find-requires-clause-room
find-requires-clause-room c =
    let m = c.args.matching.now in
    subst (λ (n : ℕ). c.number_at-number.result < n) (sym (ap length c.as_slice-2.ensures.value))
    (number_below m.signatures.labels m.pairing m.many c.args.slot.now.place c.number_at-number.result (length c.args.one_side.now.at.items) c.requires.matching.many
    (ap (λ (fs : List Fed). option_map (λ (f : Fed). f.number) (slice_get fs c.args.slot.now.place)) (sym c.as_slice.ensures) ∙ c.number_at-number.ensures) c.requires.one_side.room)

pub slot_at-one-requires : goal.slot_at-one-requires
slot_at-one-requires c =
    let m = c.args.matching.now in
    let slots = c.args.ones.now in
    let ns = c.args.one_side.now.numbers.items in
    let here : slice_get ns c.in-Some.i ≡ Some c.number_at-number.result = ap (λ (xs : List ℕ). slice_get xs c.in-Some.i) (sym c.as_slice-3.ensures.value) ∙ c.in-Some.ensures in
    let rise : SlotsRise 0 (length (names_fed m.ones)) slots = subst (λ (n : ℕ). SlotsRise 0 n slots) (sym (names_count m.ones)) c.requires.ones in
    let count = numbers_count m.signatures.labels (names_fed m.ones) m.pairing slots ns rise c.requires.one_side.numbers in
    let w = within ns c.in-Some.i c.number_at-number.result here in
    omega arith

pub join_pair-requires-clause-one : goal.join_pair-requires-clause-one
join_pair-requires-clause-one c = slot_within 0 (length c.args.matching.now.ones) c.args.ones.now c.in-Some.i c.slot_at-one.result c.slot_at-one.ensures c.requires.ones

pub returns-in-Some-clause-pairs : goal.returns-in-Some-clause-pairs
returns-in-Some-clause-pairs c = on_ok c.join_pair.result c.join_pair.ensures.added (λ added done pairs.
    let m = c.args.matching.now in
    let i = c.in-Some.i in
    let slots = c.args.ones.now in
    let ns = c.args.one_side.now.numbers.items in
    let here : slice_get ns i ≡ Some c.number_at-number.result = ap (λ (xs : List ℕ). slice_get xs i) (sym c.as_slice-3.ensures.value) ∙ c.in-Some.ensures in
    let rise : SlotsRise 0 (length (names_fed m.ones)) slots = subst (λ (n : ℕ). SlotsRise 0 n slots) (sym (names_count m.ones)) c.requires.ones in
    let s = c.slot_at-one.result in
    slot_more m.op m.pairing m.signatures.labels c.args.rows.now.labels c.join_pair.new.rows.labels m.many m.ones c.args.slot.now slots c.number_at-number.result c.args.one_side.now.at.items ns c.args.found.now c.join_pair.new.found c.requires.one_side.distinct c.requires.matching.many
    (ap (λ (fs : List Fed). option_map (λ (f : Fed). f.number) (slice_get fs c.args.slot.now.place)) (sym c.as_slice.ensures) ∙ c.number_at-number.ensures) c.requires.one_side.numbers done i s c.requires.one_side.noted rise here c.slot_at-one.ensures
    (slot_within 0 (length (names_fed m.ones)) slots i s c.slot_at-one.ensures rise) (λ names n o. added m.signatures.labels names n o) pairs)

pub returns-in-None-clause-pairs : goal.returns-in-None-clause-pairs
returns-in-None-clause-pairs c = λ done pairs.
    let m = c.args.matching.now in
    let ns = c.args.one_side.now.numbers.items in
    slot_on m.op m.pairing m.signatures.labels c.args.rows.now.labels c.args.rows.now.labels m.many m.ones c.args.slot.now c.args.ones.now c.number_at-number.result c.args.one_side.now.at.items ns c.args.found.now c.args.found.now c.requires.one_side.distinct c.requires.matching.many
    (ap (λ (fs : List Fed). option_map (λ (f : Fed). f.number) (slice_get fs c.args.slot.now.place)) (sym c.as_slice.ensures) ∙ c.number_at-number.ensures) c.requires.one_side.numbers done
    (λ i e. c.in-None.ensures i (ap (λ (xs : List ℕ). slice_get xs i) c.as_slice-3.ensures.value ∙ e)) pairs
