use Rattle.std.proofs.Common.{◌∙◌, ◌≤◌, ℕ, List, length, sym, ap, subst}
use Rattle.std.specs.List.{IsDistinct}
use Rattle.std.specs.Map.{keys_of}
use Rattle.label_set.specs.LabelEquality.{labels_eq}
use Rattle.label_set.specs.declared.rules.Pairing.{Pairing}
use Rattle.step_table.specs.Matching.{by_signature}
use Rattle.step_table.specs.Operators.{is_grouped}
use Rattle.op_match.specs.Apart.{pairs_left}
use Rattle.op_match.specs.Noted.{AreBelow, IsNoted}
use Rattle.op_match.specs.Places.{IsNumbered, names_fed, rows_in}
use Rattle.op_match.specs.declared.meeting.OneSide.{OneSide}
use Rattle.op_match.specs.declared.sides.Fed.{Fed}
use Rattle.step_batch.specs.Lent.{Lent}
use Rattle.step_put.specs.Puts.{AreAt}
use Rattle.op_match.proofs.Finding.{at_below}
use Rattle.op_match.proofs.Settling.{found_paired}
use Rattle.op_match.proofs.meeting.meet_sides.Goals as goal

pub note_all-requires : goal.note_all-requires
note_all-requires c =
    let m = c.args.matching.now in
    subst (AreBelow (length c.open_numbers.new.at.items)) (sym c.as_slice-2.ensures.value)
    (at_below m.signatures.labels (keys_of (by_signature m.pairing (rows_in (names_fed m.ones) c.args.ones.now))) c.take_numbers.new.numbers.items (length c.open_numbers.new.at.items)
    (subst (λ (side : List Fed). AreAt m.signatures.labels (keys_of (by_signature m.pairing (rows_in (names_fed side) c.args.ones.now))) c.take_numbers.new.numbers.items) c.as_slice.ensures (c.in_ok-take_numbers.ensures m.signatures.labels m.pairing (subst (IsNumbered m.signatures.labels m.pairing) (sym c.as_slice.ensures) c.requires.matching.ones)))
    c.in_ok-open_numbers.ensures.room)

pub join_slots-requires-clause-one_side : goal.join_slots-requires-clause-one_side
join_slots-requires-clause-one_side c =
    let m = c.args.matching.now in
    record {
      distinct = c.in_ok-open_numbers.ensures.distinct;
      room = subst (λ (n : ℕ). length m.signatures.labels ≤ n) (sym c.note_all.ensures.len) c.in_ok-open_numbers.ensures.room;
      numbers = subst (λ (side : List Fed). AreAt m.signatures.labels (keys_of (by_signature m.pairing (rows_in (names_fed side) c.args.ones.now))) c.take_numbers.new.numbers.items) c.as_slice.ensures (c.in_ok-take_numbers.ensures m.signatures.labels m.pairing (subst (IsNumbered m.signatures.labels m.pairing) (sym c.as_slice.ensures) c.requires.matching.ones));
      noted = subst (IsNoted c.note_all.new.at.items) c.as_slice-2.ensures.value (c.note_all.ensures.noted c.if-not-note_all.false);
    }

pub is_clear-requires : goal.is_clear-requires
is_clear-requires c =
    let m = c.args.matching.now in
    subst (AreBelow (length c.note_all.new.at.items)) (sym c.as_slice-3.ensures.value)
    (at_below m.signatures.labels (keys_of (pairs_left m.op m.pairing (rows_in (names_fed m.many) c.args.many.now) (rows_in (names_fed m.ones) c.args.ones.now))) c.join_slots.new.found.numbers.items (length c.note_all.new.at.items) c.in_ok-join_slots.ensures.pairs.numbers
    (subst (λ (n : ℕ). length m.signatures.labels ≤ n) (sym c.note_all.ensures.len) c.in_ok-open_numbers.ensures.room))

pub returns-clause-paired : goal.returns-clause-paired
returns-clause-paired c = λ t.
    let m = c.args.matching.now in
    let side : OneSide = record { numbers = c.take_numbers.new.numbers; at = c.note_all.new.at } in
    found_paired c.pairs_are_taken.ensures m.op m.pairing m.signatures.labels c.join_slots.new.rows.labels (rows_in (names_fed m.many) c.args.many.now) (rows_in (names_fed m.ones) c.args.ones.now) side c.join_slots.new.found c.is_clear.new.at.items c.is_clear.new.slots.items
    (record {
      distinct = c.in_ok-open_numbers.ensures.distinct;
      room = subst (λ (n : ℕ). length m.signatures.labels ≤ n) (sym c.note_all.ensures.len) c.in_ok-open_numbers.ensures.room;
      numbers = subst (λ (side : List Fed). AreAt m.signatures.labels (keys_of (by_signature m.pairing (rows_in (names_fed side) c.args.ones.now))) c.take_numbers.new.numbers.items) c.as_slice.ensures (c.in_ok-take_numbers.ensures m.signatures.labels m.pairing (subst (IsNumbered m.signatures.labels m.pairing) (sym c.as_slice.ensures) c.requires.matching.ones));
      noted = subst (IsNoted c.note_all.new.at.items) c.as_slice-2.ensures.value (c.note_all.ensures.noted c.if-not-note_all.false);
    })
    (subst (IsDistinct labels_eq) (c.labels.ensures.labels ∙ ap (λ (z : Lent). z.labels) c.lend.ensures) c.labels.ensures.distinct) c.in_ok-join_slots.ensures.pairs
    (λ e. subst (IsNoted c.is_clear.new.at.items) c.as_slice-3.ensures.value (c.is_clear.ensures.noted t (ap (λ (p : Pairing). is_grouped p.card) c.in_ok-join_slots.ensures.after.pairing ∙ e))) c.is_clear.ensures.order (c.is_clear.ensures.rise t)
