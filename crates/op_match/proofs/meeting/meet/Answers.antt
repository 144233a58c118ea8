use Rattle.std.proofs.Common.{◌≡◌, ◌∙◌, [], ℕ, List, sym, subst}
use Rattle.std.specs.Prelude.{◌||◌}
use Rattle.step_batch.specs.Lent.{SlotsRise}
use Rattle.step_batch.specs.declared.steps.Slot.{Slot}
use Rattle.step_table.specs.declared.marks.Mark.{Mark}
use Rattle.op_match.specs.Places.{IsMade, has_no_slots, many_of, names_fed, one_of, rows_in}
use Rattle.op_match.proofs.Lists.{if_ok}
use Rattle.op_match.proofs.Naming.{names_count}
use Rattle.op_match.proofs.Settling.{bare_made, either, left_one_made, right_one_made}
use Rattle.op_match.proofs.meeting.meet.Goals as goal

pub returns-then-is_bare-clause-made : goal.returns-then-is_bare-clause-made
returns-then-is_bare-clause-made c = λ t.
    let m = c.args.matching.now in
    let left = c.args.left.now in
    let right = c.args.right.now in
    let many = names_fed m.many in
    let ones = names_fed m.ones in
    let r = subst (λ (n : ℕ). SlotsRise 0 n (many_of m.pairing.card left right)) (sym (names_count m.many)) c.requires.many in
    let s = subst (λ (n : ℕ). SlotsRise 0 n (one_of m.pairing.card left right)) (sym (names_count m.ones)) c.requires.ones in
    let both : (has_no_slots left || has_no_slots right) ≡ (c.is_bare.result || c.is_bare-2.result) = either (has_no_slots left) (has_no_slots right) c.is_bare.result c.is_bare-2.result c.is_bare.ensures c.is_bare-2.ensures in
    let L = rows_in (one_of m.pairing.card ones many) left in
    let R = rows_in (one_of m.pairing.card many ones) right in
    subst (λ (xs : List Slot). IsMade m.op m.pairing c.args.rows.now.labels L R xs c.new.result) (sym c.clear.ensures.items)
    (subst (λ (fs : List Mark). IsMade m.op m.pairing c.args.rows.now.labels L R [] fs) (sym c.new.ensures)
    (bare_made m.op m.pairing c.args.rows.now.labels many ones left right r s (both ∙ c.if-is_bare.true)))

pub returns-then-is_left_one-clause-made : goal.returns-then-is_left_one-clause-made
returns-then-is_left_one-clause-made c =
    let m = c.args.matching.now in
    let left = c.args.left.now in
    let right = c.args.right.now in
    let many = names_fed m.many in
    let ones = names_fed m.ones in
    let r = subst (λ (n : ℕ). SlotsRise 0 n (many_of m.pairing.card left right)) (sym (names_count m.many)) c.requires.many in
    let s = subst (λ (n : ℕ). SlotsRise 0 n (one_of m.pairing.card left right)) (sym (names_count m.ones)) c.requires.ones in
    let both : (has_no_slots left || has_no_slots right) ≡ (c.is_bare.result || c.is_bare-2.result) = either (has_no_slots left) (has_no_slots right) c.is_bare.result c.is_bare-2.result c.is_bare.ensures c.is_bare-2.ensures in
    if_ok c.meet_sides.result c.meet_sides.ensures.paired (λ clear h t. left_one_made m.op m.pairing c.meet_sides.new.rows.labels many ones left right r s c.meet_sides.new.found.slots.items c.meet_sides.new.found.fatal (sym c.is_left_one.ensures ∙ c.if-is_left_one.true) (both ∙ c.if-is_bare.false) (h t))

pub returns-else-is_left_one-clause-made : goal.returns-else-is_left_one-clause-made
returns-else-is_left_one-clause-made c =
    let m = c.args.matching.now in
    let left = c.args.left.now in
    let right = c.args.right.now in
    let many = names_fed m.many in
    let ones = names_fed m.ones in
    let r = subst (λ (n : ℕ). SlotsRise 0 n (many_of m.pairing.card left right)) (sym (names_count m.many)) c.requires.many in
    let s = subst (λ (n : ℕ). SlotsRise 0 n (one_of m.pairing.card left right)) (sym (names_count m.ones)) c.requires.ones in
    let both : (has_no_slots left || has_no_slots right) ≡ (c.is_bare.result || c.is_bare-2.result) = either (has_no_slots left) (has_no_slots right) c.is_bare.result c.is_bare-2.result c.is_bare.ensures c.is_bare-2.ensures in
    if_ok c.meet_sides-else-is_left_one.result c.meet_sides-else-is_left_one.ensures.paired (λ clear h t. right_one_made m.op m.pairing c.meet_sides-else-is_left_one.new.rows.labels many ones left right r s c.meet_sides-else-is_left_one.new.found.slots.items c.meet_sides-else-is_left_one.new.found.fatal (sym c.is_left_one.ensures ∙ c.if-is_left_one.false) (both ∙ c.if-is_bare.false) (h t))
