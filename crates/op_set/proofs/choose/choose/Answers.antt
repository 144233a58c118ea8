use Rattle.std.proofs.Common.{◌≡◌, ◌∙◌, ◌+◌, ◌<◌, ◌++◌, ℕ, arith, false, true, List, length, slice_index_or, take, ap, sym, subst}
use Rattle.step_batch.specs.declared.steps.Slot.{Slot}
use Rattle.op_set.specs.Sides.{is_chosen, is_kept, kept_rows, moved, number_of}
use Rattle.op_set.proofs.Choosing.{left_out, put_in, row_in, slot_within}
use Rattle.op_set.proofs.choose.choose.Goals as goal

pub number_of-number-requires : goal.number_of-number-requires
number_of-number-requires c =
    let within = subst (λ (s : Slot). s.place < length c.args.side.now.signed.places) (sym c.slot-item.is) (slot_within 0 (length c.args.side.now.signed.places) c.args.slots.now c.loop-slot.slot-index c.slot-item.result c.loop-slot-test.true c.requires.within) in
    subst (λ (z : List ℕ). c.slot-item.result.place < length z) (sym c.places-numbers.ensures) within

pub bounds-marked-number : goal.bounds-marked-number
bounds-marked-number c =
    let within = subst (λ (s : Slot). s.place < length c.args.side.now.signed.places) (sym c.slot-item.is) (slot_within 0 (length c.args.side.now.signed.places) c.args.slots.now c.loop-slot.slot-index c.slot-item.result c.loop-slot-test.true c.requires.within) in
    let below = c.requires.numbered c.slot-item.result.place within in
    let is : c.number_of-number.result ≡ number_of c.args.side.now.signed.places c.slot-item.result = c.number_of-number.ensures ∙ ap (λ (z : List ℕ). number_of z c.slot-item.result) c.places-numbers.ensures in
    omega (arith, below, is)

pub at_own_place-requires : goal.at_own_place-requires
at_own_place-requires c =
    let within = subst (λ (s : Slot). s.place < length c.args.side.now.signed.places) (sym c.slot-item.is) (slot_within 0 (length c.args.side.now.signed.places) c.args.slots.now c.loop-slot.slot-index c.slot-item.result c.loop-slot-test.true c.requires.within) in
    omega (arith, within, c.requires.placed, ap length c.places-places.ensures)

pub loop-slot-preserved-then-not-is_chosen : goal.loop-slot-preserved-then-not-is_chosen
loop-slot-preserved-then-not-is_chosen c =
    let side = c.args.side.now in
    let marked = c.args.marked.now in
    let slots = c.args.slots.now in
    let chosen = c.args.chosen in
    let is : c.number_of-number.result ≡ number_of side.signed.places (slice_index_or slots c.loop-slot.slot-index c.slot-item.result) =
    c.number_of-number.ensures ∙ ap (λ (z : List ℕ). number_of z c.slot-item.result) c.places-numbers.ensures ∙ ap (number_of side.signed.places) c.slot-item.is in
    let out : is_kept chosen marked side.signed.places (slice_index_or slots c.loop-slot.slot-index c.slot-item.result) ≡ false =
    ap (λ (n : ℕ). is_chosen chosen (slice_index_or marked n false)) (sym is) ∙ sym c.is_chosen.ensures ∙ c.if-not-is_chosen.true in
    c.loop-slot.invariant ∙ ap (λ (z : List Slot). c.args.kept.now.items ++ z) (sym (left_out chosen marked side slots c.loop-slot.slot-index c.slot-item.result c.loop-slot-test.true out))

pub loop-slot-preserved : goal.loop-slot-preserved
loop-slot-preserved c =
    let side = c.args.side.now in
    let marked = c.args.marked.now in
    let slots = c.args.slots.now in
    let chosen = c.args.chosen in
    let i = c.loop-slot.slot-index in
    let is : c.number_of-number.result ≡ number_of side.signed.places (slice_index_or slots i c.slot-item.result) =
    c.number_of-number.ensures ∙ ap (λ (z : List ℕ). number_of z c.slot-item.result) c.places-numbers.ensures ∙ ap (number_of side.signed.places) c.slot-item.is in
    let inside : is_kept chosen marked side.signed.places (slice_index_or slots i c.slot-item.result) ≡ true =
    ap (λ (n : ℕ). is_chosen chosen (slice_index_or marked n false)) (sym is) ∙ sym c.is_chosen.ensures ∙ c.if-not-is_chosen.false in
    let own : c.at_own_place.result ≡ moved side.own.places (slice_index_or slots i c.slot-item.result) =
    c.at_own_place.ensures ∙ ap (λ (z : List ℕ). moved z c.slot-item.result) c.places-places.ensures ∙ ap (moved side.own.places) c.slot-item.is in
    row_in c.args.kept.now.items c.loop-slot.kept.items c.push.new.self.items (kept_rows chosen marked side (take i slots)) (kept_rows chosen marked side (take (i + 1) slots)) c.at_own_place.result (moved side.own.places (slice_index_or slots i c.slot-item.result))
    c.loop-slot.invariant c.in_ok-push.ensures.items own (put_in chosen marked side slots i c.slot-item.result c.loop-slot-test.true inside)
