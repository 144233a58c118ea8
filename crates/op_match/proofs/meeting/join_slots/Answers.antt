use Rattle.std.proofs.Common.{◌≡◌, ◌∙◌, ◌<◌, ◌+◌, ◌++◌, ◌∷◌, [], ℕ, List, length, take, sym, ap, subst}
use Rattle.label_set.specs.declared.rules.Pairing.{Pairing}
use Rattle.step_batch.specs.Lent.{Lent, SlotsRise}
use Rattle.step_batch.specs.declared.steps.Slot.{Slot}
use Rattle.step_table.specs.declared.step.Row.{Row}
use Rattle.xfrac.specs.declared.value.PairOp.{PairOp}
use Rattle.op_match.specs.Places.{ArePairs, IsOneSide, names_fed, rows_in}
use Rattle.op_match.specs.declared.sides.Fed.{Fed}
use Rattle.op_match.proofs.Lists.{whole}
use Rattle.op_match.proofs.Finding.{none_found, rows_more}
use Rattle.op_match.proofs.Keeping.{after_both, after_itself, said_after, said_before}
use Rattle.op_match.proofs.Rising.{place_within}
use Rattle.op_match.proofs.meeting.join_slots.Goals as goal

pub loop-slot-init : goal.loop-slot-init
loop-slot-init c = record {
  after = after_itself c.args.matching.now c.args.rows.now;
  pairs = none_found c.args.matching.now.signatures.labels c.args.rows.now.labels c.args.found.now c.requires.slots c.requires.numbers c.requires.fatal;
}

pub join_slot-requires-clause-matching : goal.join_slot-requires-clause-matching
join_slot-requires-clause-matching c = c.loop-slot.invariant.after.matching c.requires.matching

pub join_slot-requires-clause-there : goal.join_slot-requires-clause-there
join_slot-requires-clause-there c =
    subst (λ (fs : List Fed). c.slot-item.result.place < length fs) (sym c.loop-slot.invariant.after.many) (place_within 0 (length c.args.matching.now.many) c.args.many.now c.loop-slot.slot-index c.slot-item.result c.loop-slot-test.true c.slot-item.is c.requires.many)

pub join_slot-requires-clause-room : goal.join_slot-requires-clause-room
join_slot-requires-clause-room c =
    subst (λ (n : ℕ). c.slot-item.result.place < n) (sym c.loop-slot.invariant.after.room) (place_within 0 (length c.args.matching.now.kept) c.args.many.now c.loop-slot.slot-index c.slot-item.result c.loop-slot-test.true c.slot-item.is c.requires.room)

pub join_slot-requires-clause-ones : goal.join_slot-requires-clause-ones
join_slot-requires-clause-ones c = subst (λ (fs : List Fed). SlotsRise 0 (length fs) c.args.ones.now) (sym c.loop-slot.invariant.after.ones) c.requires.ones

pub join_slot-requires-clause-one_side : goal.join_slot-requires-clause-one_side
join_slot-requires-clause-one_side c =
    said_after (λ (op : PairOp) (p : Pairing) (set : Lent) (many ones : List Fed). IsOneSide set.labels p (rows_in (names_fed ones) c.args.ones.now) c.args.one_side.now) c.args.matching.now c.loop-slot.matching c.args.rows.now c.loop-slot.rows c.loop-slot.invariant.after c.requires.one_side

pub loop-slot-preserved : goal.loop-slot-preserved
loop-slot-preserved c =
    let v = c.loop-slot.invariant in
    let m = c.args.matching.now in
    let i = c.loop-slot.slot-index in
    let done : List Row = rows_in (names_fed m.many) (take i c.args.many.now) in
    let more : ArePairs m.op m.pairing m.signatures.labels c.join_slot.new.rows.labels (done ++ rows_in (names_fed m.many) (c.slot-item.result ∷ [])) (rows_in (names_fed m.ones) c.args.ones.now) c.join_slot.new.found =
    said_before (λ (op : PairOp) (p : Pairing) (set : Lent) (many ones : List Fed). ArePairs op p set.labels c.loop-slot.rows.labels done (rows_in (names_fed ones) c.args.ones.now) c.loop-slot.found
    → ArePairs op p set.labels c.join_slot.new.rows.labels (done ++ rows_in (names_fed many) (c.slot-item.result ∷ [])) (rows_in (names_fed ones) c.args.ones.now) c.join_slot.new.found)
    m c.loop-slot.matching c.args.rows.now c.loop-slot.rows v.after (c.in_ok-join_slot.ensures.pairs done) v.pairs in
    let rows : rows_in (names_fed m.many) (take (i + 1) c.args.many.now) ≡ done ++ rows_in (names_fed m.many) (c.slot-item.result ∷ []) =
    rows_more (names_fed m.many) c.args.many.now i c.slot-item.result c.loop-slot-test.true ∙ ap (λ (z : Slot). done ++ rows_in (names_fed m.many) (z ∷ [])) (sym c.slot-item.is) in
    record {
      after = after_both m c.loop-slot.matching c.join_slot.new.matching c.args.rows.now c.loop-slot.rows c.join_slot.new.rows v.after c.join_slot.ensures.after;
      pairs = subst (λ (rs : List Row). ArePairs m.op m.pairing m.signatures.labels c.join_slot.new.rows.labels rs (rows_in (names_fed m.ones) c.args.ones.now) c.join_slot.new.found) (sym rows) more;
    }

pub returns-in_err-join_slot-clause-after : goal.returns-in_err-join_slot-clause-after
returns-in_err-join_slot-clause-after c = after_both c.args.matching.now c.loop-slot.matching c.join_slot.new.matching c.args.rows.now c.loop-slot.rows c.join_slot.new.rows c.loop-slot.invariant.after c.join_slot.ensures.after

pub returns-clause-pairs : goal.returns-clause-pairs
returns-clause-pairs c =
    let m = c.args.matching.now in
    subst (λ (ss : List Slot). ArePairs m.op m.pairing m.signatures.labels c.loop-slot.rows.labels (rows_in (names_fed m.many) ss) (rows_in (names_fed m.ones) c.args.ones.now) c.loop-slot.found) (whole c.args.many.now c.loop-slot.slot-index c.loop-slot-test.false) c.loop-slot.invariant.pairs
