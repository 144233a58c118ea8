use Rattle.std.proofs.Common.{◌≡◌, ◌∙◌, ◌≤◌, ◌++◌, ◌∷◌, [], List, ℕ, length, sym, ap, subst}
use Rattle.label_set.specs.declared.rules.Pairing.{Pairing}
use Rattle.step_batch.specs.Lent.{LaterThanLast}
use Rattle.step_batch.specs.declared.steps.PlacedStep.{PlacedStep}
use Rattle.step_table.specs.declared.step.Row.{Row}
use Rattle.xfrac.specs.declared.value.PairOp.{PairOp}
use Rattle.op_match.specs.Joins.{joined_at}
use Rattle.op_match.specs.Places.{IsMade, many_of, names_fed, one_of, rows_in}
use Rattle.op_match.proofs.Keeping.{some_is}
use Rattle.op_match.proofs.LastStep.{many_fit, matching_stays, one_fit, ready_after, rows_stay, sides_stay, stays_count}
use Rattle.op_match.proofs.Naming.{names_count}
use Rattle.op_match.proofs.joined.join_one.Goals as goal

pub meet-requires-clause-many : goal.meet-requires-clause-many
meet-requires-clause-many c =
    let m = c.args.matching.now in
    let card = m.pairing.card in
    let left = c.args.left.now.labels in
    let right = c.args.right.now.labels in
    let l : length (many_of card left right) ≤ length m.many = subst (λ (n : ℕ). length (many_of card left right) ≤ n) (names_count m.many) (stays_count (many_of card left right) (names_fed m.many) c.requires.ready.many) in
    many_fit card left right c.slots.result.now c.slots-2.result.now (length m.many) l c.slots.ensures.rising c.slots-2.ensures.rising

pub meet-requires-clause-ones : goal.meet-requires-clause-ones
meet-requires-clause-ones c =
    let m = c.args.matching.now in
    let card = m.pairing.card in
    let left = c.args.left.now.labels in
    let right = c.args.right.now.labels in
    let l : length (one_of card left right) ≤ length m.ones = subst (λ (n : ℕ). length (one_of card left right) ≤ n) (names_count m.ones) (stays_count (one_of card left right) (names_fed m.ones) c.requires.ready.ones) in
    one_fit card left right c.slots.result.now c.slots-2.result.now (length m.ones) l c.slots.ensures.rising c.slots-2.ensures.rising

pub meet-requires-clause-room : goal.meet-requires-clause-room
meet-requires-clause-room c =
    let m = c.args.matching.now in
    let card = m.pairing.card in
    let left = c.args.left.now.labels in
    let right = c.args.right.now.labels in
    many_fit card left right c.slots.result.now c.slots-2.result.now (length m.kept) c.requires.ready.room c.slots.ensures.rising c.slots-2.ensures.rising

pub put_met-requires-clause-made : goal.put_met-requires-clause-made
put_met-requires-clause-made c = λ t xs ys hx hy.
    let m = c.args.matching.now in
    let card = m.pairing.card in
    let left = c.args.left.now.labels in
    let right = c.args.right.now.labels in
    let new = c.meet.new.matching in
    let after = c.meet.ensures.after in
    let labels = c.meet.new.rows.labels in
    let found = c.meet.new.found in
    let stay = sides_stay card left right (names_fed m.many) (names_fed m.ones) c.requires.ready.many c.requires.ready.ones in
    let same : c.slots.result.now ≡ xs = some_is c.slots.result.now xs (sym c.slots.ensures.slots ∙ hx) in
    let other : c.slots-2.result.now ≡ ys = some_is c.slots-2.result.now ys (sym c.slots-2.ensures.slots ∙ hy) in
    let ls : rows_in left xs ≡ rows_in (one_of card (names_fed m.ones) (names_fed m.many)) c.slots.result.now = ap (rows_in left) (sym same) ∙ rows_stay left (one_of card (names_fed m.ones) (names_fed m.many)) 0 c.slots.result.now stay.0 c.slots.ensures.rising in
    let rs : rows_in right ys ≡ rows_in (one_of card (names_fed m.many) (names_fed m.ones)) c.slots-2.result.now = ap (rows_in right) (sym other) ∙ rows_stay right (one_of card (names_fed m.many) (names_fed m.ones)) 0 c.slots-2.result.now stay.1 c.slots-2.ensures.rising in
    subst (λ (o : PairOp). IsMade o new.pairing labels (rows_in left xs) (rows_in right ys) found.slots.items found.fatal) (sym after.op)
    (subst (λ (p : Pairing). IsMade m.op p labels (rows_in left xs) (rows_in right ys) found.slots.items found.fatal) (sym after.pairing)
    (subst (λ (z : List Row). IsMade m.op m.pairing labels z (rows_in right ys) found.slots.items found.fatal) (sym ls)
    (subst (λ (z : List Row). IsMade m.op m.pairing labels (rows_in (one_of card (names_fed m.ones) (names_fed m.many)) c.slots.result.now) z found.slots.items found.fatal) (sym rs)
    (c.in_ok-clear.ensures.made t))))

pub put_met-requires-clause-later : goal.put_met-requires-clause-later
put_met-requires-clause-later c = λ t e. subst (λ (ss : List PlacedStep). LaterThanLast ss t) (sym c.meet.ensures.after.steps) (c.requires.later t e)

pub returns-in_err-clear-clause-matching : goal.returns-in_err-clear-clause-matching
returns-in_err-clear-clause-matching c = c.meet.ensures.after.matching c.requires.matching

pub returns-in_err-clear-clause-ready : goal.returns-in_err-clear-clause-ready
returns-in_err-clear-clause-ready c =
    let m = c.args.matching.now in
    let card = m.pairing.card in
    let left = c.args.left.now.labels in
    let right = c.args.right.now.labels in
    ready_after m c.meet.new.matching c.args.rows.now c.meet.new.rows (many_of card left right) (one_of card left right) c.meet.ensures.after c.requires.ready

pub returns-in_err-put_met-clause-matching : goal.returns-in_err-put_met-clause-matching
returns-in_err-put_met-clause-matching c = matching_stays c.meet.new.matching c.meet.new.rows.labels c.put_met.new.rows.labels c.put_met.ensures.stays (c.meet.ensures.after.matching c.requires.matching)

pub returns-in_err-put_met-clause-ready : goal.returns-in_err-put_met-clause-ready
returns-in_err-put_met-clause-ready c =
    let m = c.args.matching.now in
    let card = m.pairing.card in
    let left = c.args.left.now.labels in
    let right = c.args.right.now.labels in
    ready_after m c.meet.new.matching c.args.rows.now c.meet.new.rows (many_of card left right) (one_of card left right) c.meet.ensures.after c.requires.ready

pub returns-clause-matching : goal.returns-clause-matching
returns-clause-matching c = matching_stays c.meet.new.matching c.meet.new.rows.labels c.put_met.new.rows.labels c.put_met.ensures.stays (c.meet.ensures.after.matching c.requires.matching)

pub returns-clause-ready : goal.returns-clause-ready
returns-clause-ready c =
    let m = c.args.matching.now in
    let card = m.pairing.card in
    let left = c.args.left.now.labels in
    let right = c.args.right.now.labels in
    ready_after m c.meet.new.matching c.args.rows.now c.meet.new.rows (many_of card left right) (one_of card left right) c.meet.ensures.after c.requires.ready

pub returns-clause-lent : goal.returns-clause-lent
returns-clause-lent c = λ l r hl hr.
    let after = c.meet.ensures.after in
    c.in_ok-put_met.ensures.lent l r hl hr ∙ (λ j. after.stages j ++ joined_at (after.op j) (after.pairing j) l r ∷ [])
