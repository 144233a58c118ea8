use Rattle.std.proofs.Common.{◌≡◌, ◌∙◌, ◌∷◌, ◌++◌, [], ℕ, List, length, sym, ap, subst}
use Rattle.std.specs.List.{IsDistinct}
use Rattle.label_set.specs.LabelEquality.{labels_eq}
use Rattle.step_batch.specs.Lent.{Lent, SlotsRise, entries_of, stages, step_of}
use Rattle.step_put.specs.Placed.{PlacesRise, left_of, marks_made, marks_of_faults, slots_made}
use Rattle.step_table.specs.Groups.{Names}
use Rattle.step_table.specs.Unions.{with_fatal}
use Rattle.step_table.specs.declared.step.Step.{Step}
use Rattle.step_put.proofs.Keeping.{at_count}
use Rattle.step_put.proofs.Making.{all_rise, made_apart, unite_faults, unite_first}
use Rattle.step_put.proofs.rising.put_rising.Goals as goal

pub put_values-requires-clause-begun : goal.put_values-requires-clause-begun
put_values-requires-clause-begun c = c.in_ok-unite.ensures.free 0 c.in_ok-begin.ensures.free

pub put_values-requires-clause-within : goal.put_values-requires-clause-within
put_values-requires-clause-within c =
    let n = c.args.placing.now in
    subst (λ (m : ℕ). PlacesRise 0 m c.args.placed.now) (sym (ap length c.places.ensures ∙ at_count (left_of n.left) c.args.buffer.now.labels n.fed n.places c.requires.named)) c.requires.within

pub put_values-requires-clause-rising : goal.put_values-requires-clause-rising
put_values-requires-clause-rising c =
    let n = c.args.placing.now in
    subst (λ (ps : List ℕ). SlotsRise 0 (length c.unite.new.self.labels) (slots_made ps c.args.placed.now)) (sym c.places.ensures)
    (subst (λ (ls : List Names). SlotsRise 0 (length ls) (slots_made n.places c.args.placed.now)) (sym (c.unite.ensures.labels ∙ ap (λ (z : Lent). z.labels) c.in_ok-begin.ensures.ok))
    (all_rise n.left c.args.buffer.now.labels n.fed n.places c.requires.named c.args.placed.now c.requires.within c.requires.rising))

pub returns-clause-lent : goal.returns-clause-lent
returns-clause-lent c =
    let old = c.args.buffer.now in
    let placed = c.args.placed.now in
    let n = c.args.placing.now in
    let marks = c.args.marks.now in
    let same : c.unite.new.self.labels ≡ old.labels = c.unite.ensures.labels ∙ ap (λ (z : Lent). z.labels) c.in_ok-begin.ensures.ok in
    let first = unite_first (stages old) (stages c.begin.new.self) (stages c.unite.new.self) c.args.at marks c.in_ok-begin.ensures.stages c.in_ok-unite.ensures.stages in
    let values = c.in_ok-faults.ensures.lent (stages old) c.args.at marks first in
    let distinct = subst (IsDistinct labels_eq) (c.labels.ensures.labels ∙ ap (λ (z : Lent). z.labels) c.lend.ensures) c.labels.ensures.distinct in
    unite_faults (stages old) (stages c.put_values.new.buffer) (stages c.unite-2.new.self) c.args.at marks c.in_ok-more.more (entries_of c.unite.new.self.labels (slots_made c.places.result.now placed)) (marks_of_faults c.in_ok-faults.faults) (marks_made placed)
    values c.in_ok-unite-2.ensures.stages c.in_ok-more.ensures c.in_ok-faults.ensures.faults
    ∙ (λ i. stages old ++ record { at = c.args.at; step = step_of (entries_of (same i) (slots_made (c.places.ensures i) placed)) (with_fatal marks (marks_made placed)) } ∷ [])
    ∙ ap (λ (s : Step). stages old ++ record { at = c.args.at; step = s } ∷ [])
    (sym (made_apart n.left old.labels n.fed n.places c.requires.named c.lent_steps_are_tables.ensures.rows c.lent_steps_are_tables.ensures.table c.rows_ignore_order.ensures.settled distinct marks placed c.requires.within c.requires.rising))
