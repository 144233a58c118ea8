use Rattle.std.proofs.Common.{◌≡◌, ◌∷◌, List, length, map, sym, ap, subst}
use Rattle.std.specs.List.{IsDistinct}
use Rattle.std.specs.Map.{keys_of}
use Rattle.label_set.specs.LabelEquality.{labels_eq}
use Rattle.step_batch.specs.Lent.{entries_of}
use Rattle.step_batch.specs.declared.steps.Slot.{Slot}
use Rattle.step_table.specs.Groups.{Names, items_of}
use Rattle.op_subquery.specs.Kept.{AreWithin, KeptStep, StepsWithin, kept_of, samples_under, timed_entries, with_samples}
use Rattle.op_subquery.specs.Rings.{AreHeld, Goes}
use Rattle.op_subquery.specs.declared.waiting.WaitingStep.{WaitingStep}
use Rattle.op_subquery.proofs.Handing.{first_fits, goes_on}
use Rattle.op_subquery.proofs.hand.hand_first.Goals as goal

pub add_rows-requires-clause-within : goal.add_rows-requires-clause-within
add_rows-requires-clause-within c = subst (AreWithin (length c.args.labels.now)) (sym c.as_slice.ensures.value) (subst (StepsWithin (length c.args.labels.now)) c.in-Some.ensures.items c.requires.within).0

pub add_rows-requires-clause-distinct : goal.add_rows-requires-clause-distinct
add_rows-requires-clause-distinct c =
    let labels = c.args.labels.now in
    let split : map (kept_of labels) c.args.steps.now.items ≡ kept_of labels c.in-Some.step ∷ map (kept_of labels) c.pop_front.new.self.items = ap (map (kept_of labels)) c.in-Some.ensures.items in
    let held = c.requires.held in
    subst (λ (slots : List Slot). IsDistinct labels_eq (keys_of (entries_of labels slots))) (sym c.as_slice.ensures.value)
    (first_fits c.args.windows.now.rows c.args.raised.now (kept_of labels c.in-Some.step) (map (kept_of labels) c.pop_front.new.self.items) held.0 held.1
    (subst (λ (ks : List KeptStep). AreHeld c.args.windows.now.rows c.args.raised.now ks held.0 held.1) split held.2)).0

pub add_rows-requires-clause-before : goal.add_rows-requires-clause-before
add_rows-requires-clause-before c =
    let labels = c.args.labels.now in
    let split : map (kept_of labels) c.args.steps.now.items ≡ kept_of labels c.in-Some.step ∷ map (kept_of labels) c.pop_front.new.self.items = ap (map (kept_of labels)) c.in-Some.ensures.items in
    let held = c.requires.held in
    (first_fits c.args.windows.now.rows c.args.raised.now (kept_of labels c.in-Some.step) (map (kept_of labels) c.pop_front.new.self.items) held.0 held.1
    (subst (λ (ks : List KeptStep). AreHeld c.args.windows.now.rows c.args.raised.now ks held.0 held.1) split held.2)).1

pub returns-in_ok-add-in-Some-clause-handed : goal.returns-in_ok-add-in-Some-clause-handed
returns-in_ok-add-in-Some-clause-handed c = λ m held coming first g.
    let labels = c.args.labels.now in
    let step : WaitingStep = c.in-Some.step in
    let rest = c.pop_front.new.self.items in
    let items : c.args.steps.now.items ≡ step ∷ rest = c.in-Some.ensures.items in
    let split : map (kept_of labels) c.args.steps.now.items ≡ kept_of labels step ∷ map (kept_of labels) rest = ap (map (kept_of labels)) items in
    goes_on m c.args.windows.now.rows c.add_rows.new.windows.rows c.args.raised.now c.add.new.self (kept_of labels step) (map (kept_of labels) rest) held coming (first step rest items)
    (subst (λ (slots : List Slot). (q : Names) → samples_under q c.add_rows.new.windows.rows ≡ with_samples (samples_under q c.args.windows.now.rows) (items_of (timed_entries step.at (entries_of labels slots)) q)) c.as_slice.ensures.value c.in_ok-add_rows-in-Some.ensures) c.in_ok-add-in-Some.ensures (subst (λ (ks : List KeptStep). Goes m c.args.windows.now.rows c.args.raised.now ks held coming) split g)
