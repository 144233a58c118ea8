use Rattle.std.proofs.Common.{◌≡◌, ◌∙◌, ℕ, List, length, sym, ap, subst}
use Rattle.std.specs.List.{IsDistinct}
use Rattle.label_set.specs.LabelEquality.{labels_eq}
use Rattle.step_batch.specs.Lent.{Lent, SlotsRise, entries_of, stages, step_of}
use Rattle.step_put.specs.Placed.{PlacesRise}
use Rattle.step_put.specs.Puts.{AreAt}
use Rattle.step_table.specs.Groups.{Names}
use Rattle.step_table.specs.Unions.{united}
use Rattle.step_table.specs.declared.marks.Marks.{Marks}
use Rattle.op_ratio.specs.Counts.{AreBelow, AreQuotients}
use Rattle.op_ratio.proofs.Counting.{placed_rise}
use Rattle.step_put.specs.Feeding.{stage_here, step_here}
use Rattle.op_ratio.proofs.Naming.{at_below, at_length, placed_all}
use Rattle.op_ratio.proofs.Quotients.{AreFed, Laws, one_made}
use Rattle.op_ratio.proofs.ratios.put_one.Goals as goal

pub note-requires-clause-within : goal.note-requires-clause-within
note-requires-clause-within c =
    let n = c.args.numbering.now in
    let count = at_length n.names.labels n.counts.fed n.counts.places (placed_all n.names n.counts c.requires.numbered.counts_left c.requires.numbered.counts) in
    subst (λ (k : ℕ). SlotsRise 0 k c.slots-counts.result.now) (sym (ap length c.places-count_numbers.ensures ∙ count ∙ ap length c.requires.counts)) c.slots-counts.ensures.rising

pub note-requires-clause-numbered : goal.note-requires-clause-numbered
note-requires-clause-numbered c =
    let n = c.args.numbering.now in
    let below = at_below n.names.labels n.counts.fed n.counts.places (placed_all n.names n.counts c.requires.numbered.counts_left c.requires.numbered.counts) in
    subst (λ (k : ℕ). AreBelow k c.places-count_numbers.result.now) (sym c.requires.room) (subst (AreBelow (length n.names.labels)) (sym c.places-count_numbers.ensures) below)

pub divide-requires-clause-sums : goal.divide-requires-clause-sums
divide-requires-clause-sums c =
    let n = c.args.numbering.now in
    let count = at_length n.names.labels n.sums.fed n.sums.places (placed_all n.names n.sums c.requires.numbered.sums_left c.requires.numbered.sums) in
    subst (λ (k : ℕ). SlotsRise 0 k c.slots-sums.result.now) (sym (ap length c.places-sum_numbers.ensures ∙ count ∙ ap length c.requires.sums)) c.slots-sums.ensures.rising

pub divide-requires-clause-numbered : goal.divide-requires-clause-numbered
divide-requires-clause-numbered c =
    let n = c.args.numbering.now in
    let below = at_below n.names.labels n.sums.fed n.sums.places (placed_all n.names n.sums c.requires.numbered.sums_left c.requires.numbered.sums) in
    subst (λ (k : ℕ). AreBelow k c.places-sum_numbers.result.now) (sym (c.note.ensures.count ∙ c.requires.room)) (subst (AreBelow (length n.names.labels)) (sym c.places-sum_numbers.ensures) below)

pub divide-requires-clause-counts : goal.divide-requires-clause-counts
divide-requires-clause-counts c =
    let n = c.args.numbering.now in
    let count = at_length n.names.labels n.counts.fed n.counts.places (placed_all n.names n.counts c.requires.numbered.counts_left c.requires.numbered.counts) in
    subst (λ (k : ℕ). SlotsRise 0 k c.slots-counts.result.now) (sym (ap length c.places-count_numbers.ensures ∙ count ∙ ap length c.requires.counts)) c.slots-counts.ensures.rising

pub put-requires-clause-later : goal.put-requires-clause-later
put-requires-clause-later c = c.requires.later c.at-t.result c.at-t.ensures

pub put-requires-clause-rising : goal.put-requires-clause-rising
put-requires-clause-rising c =
    let labels = c.args.sum.now.labels in
    let rise = placed_rise c.places-sum_numbers.result.now c.places-count_numbers.result.now c.slots-counts.result.now 0 (length labels) c.slots-sums.result.now c.divide.new.placed.items c.in_ok-divide.ensures c.slots-sums.ensures.rising in
    subst (λ (ls : List Names). PlacesRise 0 (length ls) c.as_slice.result.now) (sym c.requires.fed) (subst (PlacesRise 0 (length labels)) (sym c.as_slice.ensures.value) rise)

pub returns-clause-lent : goal.returns-clause-lent
returns-clause-lent c = λ s d hs hd.
    let n = c.args.numbering.now in
    let sum = c.args.sum.now in
    let count = c.args.count.now in
    let t = c.at-t.result in
    let sums = c.slots-sums.result.now in
    let counts = c.slots-counts.result.now in
    let P = c.places-sum_numbers.result.now in
    let Q = c.places-count_numbers.result.now in
    let sum_marks = c.marks-sum_marks.result.now in
    let count_marks = c.marks-count_marks.result.now in
    let laws : Laws = record {
      rows = c.lent_steps_are_tables.ensures.rows;
      tables = c.lent_steps_are_tables.ensures.table;
      order = c.rows_ignore_order.ensures.outcomes;
      taken = c.steps_are_well_formed.ensures.table;
    } in
    let fed : AreFed n.names.labels n.sums.fed n.counts.fed P Q sums counts = record {
      distinct = subst (IsDistinct labels_eq) (c.labels.ensures.labels ∙ ap (λ (z : Lent). z.labels) c.lend.ensures) c.labels.ensures.distinct;
      sums_apart = subst (IsDistinct labels_eq) (c.labels-2.ensures.labels ∙ sym c.requires.sums) c.labels-2.ensures.distinct;
      counts_apart = subst (IsDistinct labels_eq) (c.labels-3.ensures.labels ∙ sym c.requires.counts) c.labels-3.ensures.distinct;
      sums_at = subst (AreAt n.names.labels n.sums.fed) (sym c.places-sum_numbers.ensures) (placed_all n.names n.sums c.requires.numbered.sums_left c.requires.numbered.sums);
      counts_at = subst (AreAt n.names.labels n.counts.fed) (sym c.places-count_numbers.ensures) (placed_all n.names n.counts c.requires.numbered.counts_left c.requires.numbered.counts);
      sums_rise = subst (λ (z : List Names). SlotsRise 0 (length z) sums) (sym c.requires.sums) c.slots-sums.ensures.rising;
      counts_rise = subst (λ (z : List Names). SlotsRise 0 (length z) counts) (sym c.requires.counts) c.slots-counts.ensures.rising;
    } in
    let quotients : AreQuotients P Q counts sums c.as_slice.result.now = subst (AreQuotients P Q counts sums) (sym c.as_slice.ensures.value) c.in_ok-divide.ensures in
    let marks : c.unite.new.self ≡ united sum_marks count_marks = c.in_ok-unite.ensures.ok ∙ ap (λ (z : Marks). united z count_marks) c.in_ok-marks.ensures in
    one_made laws n.names.labels n.sums.fed n.counts.fed P Q sums counts sum_marks count_marks c.unite.new.self t s d c.args.made.now.left c.args.made.now.fed c.as_slice.result.now (stages c.args.made.now.lent) (stages c.put.new.self.lent)
    fed quotients
    (stage_here sum.labels sum.steps c.args.i t sums sum_marks s c.at-t.ensures c.slots-sums.ensures.slots c.marks-sum_marks.ensures hs
    ∙ ap (λ (z : List Names). record { at = t; step = step_of (entries_of z sums) sum_marks }) (sym c.requires.sums))
    (step_here count.labels count.steps c.args.i counts count_marks d c.slots-counts.ensures.slots c.marks-count_marks.ensures hd
    ∙ ap (λ (z : List Names). step_of (entries_of z counts) count_marks) (sym c.requires.counts))
    marks c.requires.left (c.requires.fed ∙ sym c.requires.sums) c.in_ok-put.ensures.lent
