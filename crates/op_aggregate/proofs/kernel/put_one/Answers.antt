use Rattle.std.proofs.Common.{◌≡◌, ◌∙◌, ◌<◌, ◌++◌, ◌∷◌, [], ℕ, map, sym, ap, subst}
use Rattle.std.specs.List.{AllByRecursion, IsDistinct, filter_map}
use Rattle.func_table.specs.declared.table.Aggregate.{Aggregate}
use Rattle.label_set.specs.LabelEquality.{labels_eq}
use Rattle.promql_meaning.specs.Ranks.{kept_labels}
use Rattle.step_batch.specs.Lent.{Lent, SlotsRise, entry_in, stages, step_of}
use Rattle.step_table.specs.Outcomes.{mark_of, row_of}
use Rattle.step_table.specs.Timed.{StepAt}
use Rattle.step_table.specs.Unions.{with_fatal}
use Rattle.step_table.specs.declared.step.Step.{Step}
use Rattle.op_aggregate.specs.Places.{groups_made, items_at, places_of}
use Rattle.op_aggregate.specs.Rules.{aggregated_at}
use Rattle.op_aggregate.proofs.AtPlaces.{apart_shuffled, places_apart}
use Rattle.step_put.specs.Feeding.{stage_here}
use Rattle.op_aggregate.proofs.Feeding.{kept_next, places_count, places_within}
use Rattle.op_aggregate.proofs.Grouping.{filled_ready, filled_within}
use Rattle.op_aggregate.proofs.Made.{step_made}
use Rattle.op_aggregate.proofs.Owing.{cells_made}
use Rattle.op_aggregate.specs.OwedCells.{owed_step}
use Rattle.step_cells.specs.Owed.{partial_cells}
use Rattle.op_aggregate.proofs.kernel.put_one.Goals as goal

pub take-requires : goal.take-requires
take-requires c =
    let by = c.requires.placed.0 in
    let rows = c.args.rows.now in
    let labels = c.args.buffer.now.labels in
    record {
      slots = subst (λ (n : ℕ). SlotsRise 0 n c.slots-slots.result.now) (sym (places_count (kept_labels by) labels rows.labels c.args.places.now c.requires.placed.1)) c.slots-slots.ensures.rising;
      places = subst (λ (n : ℕ). AllByRecursion (λ (p : ℕ). p < n) c.args.places.now) (sym c.requires.many) (places_within (kept_labels by) labels rows.labels c.args.places.now c.requires.placed.1);
      empty = c.requires.empty;
    }

pub put_groups-requires : goal.put_groups-requires
put_groups-requires c =
    let items = items_at c.args.places.now c.slots-slots.result.now in
    let groups = c.sort.new.self in
    let t = c.sort.ensures.tallied items c.in_ok-take.ensures.tallied in
    record {
      later = c.requires.later c.at-at.result c.at-at.ensures;
      many = c.sort.ensures.many ∙ c.take.ensures.many ∙ c.requires.many;
      ready = filled_ready items groups t;
      apart = apart_shuffled (places_of items) groups.filled.items t.filled (places_apart items);
    }

pub empty-requires : goal.empty-requires
empty-requires c =
    let items = items_at c.args.places.now c.slots-slots.result.now in
    (items, c.sort.ensures.tallied items c.in_ok-take.ensures.tallied)

pub returns-clause-lent : goal.returns-clause-lent
returns-clause-lent c = λ by s a h.
    let f = c.args.groups.now.f in
    let rows = c.args.rows.now in
    let old = c.args.buffer.now in
    let places = c.args.places.now in
    let slots = c.slots-slots.result.now in
    let marks = c.marks-marks.result.now in
    let groups = c.sort.new.self in
    let same_f : groups.f ≡ f = c.sort.ensures.f ∙ c.take.ensures.f in
    let fed_distinct = subst (IsDistinct labels_eq) c.labels.ensures.labels c.labels.ensures.distinct in
    let distinct = subst (IsDistinct labels_eq) (c.labels-2.ensures.labels ∙ ap (λ (z : Lent). z.labels) c.lend.ensures) c.labels-2.ensures.distinct in
    let made = step_made c.lent_steps_are_tables.ensures.rows c.rows_ignore_order.ensures.table c.steps_are_well_formed.ensures.table c.aggregates_ignore_order.ensures f by rows.labels old.labels places slots marks groups
    c.requires.grouped same_f (c.sort.ensures.many ∙ c.take.ensures.many ∙ c.requires.many) fed_distinct distinct c.slots-slots.ensures.rising a (c.sort.ensures.tallied (items_at places slots) c.in_ok-take.ensures.tallied) in
    let fed = stage_here rows.labels rows.steps c.args.i c.at-at.result slots marks s c.at-at.ensures c.slots-slots.ensures.slots c.marks-marks.ensures h in
    c.in_ok-put_groups.ensures.lent
    ∙ ap (λ (g : Aggregate). stages old ++ record { at = c.at-at.result; step = step_of (map entry_in (filter_map row_of (groups_made g old.labels groups.all.items groups.filled.items))) (with_fatal marks (filter_map mark_of (groups_made g old.labels groups.all.items groups.filled.items))) } ∷ []) same_f
    ∙ ap (λ (z : Step). stages old ++ record { at = c.at-at.result; step = z } ∷ []) made
    ∙ ap (λ (z : StepAt). stages old ++ aggregated_at f by z ∷ []) (sym fed)

pub keep-requires : goal.keep-requires
keep-requires c =
    let items = items_at c.args.places.now c.slots-slots.result.now in
    filled_within items c.sort.new.self (c.sort.ensures.tallied items c.in_ok-take.ensures.tallied)

pub returns-clause-owed : goal.returns-clause-owed
returns-clause-owed c = λ by s a h.
    let f = c.args.groups.now.f in
    let rows = c.args.rows.now in
    let old = c.args.buffer.now in
    let places = c.args.places.now in
    let slots = c.slots-slots.result.now in
    let marks = c.marks-marks.result.now in
    let groups = c.sort.new.self in
    let same_f : groups.f ≡ f = c.sort.ensures.f ∙ c.take.ensures.f in
    let fed_distinct = subst (IsDistinct labels_eq) c.labels.ensures.labels c.labels.ensures.distinct in
    let distinct = subst (IsDistinct labels_eq) (c.labels-2.ensures.labels ∙ ap (λ (z : Lent). z.labels) c.lend.ensures) c.labels-2.ensures.distinct in
    let step = owed_step c.at-at.result marks groups.all.items groups.filled.items in
    let made = cells_made c.lent_steps_are_tables.ensures.rows c.cells_ignore_order.ensures f by rows.labels old.labels places slots c.at-at.result marks groups
    c.requires.grouped same_f (c.sort.ensures.many ∙ c.take.ensures.many ∙ c.requires.many) fed_distinct distinct c.slots-slots.ensures.rising a (c.sort.ensures.tallied (items_at places slots) c.in_ok-take.ensures.tallied) in
    let fed = stage_here rows.labels rows.steps c.args.i c.at-at.result slots marks s c.at-at.ensures c.slots-slots.ensures.slots c.marks-marks.ensures h in
    kept_next c.args.owed.now.wanted f by old.labels c.args.owed.now.steps.items c.keep.new.self.steps.items step s c.in_ok-keep.ensures.steps (made ∙ ap (partial_cells f by) (sym fed))
