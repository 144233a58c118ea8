use Rattle.std.proofs.Common.{◌≡◌, ◌∙◌, ap, Option}
use Rattle.std.specs.Prelude.{Result, ◌&&◌, None, if◌then◌else◌}
use Rattle.label_set.specs.Labels.{metric_name, value_of}
use Rattle.step_table.specs.declared.outcomes.Outcome.{Outcome}
use Rattle.xfrac.specs.declared.value.NumFault.{NumFault}
use Rattle.xfrac.specs.declared.value.XFrac.{XFrac}
use Rattle.promql_meaning.specs.Ranges.{asks_counters, counter_note, frame_of, has_value, name_note, window_labels, window_outcome, window_value}
use Rattle.step_rules.proofs.Each.{mapped_more, filtered_more}
use Rattle.step_rules.proofs.ranges.made_of.Goals as goal

pub loop-row-preserved : goal.loop-row-preserved
loop-row-preserved c =
    let f = c.args.f in
    let arg = c.args.arg.now in
    let windows = c.args.windows.now in
    let row = c.row-item.result in
    let items = c.as_slice-row-items.result.now in
    let i = c.loop-row.row-index in
    let v = c.in_ok-value.value in
    let is : v ≡ window_value f (frame_of c.args.t.0 windows) arg row.times row.values =
    c.in_ok-value.ensures ∙ (λ j. window_value f (frame_of c.args.t.0 windows) arg (c.as_slice.ensures j) (c.as_slice-in-loop-row.ensures j)) in
    let outcome : Outcome = record { labels = c.in_ok-labels.labels; value = v } in
    let same : outcome ≡ window_outcome f c.args.t.0 arg windows row =
    ap (λ l. record { labels = l; value = v }) c.in_ok-labels.ensures ∙ ap (λ w. record { labels = window_labels f row.labels; value = w }) is in
    let note : c.in_ok-counter_note.field-0 ≡ counter_note f c.args.t.0 arg windows row =
    c.in_ok-counter_note.ensures ∙ ap (λ (w : Result (Option XFrac) NumFault). if asks_counters f && has_value w then name_note (value_of row.labels metric_name) else None) is in
    record {
      outcomes = mapped_more (window_outcome f c.args.t.0 arg windows) items i row outcome _ _ _ c.loop-row-test.true c.row-item.is c.in_ok-push.ensures.ok same c.loop-row.invariant.outcomes;
      notes = filtered_more (counter_note f c.args.t.0 arg windows) items i row c.in_ok-counter_note.field-0 _ _ _ c.loop-row-test.true c.row-item.is c.in_ok-add_note.ensures note c.loop-row.invariant.notes;
    }
