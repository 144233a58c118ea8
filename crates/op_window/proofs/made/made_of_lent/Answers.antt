use Rattle.std.proofs.Common.{◌≡◌, ◌+◌, ◌++◌, ◌∷◌, [], Some, take, refl, rules}
use Rattle.std.specs.Prelude.{◌&&◌, None, if◌then◌else◌, Option, slice_get}
use Rattle.label_set.specs.Labels.{metric_name, value_of}
use Rattle.promql_meaning.specs.Ranges.{asks_counters, has_value, name_note}
use Rattle.step_batch.specs.LentWindows.{window_with}
use Rattle.step_put.specs.declared.placed.PlacedOutcome.{PlacedOutcome}
use Rattle.step_table.specs.declared.marks.Note.{Note}
use Rattle.step_table.specs.declared.windows.WindowRow.{WindowRow}
use Rattle.op_window.specs.Rules.{names_in}
use Rattle.op_window.proofs.PlacesMade.{given_next, note_is, rise_next, window_named}
use Rattle.op_window.proofs.WindowRowsMade.{notes_next, row_is, rows_more}
use Rattle.op_window.proofs.made.made_of_lent.Goals as goal

pub loop-i-preserved : goal.loop-i-preserved
loop-i-preserved c =
    let rows = c.args.windows.now.rows in
    let i = c.loop-i.i in
    let frame = c.args.frame.now in
    let w : WindowRow = window_with c.labels-labels.result.now c.times-times.result.now c.values-values.result.now in
    let there : slice_get rows i ≡ Some w = row_is rows i c.labels-labels.result.now c.times-times.result.now c.values-values.result.now c.labels-labels.ensures c.times-times.ensures.times c.values-values.ensures in
    let more : take i rows ++ w ∷ [] ≡ take (i + 1) rows = rows_more rows i w there in
    let p : PlacedOutcome = record { place = i; value = c.in_ok-value.value } in
    let was = c.loop-i.placed.items in
    let now = c.push.new.self.items in
    let names = c.labels-labels.result.now in
    let value = c.in_ok-value.value in
    let o : Option Note = if asks_counters c.args.f && has_value value then name_note (value_of names metric_name) else None in
    let note = note_is c.args.f frame c.args.arg.now w value names o c.in_ok-value.ensures refl refl in
    record {
      rising = rise_next was now p i refl c.in_ok-push.ensures.items c.loop-i.invariant.rising;
      outcomes = given_next c.args.f frame c.args.arg.now (names_in rows) (take i rows) (take (i + 1) rows) w was now p (window_named rows i w there) c.in_ok-value.ensures c.loop-i.invariant.outcomes c.in_ok-push.ensures.items more;
      text = search rules;
      told = c.in_ok-told.ensures.told;
      notes = notes_next c.args.f frame c.args.arg.now (take i rows) (take (i + 1) rows) w c.loop-i.notes c.tell.new.notes o c.loop-i.invariant.notes c.in_ok-told.ensures.notes note more;
    }
