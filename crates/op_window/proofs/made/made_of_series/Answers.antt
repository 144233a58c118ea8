use Rattle.std.proofs.Common.{◌≡◌, ◌∙◌, ◌+◌, ◌++◌, ◌∷◌, [], ℕ, Some, true, false, get_or, length, map, take, refl, sym, ap, arith, rules}
use Rattle.std.specs.Prelude.{◌&&◌, None, if◌then◌else◌, List, Option, slice_index_or}
use Rattle.std.specs.List.{filter_map}
use Rattle.promql_meaning.specs.Selecting.{sample_times, sample_values, window}
use Rattle.sample_store.specs.Samples.{labels_at, samples_at}
use Rattle.label_set.specs.Labels.{metric_name, value_of}
use Rattle.promql_meaning.specs.Ranges.{asks_counters, has_value, name_note}
use Rattle.step_batch.specs.Columns.{Columns, has_some}
use Rattle.step_batch.specs.LentWindows.{window_with}
use Rattle.step_put.specs.declared.placed.PlacedOutcome.{PlacedOutcome}
use Rattle.step_table.specs.Orders.{note_cmp}
use Rattle.step_table.specs.Unions.{set_of}
use Rattle.step_table.specs.declared.marks.Note.{Note}
use Rattle.step_table.specs.declared.windows.WindowRow.{WindowRow}
use Rattle.op_window.specs.Rules.{names_of, note_in, outcome_in}
use Rattle.op_window.specs.Sliding.{Fresh, columns_of, walked_at}
use Rattle.op_window.specs.declared.renew.SeriesWindow.{SeriesWindow}
use Rattle.op_window.proofs.Instants.{take_all}
use Rattle.op_window.proofs.PlacesMade.{given_next, note_is, rise_next, rise_wider, series_named}
use Rattle.op_window.proofs.WindowRowsMade.{columns_framed, columns_same, columns_some, notes_next, row_at, row_none, row_some, rows_are, rows_none, rows_some, walked_there}
use Rattle.op_window.proofs.made.made_of_series.Goals as goal

pub loop-i-preserved-then-not-has_some : goal.loop-i-preserved-then-not-has_some
loop-i-preserved-then-not-has_some c =
    let frame = c.args.frame.now in
    let store = c.args.store.now in
    let xs = c.args.series.now in
    let i = c.loop-i.i in
    let s : ℕ = get_or xs i 0 in
    let w = c.requires.walked in
    let F : ℕ → SeriesWindow = λ u. walked_at c.args.closed frame.range.0 (Some (w.0, frame.moment)) (samples_at store u) in
    let K : Fresh = window c.args.closed frame.moment.0 frame.range.0 (samples_at store s) in
    let item = c.index-walked-i.result in
    let S : Columns = (slice_index_or c.args.walked.now i item).samples in
    let cols : S ≡ columns_of K =
    ap (λ (z : SeriesWindow). z.samples) (sym c.index-walked-i.is ∙ walked_there F c.args.walked.now xs i item w.1 c.loop-i-test.true c.index-walked-i.is) in
    let h : has_some (columns_of K) ≡ false = ap has_some (sym cols) ∙ sym c.has_some.ensures ∙ c.if-not-has_some.true in
    let R : ℕ → Option WindowRow = row_at c.args.closed frame store in
    let r = rows_none R xs i c.loop-i-test.true (row_none (labels_at store s) K h) in
    record {
      rising = rise_wider 0 i (i + 1) c.loop-i.placed.items c.loop-i.invariant.rising (omega arith);
      outcomes = c.loop-i.invariant.outcomes ∙ ap (map (outcome_in c.args.f frame c.args.arg.now)) r;
      text = c.loop-i.invariant.text;
      told = c.loop-i.invariant.told;
      notes = c.loop-i.invariant.notes ∙ ap (λ (rows : List WindowRow). set_of note_cmp (filter_map (note_in c.args.f frame c.args.arg.now) rows)) r;
    }

pub over-requires-clause-same : goal.over-requires-clause-same
over-requires-clause-same c =
    let frame = c.args.frame.now in
    let store = c.args.store.now in
    let xs = c.args.series.now in
    let i = c.loop-i.i in
    let s : ℕ = get_or xs i 0 in
    let w = c.requires.walked in
    let F : ℕ → SeriesWindow = λ u. walked_at c.args.closed frame.range.0 (Some (w.0, frame.moment)) (samples_at store u) in
    let K : Fresh = window c.args.closed frame.moment.0 frame.range.0 (samples_at store s) in
    let item = c.index-walked-i.result in
    let S : Columns = (slice_index_or c.args.walked.now i item).samples in
    let cols : S ≡ columns_of K =
    ap (λ (z : SeriesWindow). z.samples) (sym c.index-walked-i.is ∙ walked_there F c.args.walked.now xs i item w.1 c.loop-i-test.true c.index-walked-i.is) in
    columns_same S K cols

pub over-requires-clause-some : goal.over-requires-clause-some
over-requires-clause-some c =
    let frame = c.args.frame.now in
    let store = c.args.store.now in
    let xs = c.args.series.now in
    let i = c.loop-i.i in
    let s : ℕ = get_or xs i 0 in
    let w = c.requires.walked in
    let F : ℕ → SeriesWindow = λ u. walked_at c.args.closed frame.range.0 (Some (w.0, frame.moment)) (samples_at store u) in
    let K : Fresh = window c.args.closed frame.moment.0 frame.range.0 (samples_at store s) in
    let item = c.index-walked-i.result in
    let S : Columns = (slice_index_or c.args.walked.now i item).samples in
    let cols : S ≡ columns_of K =
    ap (λ (z : SeriesWindow). z.samples) (sym c.index-walked-i.is ∙ walked_there F c.args.walked.now xs i item w.1 c.loop-i-test.true c.index-walked-i.is) in
    columns_some S K cols (sym c.has_some.ensures ∙ c.if-not-has_some.false)

pub over-requires-clause-times : goal.over-requires-clause-times
over-requires-clause-times c =
    let frame = c.args.frame.now in
    let store = c.args.store.now in
    let xs = c.args.series.now in
    let i = c.loop-i.i in
    let s : ℕ = get_or xs i 0 in
    let w = c.requires.walked in
    let F : ℕ → SeriesWindow = λ u. walked_at c.args.closed frame.range.0 (Some (w.0, frame.moment)) (samples_at store u) in
    let K : Fresh = window c.args.closed frame.moment.0 frame.range.0 (samples_at store s) in
    let item = c.index-walked-i.result in
    let S : Columns = (slice_index_or c.args.walked.now i item).samples in
    let cols : S ≡ columns_of K =
    ap (λ (z : SeriesWindow). z.samples) (sym c.index-walked-i.is ∙ walked_there F c.args.walked.now xs i item w.1 c.loop-i-test.true c.index-walked-i.is) in
    columns_framed c.args.closed frame (samples_at store s) S cols

pub loop-i-preserved : goal.loop-i-preserved
loop-i-preserved c =
    let frame = c.args.frame.now in
    let store = c.args.store.now in
    let xs = c.args.series.now in
    let i = c.loop-i.i in
    let s : ℕ = get_or xs i 0 in
    let w = c.requires.walked in
    let F : ℕ → SeriesWindow = λ u. walked_at c.args.closed frame.range.0 (Some (w.0, frame.moment)) (samples_at store u) in
    let K : Fresh = window c.args.closed frame.moment.0 frame.range.0 (samples_at store s) in
    let item = c.index-walked-i.result in
    let S : Columns = (slice_index_or c.args.walked.now i item).samples in
    let cols : S ≡ columns_of K =
    ap (λ (z : SeriesWindow). z.samples) (sym c.index-walked-i.is ∙ walked_there F c.args.walked.now xs i item w.1 c.loop-i-test.true c.index-walked-i.is) in
    let h : has_some (columns_of K) ≡ true = ap has_some (sym cols) ∙ sym c.has_some.ensures ∙ c.if-not-has_some.false in
    let R : ℕ → Option WindowRow = row_at c.args.closed frame store in
    let one : WindowRow = window_with (labels_at store s) S.times S.values in
    let same : one ≡ window_with (labels_at store s) (sample_times K) (sample_values K) = ap (λ (z : Columns). window_with (labels_at store s) z.times z.values) cols in
    let was = filter_map R (take i xs) in
    let more : was ++ one ∷ [] ≡ filter_map R (take (i + 1) xs) =
    ap (λ (z : WindowRow). was ++ z ∷ []) same ∙ rows_some R xs i (window_with (labels_at store s) (sample_times K) (sample_values K)) c.loop-i-test.true (row_some (labels_at store s) K h) in
    let placed = c.loop-i.placed.items in
    let now = c.push.new.self.items in
    let p : PlacedOutcome = record { place = i; value = c.in_ok-value.value } in
    let names = c.labels.result.now in
    let value = c.in_ok-value.value in
    let o : Option Note = if asks_counters c.args.f && has_value value then name_note (value_of names metric_name) else None in
    let note = note_is c.args.f frame c.args.arg.now one value names o c.in_ok-value.ensures c.labels.ensures.named refl in
    record {
      rising = rise_next placed now p i refl c.in_ok-push.ensures.items c.loop-i.invariant.rising;
      outcomes = given_next c.args.f frame c.args.arg.now (names_of store xs) was (filter_map R (take (i + 1) xs)) one placed now p (series_named store xs i c.loop-i-test.true) c.in_ok-value.ensures c.loop-i.invariant.outcomes c.in_ok-push.ensures.items more;
      text = search rules;
      told = c.in_ok-told.ensures.told;
      notes = notes_next c.args.f frame c.args.arg.now was (filter_map R (take (i + 1) xs)) one c.loop-i.notes c.tell.new.notes o c.loop-i.invariant.notes c.in_ok-told.ensures.notes note more;
    }

pub returns-clause-rising : goal.returns-clause-rising
returns-clause-rising c =
    let l = c.loop-i-test.false in
    rise_wider 0 c.loop-i.i (length c.args.series.now) c.loop-i.placed.items c.loop-i.invariant.rising (let h = c.loop-i.auto.i-end in omega arith)

pub returns-clause-outcomes : goal.returns-clause-outcomes
returns-clause-outcomes c =
    let frame = c.args.frame.now in
    let store = c.args.store.now in
    let xs = c.args.series.now in
    c.loop-i.invariant.outcomes ∙ ap (λ (zs : List ℕ). map (outcome_in c.args.f frame c.args.arg.now) (filter_map (row_at c.args.closed frame store) zs)) (take_all xs c.loop-i.i c.loop-i-test.false)
    ∙ ap (map (outcome_in c.args.f frame c.args.arg.now)) (rows_are c.args.closed frame store xs)

pub returns-clause-notes : goal.returns-clause-notes
returns-clause-notes c =
    let frame = c.args.frame.now in
    let store = c.args.store.now in
    let xs = c.args.series.now in
    c.loop-i.invariant.notes
    ∙ ap (λ (zs : List ℕ). set_of note_cmp (filter_map (note_in c.args.f frame c.args.arg.now) (filter_map (row_at c.args.closed frame store) zs))) (take_all xs c.loop-i.i c.loop-i-test.false)
    ∙ ap (λ (rows : List WindowRow). set_of note_cmp (filter_map (note_in c.args.f frame c.args.arg.now) rows)) (rows_are c.args.closed frame store xs)
