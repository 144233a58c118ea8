use Rattle.std.proofs.Common.{◌∙◌, ◌∷◌, [], ap, sym}
use Rattle.std.specs.Prelude.{List, slice_get}
use Rattle.std.specs.Option.{option_map}
use Rattle.std.specs.Map.{keys_of}
use Rattle.step_table.specs.declared.windows.WindowRow.{WindowRow}
use Rattle.step_batch.specs.LentWindows.{window_with, windows_of}
use Rattle.step_batch.proofs.Places.{place_found}
use Rattle.step_batch.proofs.Rows.{labels_free, labels_kept, labels_there, last_there, sample_last, sample_there}
use Rattle.step_batch.proofs.window_buffer.add_in.Goals as goal

pub put_in-requires-clause-fresh : goal.put_in-requires-clause-fresh
put_in-requires-clause-fresh c = labels_free c.args.labels.now c.args.rows.now.entries c.in-None.ensures.found

pub returns-in_ok-lengthen_at-in-Some-clause-ok : goal.returns-in_ok-lengthen_at-in-Some-clause-ok
returns-in_ok-lengthen_at-in-Some-clause-ok c =
    let es = c.args.rows.now.entries in
    c.in_ok-lengthen_at-in-Some.ensures.ok
    ∙ sym (sample_there es c.args.labels.now c.in-Some.place c.args.at c.args.value c.get_index_of.ensures.unique (place_found c.args.labels.now (keys_of es) c.in-Some.place c.in-Some.ensures.index))

pub returns-in_ok-lengthen_at-in-Some-clause-place : goal.returns-in_ok-lengthen_at-in-Some-clause-place
returns-in_ok-lengthen_at-in-Some-clause-place c =
    let es = c.args.rows.now.entries in
    let i = c.in-Some.place in
    ap (λ (rows : List WindowRow). option_map (λ (w : WindowRow). w.labels) (slice_get rows i)) c.in_ok-lengthen_at-in-Some.ensures.ok
    ∙ labels_kept (windows_of es) i c.args.at c.args.value ∙ labels_there es i ∙ place_found c.args.labels.now (keys_of es) i c.in-Some.ensures.index

pub returns-in_ok-place-in-None-clause-ok : goal.returns-in_ok-place-in-None-clause-ok
returns-in_ok-place-in-None-clause-ok c =
    let es = c.args.rows.now.entries in
    c.in_ok-place-in-None.ensures.ok ∙ sym (sample_last (windows_of es) c.args.labels.now c.args.at c.args.value (labels_free c.args.labels.now es c.in-None.ensures.found))

pub returns-in_ok-place-in-None-clause-place : goal.returns-in_ok-place-in-None-clause-place
returns-in_ok-place-in-None-clause-place c =
    let es = c.args.rows.now.entries in
    let w : WindowRow = window_with c.args.labels.now (c.args.at ∷ []) (c.args.value ∷ []) in
    let i = c.in_ok-place-in-None.place in
    ap (λ (rows : List WindowRow). option_map (λ (r : WindowRow). r.labels) (slice_get rows i)) c.in_ok-place-in-None.ensures.ok
    ∙ ap (option_map (λ (r : WindowRow). r.labels)) (last_there (windows_of es) w i c.in_ok-place-in-None.ensures.place)
