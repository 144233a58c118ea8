use Rattle.std.proofs.Common.{◌∙◌, ◌++◌, ◌∷◌, [], ℕ, length, sym, ap, subst}
use Rattle.std.specs.Prelude.{List, Option}
use Rattle.std.proofs.lemmas.Result.{on_ok_weaker}
use Rattle.promql_meaning.specs.Givens.{by_value}
use Rattle.promql_meaning.specs.Ranges.{windowed}
use Rattle.sample_store.specs.Samples.{Names, labels_at}
use Rattle.step_batch.specs.Lent.{stages}
use Rattle.step_put.specs.Placed.{PlacesRise}
use Rattle.step_put.specs.declared.placed.PlacedOutcome.{PlacedOutcome}
use Rattle.step_table.specs.declared.step.Step.{Step}
use Rattle.step_table.specs.declared.windows.WindowRow.{WindowRow}
use Rattle.xfrac.specs.declared.value.XFrac.{XFrac}
use Rattle.op_window.specs.Rules.{names_of, outcomes_given, rows_of_series, windows_in}
use Rattle.op_window.proofs.PlacesMade.{put_made}
use Rattle.op_window.proofs.WindowRowsMade.{mapped_length}
use Rattle.op_window.proofs.step.put_series.Goals as goal

pub put_made-requires-clause-rising : goal.put_made-requires-clause-rising
put_made-requires-clause-rising c =
    let frame = c.args.frame.now in
    let names : List Names = names_of c.args.store.now c.args.series.now in
    let placed : List PlacedOutcome = c.as_slice.result.now in
    let rising : PlacesRise 0 (length names) placed = subst (λ (n : ℕ). PlacesRise 0 n placed) (sym (mapped_length (labels_at c.args.store.now) c.args.series.now)) (subst (PlacesRise 0 (length c.args.series.now)) (sym c.as_slice.ensures.value) c.in_ok-notes-in-Some.ensures.rising) in
    subst (λ (ns : List Names). PlacesRise 0 (length ns) placed) (sym c.requires.named) rising

pub returns-in_ok-notes-in-Some-clause-lent : goal.returns-in_ok-notes-in-Some-clause-lent
returns-in_ok-notes-in-Some-clause-lent c =
    let frame = c.args.frame.now in
    let names : List Names = names_of c.args.store.now c.args.series.now in
    let placed : List PlacedOutcome = c.as_slice.result.now in
    let rising : PlacesRise 0 (length names) placed = subst (λ (n : ℕ). PlacesRise 0 n placed) (sym (mapped_length (labels_at c.args.store.now) c.args.series.now)) (subst (PlacesRise 0 (length c.args.series.now)) (sym c.as_slice.ensures.value) c.in_ok-notes-in-Some.ensures.rising) in
    let rows : List WindowRow = rows_of_series c.args.closed frame c.args.store.now c.args.series.now in
    let marks = c.args.scalar.marks in
    let told = c.in_ok-notes-in-Some.ensures in
    let outcomes = ap (outcomes_given c.args.f names) c.as_slice.ensures.value ∙ told.outcomes in
    let step = put_made c.args.f frame c.in-Some.arg rows marks c.args.rows.now.left c.args.rows.now.fed names placed c.in_ok-notes-in-Some.notes c.requires.left c.requires.named rising outcomes told.notes
    ∙ ap (λ (v : Option XFrac). by_value v marks (λ (a : XFrac). windowed c.args.f frame.eval.0 a (windows_in frame rows marks))) (sym c.in-Some.is) in
    on_ok_weaker c.put_made.result (λ e. e ∙ ap (λ (z : Step). stages c.args.rows.now.lent ++ record { at = frame.eval; step = z } ∷ []) step) c.put_made.ensures.lent

pub returns-in-None-clause-lent : goal.returns-in-None-clause-lent
returns-in-None-clause-lent c =
    let frame = c.args.frame.now in
    let rows : List WindowRow = rows_of_series c.args.closed frame c.args.store.now c.args.series.now in
    let marks = c.args.scalar.marks in
    let step = ap (λ (v : Option XFrac). by_value v marks (λ (a : XFrac). windowed c.args.f frame.eval.0 a (windows_in frame rows marks))) (sym c.in-None.is) in
    on_ok_weaker c.put_none.result (λ e. e ∙ ap (λ (z : Step). stages c.args.rows.now.lent ++ record { at = frame.eval; step = z } ∷ []) step) c.put_none.ensures.lent
