use Rattle.std.proofs.Common.{◌≡◌, ◌+◌, [], ◌∷◌, List, ℕ, Option, arith, refl, sym, subst}
use Rattle.std.proofs.lemmas.Result.{err_from_is_err_and}
use Rattle.promql_tool.specs.Chosen.{under}
use Rattle.promql_tool.specs.Found.{Just}
use Rattle.promql_tool.proofs.BoxLists.{kept_leaves}
use Rattle.promql_tool.proofs.FilesRun.{RunSoFar, ends_cut, next_cut, next_stopped, none_ran, none_run, one_more, stop_ends, stop_printed, totals_end, totals_printed}
use Rattle.promql_tool.proofs.WordsRun.{when_names}
use Rattle.promql_tool.proofs.files.run_text.Goals as goal

pub returns-in_err-totals-clause-ends : goal.returns-in_err-totals-clause-ends
returns-in_err-totals-clause-ends g c = λ tell.
    let path = c.args.path.now in
    let before = g.S.Sink.written c.args.out.now in
    let terms = under c.args.options.now.closed c.args.declared.now in
    let found = Just c.args.text.now in
    let now = g.S.Sink.written c.run_bytes.new.out in
    let run = none_run terms found (path ∷ []) before (Unit {0}) tt in
    let p = err_from_is_err_and c.from_residual.result c.from_residual.ensures.1 in
    rw p.1 (next_cut terms found (path ∷ []) before path [] before (Unit {0}) 0 0 run now (c.in_err-totals.ensures.cut tell))

pub returns-in_err-totals-clause-stopped : goal.returns-in_err-totals-clause-stopped
returns-in_err-totals-clause-stopped g c = λ tell.
    let path = c.args.path.now in
    let before = g.S.Sink.written c.args.out.now in
    let terms = under c.args.options.now.closed c.args.declared.now in
    let found = Just c.args.text.now in
    let now = g.S.Sink.written c.run_bytes.new.out in
    let run = none_run terms found (path ∷ []) before (Unit {0}) tt in
    let p = err_from_is_err_and c.from_residual.result c.from_residual.ensures.1 in
    rw (p.1, p.2) (when_names _ _ _ (λ s. next_stopped terms found (path ∷ []) before path [] before (Unit {0}) 0 0 run now s) (c.in_err-totals.ensures.stopped tell))

pub returns-in-Judged-clause-ends : goal.returns-in-Judged-clause-ends
returns-in-Judged-clause-ends g c = λ tell.
    let path = c.args.path.now in
    let before = g.S.Sink.written c.args.out.now in
    let terms = under c.args.options.now.closed c.args.declared.now in
    let found = Just c.args.text.now in
    let now = g.S.Sink.written c.run_bytes.new.out in
    let idle = c.run_bytes.new.work ≡ c.args.work.now in
    let totals = c.in-Judged.totals in
    let came = rw c.in-Judged.is at (c.in_ok-totals.ensures.ran tell) in
    let rests = rw c.in-Judged.is at c.in_ok-totals.ensures.rests in
    let passed : 0 + totals.passed ≡ c.from.result = omega (arith, c.from.ensures) in
    let failed : 0 + totals.failed ≡ c.from-in-Judged.result = omega (arith, c.from-in-Judged.ensures) in
    let run = one_more terms found (path ∷ []) before path [] before (Unit {0}) 0 0 (none_run terms found (path ∷ []) before (Unit {0}) tt) now totals idle came (λ none _. rests none) in
    let counted = subst (λ (n : ℕ). RunSoFar terms found (path ∷ []) [] before now idle c.from.result n) failed (subst (λ (n : ℕ). RunSoFar terms found (path ∷ []) [] before now idle n (0 + totals.failed)) passed run) in
    rw c.or_cut.ensures.is (ends_cut _ _ _ _ c.print_totals.result (totals_printed terms found (path ∷ []) before now idle c.from.result c.from-in-Judged.result counted (g.S.Sink.written c.print_totals.new.out) c.print_totals.result
    c.print_totals.ensures.ok c.print_totals.ensures.err))

pub returns-in-Stopped-clause-ends : goal.returns-in-Stopped-clause-ends
returns-in-Stopped-clause-ends g c = λ tell.
    let path = c.args.path.now in
    let before = g.S.Sink.written c.args.out.now in
    let terms = under c.args.options.now.closed c.args.declared.now in
    let found = Just c.args.text.now in
    let now = g.S.Sink.written c.run_bytes.new.out in
    let idle = c.run_bytes.new.work ≡ c.args.work.now in
    let came = rw c.in-Stopped.is at c.in_ok-totals.ensures.came in
    let run = subst (λ (w : Option (List ℕ)). RunSoFar terms found (path ∷ []) (path ∷ []) before w (Unit {0}) 0 0) (sym came.1) (none_run terms found (path ∷ []) before (Unit {0}) tt) in
    rw c.or_cut-in-Stopped.ensures.is (ends_cut _ _ _ _ c.print_stop.result (stop_printed terms found (path ∷ []) before path [] now (Unit {0}) 0 0 run c.in-Stopped.stop (g.S.Sink.written c.print_stop.new.out) idle c.print_stop.result came.0 (λ rests. came.2)
    c.print_stop.ensures.ok c.print_stop.ensures.err))

pub returns-in-Judged-clause-came : goal.returns-in-Judged-clause-came
returns-in-Judged-clause-came g c =
    let path = c.args.path.now in
    let before = g.S.Sink.written c.args.out.now in
    let terms = under c.args.options.now.closed c.args.declared.now in
    let found = Just c.args.text.now in
    let now = g.S.Sink.written c.run_bytes.new.out in
    let came = rw c.in-Judged.is at c.in_ok-totals.ensures.came in
    rw c.or_cut.ensures.is (totals_end terms found (path ∷ []) c.from-in-Judged.result (Unit {0}) _ (g.S.Sink.written c.print_totals.new.out) _ c.print_totals.result (record { hold = (came, tt); rests = λ none. tt }) c.print_totals.ensures.ok)

pub returns-in-Stopped-clause-came : goal.returns-in-Stopped-clause-came
returns-in-Stopped-clause-came g c =
    let path = c.args.path.now in
    let before = g.S.Sink.written c.args.out.now in
    let terms = under c.args.options.now.closed c.args.declared.now in
    let found = Just c.args.text.now in
    let now = g.S.Sink.written c.run_bytes.new.out in
    let came = rw c.in-Stopped.is at c.in_ok-totals.ensures.came in
    rw c.or_cut-in-Stopped.ensures.is (stop_ends terms found [] path [] (path ∷ []) c.in-Stopped.stop now (g.S.Sink.written c.print_stop.new.out) (Unit {0}) _ c.print_stop.result refl (none_ran terms found (Unit {0}) tt) came.0 (λ rests. came.2) c.print_stop.ensures.ok)

pub returns-in_err-totals-clause-boxes : goal.returns-in_err-totals-clause-boxes
returns-in_err-totals-clause-boxes g c =
    let p = err_from_is_err_and c.from_residual.result c.from_residual.ensures.1 in
    rw (p.1, p.2) (c.in_err-totals.ensures.boxes)

pub returns-in-Judged-clause-boxes : goal.returns-in-Judged-clause-boxes
returns-in-Judged-clause-boxes g c =
    kept_leaves _ _ c.or_cut.result c.or_cut.ensures.none c.in_ok-totals.ensures.boxes

pub returns-in-Stopped-clause-boxes : goal.returns-in-Stopped-clause-boxes
returns-in-Stopped-clause-boxes g c =
    kept_leaves _ _ c.or_cut-in-Stopped.result c.or_cut-in-Stopped.ensures.none c.in_ok-totals.ensures.boxes
