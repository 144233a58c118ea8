use Rattle.std.proofs.Common.{◌≡◌, ◌+◌, ◌++◌, ◌∷◌, List, ℕ, Option, drop, length, take, arith, refl, sym, ap, subst, ◌∙◌}
use Rattle.std.proofs.lemmas.List.{drop_all, take_all, take-append-drop}
use Rattle.std.proofs.lemmas.Result.{err_from_is_err_and}
use Rattle.edge_io.specs.Fetches.{Fetches}
use Rattle.promql_tool.specs.Chosen.{under}
use Rattle.promql_tool.specs.Found.{IsFound}
use Rattle.promql_tool.specs.declared.judge.FileEnd.TheVariants.{Judged, Stopped}
use Rattle.promql_tool.proofs.BoxLists.{but_since, kept_leaves, sound_since, still_itself, still_on}
use Rattle.promql_tool.proofs.Fetched.{fetched_next, front_fetched, next_file}
use Rattle.promql_tool.proofs.Fetching.{found_since}
use Rattle.promql_tool.proofs.FilesRun.{RanSoFar, RunSoFar, cut_reaches, ends_cut, next_cut, next_stopped, none_ran, none_run, one_more, one_ran, stop_ends, stop_printed, stop_reaches, totals_end, totals_printed, totals_reach}
use Rattle.promql_tool.proofs.Mapped.{comes_so, cut_so, ends_so, stopped_so}
use Rattle.promql_tool.specs.Spending.{FilesSpend, no_file_left, one_file_more}
use Rattle.promql_tool.proofs.Serving.{tell_on}
use Rattle.promql_tool.proofs.Spending.{file_so}
use Rattle.promql_tool.proofs.WordsRun.{when_names}
use Rattle.promql_tool.proofs.files.run_files.Goals as goal

pub returns-in_err-totals-clause-fetched : goal.returns-in_err-totals-clause-fetched
returns-in_err-totals-clause-fetched g c =
    let i = c.loop-file.file-index in
    front_fetched _ g.L.Library.fetches c.args.files.now (i + 1) c.args.library.now c.run_file.new.library
    (fetched_next _ g.L.Library.fetches c.args.files.now i c.file-item.result c.as_str-path.result.now c.args.library.now c.loop-file.library c.run_file.new.library c.loop-file-test.true
    c.as_str-path.ensures c.file-item.is c.loop-file.invariant.fetched c.run_file.ensures.fetched)

pub returns-in_err-totals-clause-ends : goal.returns-in_err-totals-clause-ends
returns-in_err-totals-clause-ends g c = λ tell.
    let files = c.args.files.now in
    let i = c.loop-file.file-index in
    let path = c.as_str-path.result.now in
    let before = g.S.Sink.written c.args.out.now in
    let mid = g.S.Sink.written c.loop-file.out in
    let now = g.S.Sink.written c.run_file.new.out in
    let idle = c.loop-file.work ≡ c.args.work.now in
    let later = IsFound (g.L.Library.told c.loop-file.library) (g.L.Library.sound c.loop-file.library) in
    let found = IsFound (g.L.Library.told c.args.library.now) (g.L.Library.sound c.args.library.now) in
    let terms = under c.args.options.now.closed c.args.declared.now in
    let here = next_file files i c.file-item.result path c.loop-file-test.true c.as_str-path.ensures c.file-item.is in
    let run = subst (λ (left : List (List ℕ)). RunSoFar terms found files left before mid idle c.loop-file.tally.passed c.loop-file.tally.failed) here (c.loop-file.invariant.run tell) in
    let to = found_since _ _ _ _ c.loop-file.invariant.told c.loop-file.invariant.library_sound path in
    let tell_mid = tell_on (length c.args.declared.now) _ _ c.loop-file.invariant.kept tell in
    let cut = cut_so later found path to terms mid now ((rw c.loop-file.invariant.labels at c.in_err-totals.ensures.cut) tell_mid) in
    let p = err_from_is_err_and c.from_residual.result c.from_residual.ensures.1 in
    rw p.1 (next_cut terms found files before path (drop (i + 1) files) mid _ _ _ run now cut)

pub returns-in-Stopped-clause-fetched : goal.returns-in-Stopped-clause-fetched
returns-in-Stopped-clause-fetched g c =
    let i = c.loop-file.file-index in
    front_fetched _ g.L.Library.fetches c.args.files.now (i + 1) c.args.library.now c.run_file.new.library
    (fetched_next _ g.L.Library.fetches c.args.files.now i c.file-item.result c.as_str-path.result.now c.args.library.now c.loop-file.library c.run_file.new.library c.loop-file-test.true
    c.as_str-path.ensures c.file-item.is c.loop-file.invariant.fetched c.run_file.ensures.fetched)

pub returns-in-Stopped-clause-ends : goal.returns-in-Stopped-clause-ends
returns-in-Stopped-clause-ends g c = λ tell.
    let files = c.args.files.now in
    let i = c.loop-file.file-index in
    let path = c.as_str-path.result.now in
    let before = g.S.Sink.written c.args.out.now in
    let mid = g.S.Sink.written c.loop-file.out in
    let now = g.S.Sink.written c.run_file.new.out in
    let idle = c.loop-file.work ≡ c.args.work.now in
    let later = IsFound (g.L.Library.told c.loop-file.library) (g.L.Library.sound c.loop-file.library) in
    let found = IsFound (g.L.Library.told c.args.library.now) (g.L.Library.sound c.args.library.now) in
    let terms = under c.args.options.now.closed c.args.declared.now in
    let here = next_file files i c.file-item.result path c.loop-file-test.true c.as_str-path.ensures c.file-item.is in
    let run = subst (λ (left : List (List ℕ)). RunSoFar terms found files left before mid idle c.loop-file.tally.passed c.loop-file.tally.failed) here (c.loop-file.invariant.run tell) in
    let to = found_since _ _ _ _ c.loop-file.invariant.told c.loop-file.invariant.library_sound path in
    let came = ends_so later found path to terms mid now (c.run_file.new.work ≡ c.loop-file.work) (Stopped c.in-Stopped.stop) (rw (c.in-Stopped.is, c.loop-file.invariant.labels) at c.in_ok-totals.ensures.came) in
    let run_on = subst (λ (w : Option (List ℕ)). RunSoFar terms found files (path ∷ drop (i + 1) files) before w idle c.loop-file.tally.passed c.loop-file.tally.failed) (sym came.1) run in
    rw c.or_cut.ensures.is (ends_cut _ _ _ _ c.print_stop.result (stop_printed terms found files before path (drop (i + 1) files) now idle _ _ run_on c.in-Stopped.stop (g.S.Sink.written c.print_stop.new.out) _ c.print_stop.result came.0 (λ rests. came.2 ∙ rests)
    c.print_stop.ensures.ok c.print_stop.ensures.err))

pub loop-file-init : goal.loop-file-init
loop-file-init g c =
    let found = IsFound (g.L.Library.told c.args.library.now) (g.L.Library.sound c.args.library.now) in
    let terms = under c.args.options.now.closed c.args.declared.now in
    record {
      run = λ tell. none_run terms found c.args.files.now (g.S.Sink.written c.args.out.now) (c.args.work.now ≡ c.args.work.now) refl;
      ran = none_ran terms found (c.args.work.now ≡ c.args.work.now) refl;
      unmoved = λ some. record { fetched = omega arith; probed = omega arith; tested = omega arith };
      kept = still_itself _;
      labels = refl;
      ready = c.requires.ready;
      few_passed = omega arith;
      few_failed = omega arith;
      fetched = refl;
      told = refl;
      library_sound = λ s. s;
      library_later = omega arith;
      sound = λ s. s;
      later = omega arith;
      spent = λ none after more. more;
    }

pub loop-file-preserved : goal.loop-file-preserved
loop-file-preserved g c =
    let files = c.args.files.now in
    let i = c.loop-file.file-index in
    let path = c.as_str-path.result.now in
    let before = g.S.Sink.written c.args.out.now in
    let mid = g.S.Sink.written c.loop-file.out in
    let now = g.S.Sink.written c.run_file.new.out in
    let idle = c.loop-file.work ≡ c.args.work.now in
    let later_idle = c.run_file.new.work ≡ c.args.work.now in
    let later = IsFound (g.L.Library.told c.loop-file.library) (g.L.Library.sound c.loop-file.library) in
    let found = IsFound (g.L.Library.told c.args.library.now) (g.L.Library.sound c.args.library.now) in
    let terms = under c.args.options.now.closed c.args.declared.now in
    let totals = c.in-Judged.totals in
    let tally = c.loop-file.tally in
    let here = next_file files i c.file-item.result path c.loop-file-test.true c.as_str-path.ensures c.file-item.is in
    let to = found_since _ _ _ _ c.loop-file.invariant.told c.loop-file.invariant.library_sound path in
    let rests = rw c.in-Judged.is at c.in_ok-totals.ensures.rests in
    let sums = c.with-tally.ensures in
    let left_boxes = c.in_ok-totals.ensures.boxes in
    record {
      run = λ tell.
          let run = subst (λ (left : List (List ℕ)). RunSoFar terms found files left before mid idle tally.passed tally.failed) here (c.loop-file.invariant.run tell) in
          let tell_mid = tell_on (length c.args.declared.now) _ _ c.loop-file.invariant.kept tell in
          let came = comes_so later found path to terms mid now (c.run_file.new.work ≡ c.loop-file.work) (Judged totals) ((rw (c.in-Judged.is, c.loop-file.invariant.labels) at c.in_ok-totals.ensures.ran) tell_mid) in
          let more = one_more terms found files before path (drop (i + 1) files) mid idle tally.passed tally.failed run now totals later_idle came (λ none before_it. rests none ∙ before_it) in
          subst (λ (n : ℕ). RunSoFar terms found files (drop (i + 1) files) before now later_idle n c.with-tally.result.failed) (sym sums.passed)
          (subst (λ (n : ℕ). RunSoFar terms found files (drop (i + 1) files) before now later_idle (tally.passed + totals.passed) n) (sym sums.failed) more);
      ran = one_ran terms found files i c.file-item.result path idle later_idle c.loop-file-test.true c.as_str-path.ensures c.file-item.is c.loop-file.invariant.ran
          (ends_so later found path to terms mid now (c.run_file.new.work ≡ c.loop-file.work) (Judged totals) (rw (c.in-Judged.is, c.loop-file.invariant.labels) at c.in_ok-totals.ensures.came));
      unmoved = λ some. (let a = c.loop-file.invariant.unmoved some in let b = c.run_file.ensures.unmoved (rw (sym c.loop-file.invariant.labels) at some) in
          record { fetched = omega (arith, a.fetched, b.fetched); probed = omega (arith, a.probed, b.probed); tested = omega (arith, a.tested, b.tested) });
      kept = still_on _ _ _ c.loop-file.invariant.kept left_boxes;
      labels = c.in_ok-totals.ensures.labels ∙ c.loop-file.invariant.labels;
      ready = rw c.in_ok-totals.ensures.labels c.in_ok-totals.ensures.ready;
      few_passed = omega (arith, sums.few_passed);
      few_failed = omega (arith, sums.few_failed);
      fetched = fetched_next _ g.L.Library.fetches files i c.file-item.result path c.args.library.now c.loop-file.library c.run_file.new.library c.loop-file-test.true
          c.as_str-path.ensures c.file-item.is c.loop-file.invariant.fetched c.run_file.ensures.fetched;
      told = c.run_file.ensures.told ∙ c.loop-file.invariant.told;
      library_sound = λ s. c.run_file.ensures.library_sound (c.loop-file.invariant.library_sound s);
      library_later = omega (arith, c.run_file.ensures.later);
      sound = λ s. c.run_file.ensures.sound (c.loop-file.invariant.sound s);
      later = omega (arith, c.run_file.ensures.cause.later);
      spent = λ none after rest. c.loop-file.invariant.spent none after (subst (λ (left : List (List ℕ)). FilesSpend c.args.options.now found left c.loop-file.work after) (sym here)
          (one_file_more path (drop (i + 1) files) c.loop-file.work c.run_file.new.work after (file_so c.args.options.now later found path to c.loop-file.work c.run_file.new.work (c.run_file.ensures.bounded (c.loop-file.invariant.labels ∙ none))) rest));
    }

pub returns-clause-ends : goal.returns-clause-ends
returns-clause-ends g c = λ tell.
    let files = c.args.files.now in
    let found = IsFound (g.L.Library.told c.args.library.now) (g.L.Library.sound c.args.library.now) in
    let terms = under c.args.options.now.closed c.args.declared.now in
    let before = g.S.Sink.written c.args.out.now in
    let mid = g.S.Sink.written c.loop-file.out in
    let idle = c.loop-file.work ≡ c.args.work.now in
    let tally = c.loop-file.tally in
    let none = drop_all c.loop-file.file-index files c.loop-file-test.false in
    let run = subst (λ (left : List (List ℕ)). RunSoFar terms found files left before mid idle tally.passed tally.failed) none (c.loop-file.invariant.run tell) in
    rw c.or_cut-2.ensures.is (ends_cut _ _ _ _ c.print_totals.result (totals_printed terms found files before mid idle tally.passed tally.failed run (g.S.Sink.written c.print_totals.new.out) c.print_totals.result c.print_totals.ensures.ok c.print_totals.ensures.err))

pub returns-in_err-totals-clause-reached : goal.returns-in_err-totals-clause-reached
returns-in_err-totals-clause-reached g c = λ tell.
    let files = c.args.files.now in
    let i = c.loop-file.file-index in
    let path = c.as_str-path.result.now in
    let before = g.S.Sink.written c.args.out.now in
    let mid = g.S.Sink.written c.loop-file.out in
    let now = g.S.Sink.written c.run_file.new.out in
    let idle = c.loop-file.work ≡ c.args.work.now in
    let later = IsFound (g.L.Library.told c.loop-file.library) (g.L.Library.sound c.loop-file.library) in
    let found = IsFound (g.L.Library.told c.args.library.now) (g.L.Library.sound c.args.library.now) in
    let terms = under c.args.options.now.closed c.args.declared.now in
    let here = next_file files i c.file-item.result path c.loop-file-test.true c.as_str-path.ensures c.file-item.is in
    let run = subst (λ (left : List (List ℕ)). RunSoFar terms found files left before mid idle c.loop-file.tally.passed c.loop-file.tally.failed) here (c.loop-file.invariant.run tell) in
    let to = found_since _ _ _ _ c.loop-file.invariant.told c.loop-file.invariant.library_sound path in
    let tell_mid = tell_on (length c.args.declared.now) _ _ c.loop-file.invariant.kept tell in
    let cut = cut_so later found path to terms mid now ((rw c.loop-file.invariant.labels at c.in_err-totals.ensures.cut) tell_mid) in
    let fetched = fetched_next _ g.L.Library.fetches files i c.file-item.result path c.args.library.now c.loop-file.library c.run_file.new.library c.loop-file-test.true
    c.as_str-path.ensures c.file-item.is c.loop-file.invariant.fetched c.run_file.ensures.fetched in
    let p = err_from_is_err_and c.from_residual.result c.from_residual.ensures.1 in
    rw p.1 (cut_reaches _ g.L.Library.fetches c.args.library.now c.run_file.new.library terms found files before mid _ _ _ i path run fetched now _ p.0 cut)

pub returns-in-Stopped-clause-reached : goal.returns-in-Stopped-clause-reached
returns-in-Stopped-clause-reached g c = λ tell.
    let files = c.args.files.now in
    let i = c.loop-file.file-index in
    let path = c.as_str-path.result.now in
    let before = g.S.Sink.written c.args.out.now in
    let mid = g.S.Sink.written c.loop-file.out in
    let now = g.S.Sink.written c.run_file.new.out in
    let idle = c.loop-file.work ≡ c.args.work.now in
    let later = IsFound (g.L.Library.told c.loop-file.library) (g.L.Library.sound c.loop-file.library) in
    let found = IsFound (g.L.Library.told c.args.library.now) (g.L.Library.sound c.args.library.now) in
    let terms = under c.args.options.now.closed c.args.declared.now in
    let here = next_file files i c.file-item.result path c.loop-file-test.true c.as_str-path.ensures c.file-item.is in
    let run = subst (λ (left : List (List ℕ)). RunSoFar terms found files left before mid idle c.loop-file.tally.passed c.loop-file.tally.failed) here (c.loop-file.invariant.run tell) in
    let to = found_since _ _ _ _ c.loop-file.invariant.told c.loop-file.invariant.library_sound path in
    let came = ends_so later found path to terms mid now (c.run_file.new.work ≡ c.loop-file.work) (Stopped c.in-Stopped.stop) (rw (c.in-Stopped.is, c.loop-file.invariant.labels) at c.in_ok-totals.ensures.came) in
    let run_on = subst (λ (w : Option (List ℕ)). RunSoFar terms found files (path ∷ drop (i + 1) files) before w idle c.loop-file.tally.passed c.loop-file.tally.failed) (sym came.1) run in
    let fetched = fetched_next _ g.L.Library.fetches files i c.file-item.result path c.args.library.now c.loop-file.library c.run_file.new.library c.loop-file-test.true
    c.as_str-path.ensures c.file-item.is c.loop-file.invariant.fetched c.run_file.ensures.fetched in
    rw c.or_cut.ensures.is (stop_reaches _ g.L.Library.fetches c.args.library.now c.run_file.new.library terms found files before now idle _ _ i path run_on fetched c.in-Stopped.stop (g.S.Sink.written c.print_stop.new.out) _ c.print_stop.result came.0
    (λ rests. came.2 ∙ rests) c.print_stop.ensures.ok c.print_stop.ensures.err)

pub returns-clause-reached : goal.returns-clause-reached
returns-clause-reached g c = λ tell.
    let files = c.args.files.now in
    let found = IsFound (g.L.Library.told c.args.library.now) (g.L.Library.sound c.args.library.now) in
    let terms = under c.args.options.now.closed c.args.declared.now in
    let before = g.S.Sink.written c.args.out.now in
    let mid = g.S.Sink.written c.loop-file.out in
    let idle = c.loop-file.work ≡ c.args.work.now in
    let tally = c.loop-file.tally in
    let none = drop_all c.loop-file.file-index files c.loop-file-test.false in
    let run = subst (λ (left : List (List ℕ)). RunSoFar terms found files left before mid idle tally.passed tally.failed) none (c.loop-file.invariant.run tell) in
    let fetched = subst (λ (ps : List (List ℕ)). Fetches g.L.Library.fetches ps c.args.library.now c.loop-file.library) (take_all c.loop-file.file-index files c.loop-file-test.false) c.loop-file.invariant.fetched in
    rw c.or_cut-2.ensures.is (totals_reach _ g.L.Library.fetches c.args.library.now c.loop-file.library terms found files before mid idle tally.passed tally.failed run fetched (g.S.Sink.written c.print_totals.new.out) idle c.print_totals.result c.print_totals.ensures.ok c.print_totals.ensures.err)

pub returns-in-Stopped-clause-came : goal.returns-in-Stopped-clause-came
returns-in-Stopped-clause-came g c =
    let files = c.args.files.now in
    let i = c.loop-file.file-index in
    let path = c.as_str-path.result.now in
    let mid = g.S.Sink.written c.loop-file.out in
    let now = g.S.Sink.written c.run_file.new.out in
    let idle = c.loop-file.work ≡ c.args.work.now in
    let later = IsFound (g.L.Library.told c.loop-file.library) (g.L.Library.sound c.loop-file.library) in
    let found = IsFound (g.L.Library.told c.args.library.now) (g.L.Library.sound c.args.library.now) in
    let terms = under c.args.options.now.closed c.args.declared.now in
    let here = next_file files i c.file-item.result path c.loop-file-test.true c.as_str-path.ensures c.file-item.is in
    let to = found_since _ _ _ _ c.loop-file.invariant.told c.loop-file.invariant.library_sound path in
    let came = ends_so later found path to terms mid now (c.run_file.new.work ≡ c.loop-file.work) (Stopped c.in-Stopped.stop) (rw (c.in-Stopped.is, c.loop-file.invariant.labels) at c.in_ok-totals.ensures.came) in
    let parts = ap (λ (l : List (List ℕ)). take i files ++ l) (sym here) ∙ take-append-drop i files in
    rw c.or_cut.ensures.is (stop_ends terms found (take i files) path (drop (i + 1) files) files c.in-Stopped.stop now (g.S.Sink.written c.print_stop.new.out) idle _ c.print_stop.result parts c.loop-file.invariant.ran came.0 (λ rests. came.2 ∙ rests) c.print_stop.ensures.ok)

pub returns-clause-came : goal.returns-clause-came
returns-clause-came g c =
    let files = c.args.files.now in
    let found = IsFound (g.L.Library.told c.args.library.now) (g.L.Library.sound c.args.library.now) in
    let terms = under c.args.options.now.closed c.args.declared.now in
    let idle = c.loop-file.work ≡ c.args.work.now in
    let ran = subst (λ (ps : List (List ℕ)). RanSoFar terms found ps idle) (take_all c.loop-file.file-index files c.loop-file-test.false) c.loop-file.invariant.ran in
    rw c.or_cut-2.ensures.is (totals_end terms found files c.loop-file.tally.failed idle _ (g.S.Sink.written c.print_totals.new.out) _ c.print_totals.result ran c.print_totals.ensures.ok)

pub returns-in_err-totals-clause-stopped : goal.returns-in_err-totals-clause-stopped
returns-in_err-totals-clause-stopped g c = λ tell.
    let files = c.args.files.now in
    let i = c.loop-file.file-index in
    let path = c.as_str-path.result.now in
    let before = g.S.Sink.written c.args.out.now in
    let mid = g.S.Sink.written c.loop-file.out in
    let now = g.S.Sink.written c.run_file.new.out in
    let idle = c.loop-file.work ≡ c.args.work.now in
    let later = IsFound (g.L.Library.told c.loop-file.library) (g.L.Library.sound c.loop-file.library) in
    let found = IsFound (g.L.Library.told c.args.library.now) (g.L.Library.sound c.args.library.now) in
    let terms = under c.args.options.now.closed c.args.declared.now in
    let here = next_file files i c.file-item.result path c.loop-file-test.true c.as_str-path.ensures c.file-item.is in
    let run = subst (λ (left : List (List ℕ)). RunSoFar terms found files left before mid idle c.loop-file.tally.passed c.loop-file.tally.failed) here (c.loop-file.invariant.run tell) in
    let to = found_since _ _ _ _ c.loop-file.invariant.told c.loop-file.invariant.library_sound path in
    let tell_mid = tell_on (length c.args.declared.now) _ _ c.loop-file.invariant.kept tell in
    let p = err_from_is_err_and c.from_residual.result c.from_residual.ensures.1 in
    rw (p.1, p.2) (when_names _ _ _ (λ s. next_stopped terms found files before path (drop (i + 1) files) mid _ _ _ run now (stopped_so later found path to terms mid now s)) ((rw c.loop-file.invariant.labels at c.in_err-totals.ensures.stopped) tell_mid))

pub returns-in_err-totals-clause-boxes : goal.returns-in_err-totals-clause-boxes
returns-in_err-totals-clause-boxes g c =
    let p = err_from_is_err_and c.from_residual.result c.from_residual.ensures.1 in
    rw (p.1, p.2) (but_since _ _ _ _ c.loop-file.invariant.kept c.in_err-totals.ensures.boxes)

pub returns-in-Stopped-clause-boxes : goal.returns-in-Stopped-clause-boxes
returns-in-Stopped-clause-boxes g c =
    kept_leaves _ _ c.or_cut.result c.or_cut.ensures.none (still_on _ _ _ c.loop-file.invariant.kept c.in_ok-totals.ensures.boxes)

pub returns-clause-boxes : goal.returns-clause-boxes
returns-clause-boxes g c =
    kept_leaves _ _ c.or_cut-2.result c.or_cut-2.ensures.none c.loop-file.invariant.kept

pub returns-in_err-totals-clause-sure : goal.returns-in_err-totals-clause-sure
returns-in_err-totals-clause-sure g c = λ tell.
    let tell_mid = tell_on (length c.args.declared.now) _ _ c.loop-file.invariant.kept tell in
    let p = err_from_is_err_and c.from_residual.result c.from_residual.ensures.1 in
    λ sound. rw (p.1, p.2) ((rw c.loop-file.invariant.labels at c.in_err-totals.ensures.sure) tell_mid (sound_since (length c.args.declared.now) _ _ c.loop-file.invariant.kept sound))

pub returns-in_err-totals-clause-bounded : goal.returns-in_err-totals-clause-bounded
returns-in_err-totals-clause-bounded g c = λ none.
    let files = c.args.files.now in
    let i = c.loop-file.file-index in
    let path = c.as_str-path.result.now in
    let options = c.args.options.now in
    let later = IsFound (g.L.Library.told c.loop-file.library) (g.L.Library.sound c.loop-file.library) in
    let found = IsFound (g.L.Library.told c.args.library.now) (g.L.Library.sound c.args.library.now) in
    let mid = c.loop-file.work in
    let now = c.run_file.new.work in
    let here = next_file files i c.file-item.result path c.loop-file-test.true c.as_str-path.ensures c.file-item.is in
    let spends = file_so options later found path (found_since _ _ _ _ c.loop-file.invariant.told c.loop-file.invariant.library_sound path) mid now (c.run_file.ensures.bounded (c.loop-file.invariant.labels ∙ none)) in
    c.loop-file.invariant.spent none now (subst (λ (left : List (List ℕ)). FilesSpend options found left mid now) (sym here) (one_file_more path (drop (i + 1) files) mid now now spends (no_file_left (drop (i + 1) files) now)))

pub returns-in-Stopped-clause-bounded : goal.returns-in-Stopped-clause-bounded
returns-in-Stopped-clause-bounded g c = λ none.
    let files = c.args.files.now in
    let i = c.loop-file.file-index in
    let path = c.as_str-path.result.now in
    let options = c.args.options.now in
    let later = IsFound (g.L.Library.told c.loop-file.library) (g.L.Library.sound c.loop-file.library) in
    let found = IsFound (g.L.Library.told c.args.library.now) (g.L.Library.sound c.args.library.now) in
    let mid = c.loop-file.work in
    let now = c.run_file.new.work in
    let here = next_file files i c.file-item.result path c.loop-file-test.true c.as_str-path.ensures c.file-item.is in
    let spends = file_so options later found path (found_since _ _ _ _ c.loop-file.invariant.told c.loop-file.invariant.library_sound path) mid now (c.run_file.ensures.bounded (c.loop-file.invariant.labels ∙ none)) in
    c.loop-file.invariant.spent none now (subst (λ (left : List (List ℕ)). FilesSpend options found left mid now) (sym here) (one_file_more path (drop (i + 1) files) mid now now spends (no_file_left (drop (i + 1) files) now)))

pub returns-clause-bounded : goal.returns-clause-bounded
returns-clause-bounded g c =
    λ none. c.loop-file.invariant.spent none c.loop-file.work (no_file_left (drop c.loop-file.file-index c.args.files.now) c.loop-file.work)

pub returns-in_err-totals-clause-unmoved : goal.returns-in_err-totals-clause-unmoved
returns-in_err-totals-clause-unmoved g c =
    λ some. (let a = c.loop-file.invariant.unmoved some in let b = c.run_file.ensures.unmoved (rw (sym c.loop-file.invariant.labels) at some) in
    record { fetched = omega (arith, a.fetched, b.fetched); probed = omega (arith, a.probed, b.probed); tested = omega (arith, a.tested, b.tested) })

pub returns-in-Stopped-clause-unmoved : goal.returns-in-Stopped-clause-unmoved
returns-in-Stopped-clause-unmoved g c =
    λ some. (let a = c.loop-file.invariant.unmoved some in let b = c.run_file.ensures.unmoved (rw (sym c.loop-file.invariant.labels) at some) in
    record { fetched = omega (arith, a.fetched, b.fetched); probed = omega (arith, a.probed, b.probed); tested = omega (arith, a.tested, b.tested) })
