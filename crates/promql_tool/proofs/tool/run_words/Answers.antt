use Rattle.std.proofs.Common.{◌≡◌, ◌∙◌, List, ℕ, Some, length, map, string_bytes, refl, sym, ap, subst, arith}
use Rattle.std.proofs.lemmas.Result.{err_from_is_err_and}
use Rattle.tool_words.specs.Asked.{asked, explain, format, query, test, workload}
use Rattle.ticks.specs.Moments.{moments_in}
use Rattle.promql_tool.specs.Ends.{unwritten}
use Rattle.promql_tool.specs.Found.{IsFound, Just}
use Rattle.promql_tool.specs.Reached.{files, no_file, no_memory, one_file, undeclared}
use Rattle.promql_tool.specs.Report.{AsksToPrint, files_asked}
use Rattle.promql_tool.proofs.BoxLists.{kept_itself, kept_leaves, leaves_since, sound_since, still_itself}
use Rattle.promql_tool.proofs.FilesRun.{ends_cut}
use Rattle.promql_tool.proofs.Serving.{none_by_words, some_by_words, sound_by, tell_by, tell_on}
use Rattle.promql_tool.proofs.WordsRun.{cut_one_of, explain_end, explain_ended, files_end, files_ended, files_stopped, format_end, format_ended, lost_any, misuse_ended, misuse_ends, one_fetched, query_end, query_ended, unwritten_stopped, workload_end, workload_ended, workload_stopped}
use Rattle.query_engine.specs.declared.options.Options.{Options}
use Rattle.promql_tool.specs.Spending.{FileSpends, FilesSpend, QuerySpends, no_evaluation, queries, tests, works}
use Rattle.promql_tool.specs.Workload.{workload_path, workload_text}
use Rattle.promql_tool.proofs.tool.run_words.Goals as goal

pub returns-in_err-read_words-clause-reached : goal.returns-in_err-read_words-clause-reached
returns-in_err-read_words-clause-reached g c = λ tell.
    let p = err_from_is_err_and c.from_residual.result c.from_residual.ensures.1 in
    rw (p.1, p.2) (no_memory refl refl refl)

pub returns-in_err-read_words-clause-ends : goal.returns-in_err-read_words-clause-ends
returns-in_err-read_words-clause-ends g c = λ tell.
    let p = err_from_is_err_and c.from_residual.result c.from_residual.ensures.1 in
    rw p.1 (unwritten refl)

pub returns-in_err-read_words-clause-boxes : goal.returns-in_err-read_words-clause-boxes
returns-in_err-read_words-clause-boxes g c =
    let p = err_from_is_err_and c.from_residual.result c.from_residual.ensures.1 in
    rw (p.1, p.2) (kept_itself _)

pub returns-in_err-read_words-clause-bounded : goal.returns-in_err-read_words-clause-bounded
returns-in_err-read_words-clause-bounded g c = λ none.
    no_evaluation refl

pub returns-in_err-read_words-clause-unmoved : goal.returns-in_err-read_words-clause-unmoved
returns-in_err-read_words-clause-unmoved g c = λ some.
    record { fetched = omega arith; probed = omega arith; tested = omega arith }

pub returns-in-None-clause-ends : goal.returns-in-None-clause-ends
returns-in-None-clause-ends g c = λ tell.
    let found = IsFound (g.L.Library.told c.args.library.now) (g.L.Library.sound c.args.library.now) in
    let wish = rw (c.in-None.is, c.box_count-boxes.ensures, c.as_slice.ensures.value) at c.in_ok-read_words.ensures.wish in
    rw c.or_cut.ensures.is (ends_cut _ _ _ _ c.print_usage.result (misuse_ends (length c.args.engines.now.items) (map string_bytes c.args.words.now) found (g.S.Sink.written c.args.out.now) (g.S.Sink.written c.print_usage.new.out) _ c.print_usage.result (sym wish) refl c.print_usage.ensures.ok c.print_usage.ensures.err))

pub returns-in-None-clause-came : goal.returns-in-None-clause-came
returns-in-None-clause-came g c =
    let found = IsFound (g.L.Library.told c.args.library.now) (g.L.Library.sound c.args.library.now) in
    let wish = rw (c.in-None.is, c.box_count-boxes.ensures, c.as_slice.ensures.value) at c.in_ok-read_words.ensures.wish in
    rw c.or_cut.ensures.is (misuse_ended (length c.args.engines.now.items) (map string_bytes c.args.words.now) found (g.S.Sink.written c.args.out.now) (g.S.Sink.written c.print_usage.new.out) _ c.print_usage.result (sym wish) refl c.print_usage.ensures.ok)

pub returns-in-None-clause-reached : goal.returns-in-None-clause-reached
returns-in-None-clause-reached g c = λ tell.
    let wish = rw (c.in-None.is, c.box_count-boxes.ensures, c.as_slice.ensures.value) at c.in_ok-read_words.ensures.wish in
    no_file (ap files_asked (sym wish)) refl

pub returns-in-None-clause-bounded : goal.returns-in-None-clause-bounded
returns-in-None-clause-bounded g c = λ none.
    no_evaluation refl

pub returns-in-None-clause-unmoved : goal.returns-in-None-clause-unmoved
returns-in-None-clause-unmoved g c = λ some.
    record { fetched = omega arith; probed = omega arith; tested = omega arith }

pub returns-in-None-clause-boxes : goal.returns-in-None-clause-boxes
returns-in-None-clause-boxes g c =
    kept_leaves _ _ c.or_cut.result c.or_cut.ensures.none (still_itself _)

pub returns-in_err-declare-in-Some-Test-clause-ends : goal.returns-in_err-declare-in-Some-Test-clause-ends
returns-in_err-declare-in-Some-Test-clause-ends g c = λ tell.
    let p = err_from_is_err_and c.from_residual-in_err-declare-in-Some-Test.result c.from_residual-in_err-declare-in-Some-Test.ensures.1 in
    rw p.1 (unwritten refl)

pub returns-in_err-declare-in-Some-Test-clause-stopped : goal.returns-in_err-declare-in-Some-Test-clause-stopped
returns-in_err-declare-in-Some-Test-clause-stopped g c = λ tell.
    let found = IsFound (g.L.Library.told c.args.library.now) (g.L.Library.sound c.args.library.now) in
    unwritten_stopped (length c.args.engines.now.items) (map string_bytes c.args.words.now) found _ _ c.from_residual-in_err-declare-in-Some-Test.result (lost_any c.from_residual-in_err-declare-in-Some-Test.result _ refl)

pub returns-in_err-declare-in-Some-Test-clause-reached : goal.returns-in_err-declare-in-Some-Test-clause-reached
returns-in_err-declare-in-Some-Test-clause-reached g c = λ tell.
    let p = err_from_is_err_and c.from_residual-in_err-declare-in-Some-Test.result c.from_residual-in_err-declare-in-Some-Test.ensures.1 in
    rw p.1 (undeclared (cut_one_of p.0) refl)

pub returns-in_err-declare-in-Some-Test-clause-boxes : goal.returns-in_err-declare-in-Some-Test-clause-boxes
returns-in_err-declare-in-Some-Test-clause-boxes g c =
    let p = err_from_is_err_and c.from_residual-in_err-declare-in-Some-Test.result c.from_residual-in_err-declare-in-Some-Test.ensures.1 in
    rw (p.1, p.2) (c.in_err-declare-in-Some-Test.ensures.boxes)

pub returns-in_err-declare-in-Some-Test-clause-bounded : goal.returns-in_err-declare-in-Some-Test-clause-bounded
returns-in_err-declare-in-Some-Test-clause-bounded g c = λ none.
    no_evaluation refl

pub returns-in_err-declare-in-Some-Test-clause-unmoved : goal.returns-in_err-declare-in-Some-Test-clause-unmoved
returns-in_err-declare-in-Some-Test-clause-unmoved g c = λ some.
    record { fetched = omega arith; probed = omega arith; tested = omega arith }

pub returns-in_err-declare-in-Some-Test-clause-sure : goal.returns-in_err-declare-in-Some-Test-clause-sure
returns-in_err-declare-in-Some-Test-clause-sure g c = λ tell sound.
    let wish = rw (c.in-Some-Test.is, c.in-Some-Test.field-0-is, c.box_count-boxes.ensures, c.as_slice.ensures.value) at c.in_ok-read_words.ensures.wish in
    let p = err_from_is_err_and c.from_residual-in_err-declare-in-Some-Test.result c.from_residual-in_err-declare-in-Some-Test.ensures.1 in
    rw (p.1, p.2) ((rw c.as_slice-in-Some-Test.ensures at c.in_err-declare-in-Some-Test.ensures.sure) (sound_by (length c.args.engines.now.items) (map string_bytes c.args.words.now) _ (sym wish) _ sound))

pub returns-in_ok-declare-in-Some-Test-clause-ends : goal.returns-in_ok-declare-in-Some-Test-clause-ends
returns-in_ok-declare-in-Some-Test-clause-ends g c = λ tell.
    let found = IsFound (g.L.Library.told c.args.library.now) (g.L.Library.sound c.args.library.now) in
    let wish = rw (c.in-Some-Test.is, c.in-Some-Test.field-0-is, c.box_count-boxes.ensures, c.as_slice.ensures.value) at c.in_ok-read_words.ensures.wish in
    let is : asked (length c.args.engines.now.items) (map string_bytes c.args.words.now) ≡ Some (test c.in-Some-Test.choices c.in-Some-Test.declared c.as_slice-files.result.now) = sym wish ∙ ap (λ (paths : List (List ℕ)). Some (test c.in-Some-Test.choices c.in-Some-Test.declared paths)) (sym c.as_slice-files.ensures) in
    let tell_now = tell_on (length c.in-Some-Test.declared) _ _ c.in_ok-declare-in-Some-Test.ensures.boxes (tell_by (length c.args.engines.now.items) (map string_bytes c.args.words.now) _ is _ tell) in
    files_end (length c.args.engines.now.items) (map string_bytes c.args.words.now) c.in-Some-Test.choices c.in-Some-Test.declared found (g.S.Sink.written c.args.out.now) (g.S.Sink.written c.run_files.new.out) _ c.as_slice-files.result.now c.run_files.result is ((rw c.options_of-options.ensures at c.run_files.ensures.ends) tell_now)

pub returns-in_ok-declare-in-Some-Test-clause-came : goal.returns-in_ok-declare-in-Some-Test-clause-came
returns-in_ok-declare-in-Some-Test-clause-came g c =
    let found = IsFound (g.L.Library.told c.args.library.now) (g.L.Library.sound c.args.library.now) in
    let wish = rw (c.in-Some-Test.is, c.in-Some-Test.field-0-is, c.box_count-boxes.ensures, c.as_slice.ensures.value) at c.in_ok-read_words.ensures.wish in
    let is : asked (length c.args.engines.now.items) (map string_bytes c.args.words.now) ≡ Some (test c.in-Some-Test.choices c.in-Some-Test.declared c.as_slice-files.result.now) = sym wish ∙ ap (λ (paths : List (List ℕ)). Some (test c.in-Some-Test.choices c.in-Some-Test.declared paths)) (sym c.as_slice-files.ensures) in
    files_ended (length c.args.engines.now.items) (map string_bytes c.args.words.now) c.in-Some-Test.choices c.in-Some-Test.declared found (g.S.Sink.written c.args.out.now) (g.S.Sink.written c.run_files.new.out) _ c.as_slice-files.result.now c.run_files.result is (rw c.options_of-options.ensures at c.run_files.ensures.came)

pub returns-in_ok-declare-in-Some-Test-clause-stopped : goal.returns-in_ok-declare-in-Some-Test-clause-stopped
returns-in_ok-declare-in-Some-Test-clause-stopped g c = λ tell.
    let found = IsFound (g.L.Library.told c.args.library.now) (g.L.Library.sound c.args.library.now) in
    let wish = rw (c.in-Some-Test.is, c.in-Some-Test.field-0-is, c.box_count-boxes.ensures, c.as_slice.ensures.value) at c.in_ok-read_words.ensures.wish in
    let is : asked (length c.args.engines.now.items) (map string_bytes c.args.words.now) ≡ Some (test c.in-Some-Test.choices c.in-Some-Test.declared c.as_slice-files.result.now) = sym wish ∙ ap (λ (paths : List (List ℕ)). Some (test c.in-Some-Test.choices c.in-Some-Test.declared paths)) (sym c.as_slice-files.ensures) in
    let tell_now = tell_on (length c.in-Some-Test.declared) _ _ c.in_ok-declare-in-Some-Test.ensures.boxes (tell_by (length c.args.engines.now.items) (map string_bytes c.args.words.now) _ is _ tell) in
    files_stopped (length c.args.engines.now.items) (map string_bytes c.args.words.now) c.in-Some-Test.choices c.in-Some-Test.declared found (g.S.Sink.written c.args.out.now) (g.S.Sink.written c.run_files.new.out) (Unit {0}) c.as_slice-files.result.now c.run_files.result is ((rw c.options_of-options.ensures at c.run_files.ensures.stopped) tell_now)

pub returns-in_ok-declare-in-Some-Test-clause-reached : goal.returns-in_ok-declare-in-Some-Test-clause-reached
returns-in_ok-declare-in-Some-Test-clause-reached g c = λ tell.
    let wish = rw (c.in-Some-Test.is, c.in-Some-Test.field-0-is, c.box_count-boxes.ensures, c.as_slice.ensures.value) at c.in_ok-read_words.ensures.wish in
    let is : asked (length c.args.engines.now.items) (map string_bytes c.args.words.now) ≡ Some (test c.in-Some-Test.choices c.in-Some-Test.declared c.as_slice-files.result.now) = sym wish ∙ ap (λ (paths : List (List ℕ)). Some (test c.in-Some-Test.choices c.in-Some-Test.declared paths)) (sym c.as_slice-files.ensures) in
    let tell_now = tell_on (length c.in-Some-Test.declared) _ _ c.in_ok-declare-in-Some-Test.ensures.boxes (tell_by (length c.args.engines.now.items) (map string_bytes c.args.words.now) _ is _ tell) in
    files c.in-Some-Test.choices c.in-Some-Test.declared c.as_slice-files.result.now is ((rw c.options_of-options.ensures at c.run_files.ensures.reached) tell_now)

pub returns-in_ok-declare-in-Some-Test-clause-bounded : goal.returns-in_ok-declare-in-Some-Test-clause-bounded
returns-in_ok-declare-in-Some-Test-clause-bounded g c = λ none.
    let found = IsFound (g.L.Library.told c.args.library.now) (g.L.Library.sound c.args.library.now) in
    let wish = rw (c.in-Some-Test.is, c.in-Some-Test.field-0-is, c.box_count-boxes.ensures, c.as_slice.ensures.value) at c.in_ok-read_words.ensures.wish in
    let is : asked (length c.args.engines.now.items) (map string_bytes c.args.words.now) ≡ Some (test c.in-Some-Test.choices c.in-Some-Test.declared c.as_slice-files.result.now) = sym wish ∙ ap (λ (paths : List (List ℕ)). Some (test c.in-Some-Test.choices c.in-Some-Test.declared paths)) (sym c.as_slice-files.ensures) in
    tests c.in-Some-Test.choices c.in-Some-Test.declared c.as_slice-files.result.now is (subst (λ (o : Options). FilesSpend o found c.as_slice-files.result.now c.args.work.now c.run_files.new.work) c.options_of-options.ensures (c.run_files.ensures.bounded (none_by_words (length c.args.engines.now.items) (map string_bytes c.args.words.now) _ is none)))

pub returns-in_ok-declare-in-Some-Test-clause-unmoved : goal.returns-in_ok-declare-in-Some-Test-clause-unmoved
returns-in_ok-declare-in-Some-Test-clause-unmoved g c = λ some.
    let wish = rw (c.in-Some-Test.is, c.in-Some-Test.field-0-is, c.box_count-boxes.ensures, c.as_slice.ensures.value) at c.in_ok-read_words.ensures.wish in
    let is : asked (length c.args.engines.now.items) (map string_bytes c.args.words.now) ≡ Some (test c.in-Some-Test.choices c.in-Some-Test.declared c.as_slice-files.result.now) = sym wish ∙ ap (λ (paths : List (List ℕ)). Some (test c.in-Some-Test.choices c.in-Some-Test.declared paths)) (sym c.as_slice-files.ensures) in
    c.run_files.ensures.unmoved (some_by_words (length c.args.engines.now.items) (map string_bytes c.args.words.now) _ is some)

pub returns-in_ok-declare-in-Some-Test-clause-boxes : goal.returns-in_ok-declare-in-Some-Test-clause-boxes
returns-in_ok-declare-in-Some-Test-clause-boxes g c =
    leaves_since _ _ _ c.run_files.result c.in_ok-declare-in-Some-Test.ensures.boxes c.run_files.ensures.boxes

pub returns-in_ok-declare-in-Some-Test-clause-sure : goal.returns-in_ok-declare-in-Some-Test-clause-sure
returns-in_ok-declare-in-Some-Test-clause-sure g c = λ tell sound.
    let wish = rw (c.in-Some-Test.is, c.in-Some-Test.field-0-is, c.box_count-boxes.ensures, c.as_slice.ensures.value) at c.in_ok-read_words.ensures.wish in
    let is : asked (length c.args.engines.now.items) (map string_bytes c.args.words.now) ≡ Some (test c.in-Some-Test.choices c.in-Some-Test.declared c.as_slice-files.result.now) = sym wish ∙ ap (λ (paths : List (List ℕ)). Some (test c.in-Some-Test.choices c.in-Some-Test.declared paths)) (sym c.as_slice-files.ensures) in
    let tell_now = tell_on (length c.in-Some-Test.declared) _ _ c.in_ok-declare-in-Some-Test.ensures.boxes (tell_by (length c.args.engines.now.items) (map string_bytes c.args.words.now) _ is _ tell) in
    c.run_files.ensures.sure tell_now (sound_since (length c.in-Some-Test.declared) _ _ c.in_ok-declare-in-Some-Test.ensures.boxes (sound_by (length c.args.engines.now.items) (map string_bytes c.args.words.now) _ is _ sound))

pub returns-in_ok-declare-in-Some-Test-clause-unevaluated : goal.returns-in_ok-declare-in-Some-Test-clause-unevaluated
returns-in_ok-declare-in-Some-Test-clause-unevaluated g c =
    let wish = rw (c.in-Some-Test.is, c.in-Some-Test.field-0-is, c.box_count-boxes.ensures, c.as_slice.ensures.value) at c.in_ok-read_words.ensures.wish in
    λ asks. absurd (subst AsksToPrint (sym wish) asks)

pub returns-in_err-declare-in-Some-Query-clause-ends : goal.returns-in_err-declare-in-Some-Query-clause-ends
returns-in_err-declare-in-Some-Query-clause-ends g c = λ tell.
    let p = err_from_is_err_and c.from_residual-in_err-declare-in-Some-Query.result c.from_residual-in_err-declare-in-Some-Query.ensures.1 in
    rw p.1 (unwritten refl)

pub returns-in_err-declare-in-Some-Query-clause-stopped : goal.returns-in_err-declare-in-Some-Query-clause-stopped
returns-in_err-declare-in-Some-Query-clause-stopped g c = λ tell.
    let found = IsFound (g.L.Library.told c.args.library.now) (g.L.Library.sound c.args.library.now) in
    unwritten_stopped (length c.args.engines.now.items) (map string_bytes c.args.words.now) found _ _ c.from_residual-in_err-declare-in-Some-Query.result (lost_any c.from_residual-in_err-declare-in-Some-Query.result _ refl)

pub returns-in_err-declare-in-Some-Query-clause-reached : goal.returns-in_err-declare-in-Some-Query-clause-reached
returns-in_err-declare-in-Some-Query-clause-reached g c = λ tell.
    let p = err_from_is_err_and c.from_residual-in_err-declare-in-Some-Query.result c.from_residual-in_err-declare-in-Some-Query.ensures.1 in
    rw p.1 (undeclared (cut_one_of p.0) refl)

pub returns-in_err-declare-in-Some-Query-clause-boxes : goal.returns-in_err-declare-in-Some-Query-clause-boxes
returns-in_err-declare-in-Some-Query-clause-boxes g c =
    let p = err_from_is_err_and c.from_residual-in_err-declare-in-Some-Query.result c.from_residual-in_err-declare-in-Some-Query.ensures.1 in
    rw (p.1, p.2) (c.in_err-declare-in-Some-Query.ensures.boxes)

pub returns-in_err-declare-in-Some-Query-clause-bounded : goal.returns-in_err-declare-in-Some-Query-clause-bounded
returns-in_err-declare-in-Some-Query-clause-bounded g c = λ none.
    no_evaluation refl

pub returns-in_err-declare-in-Some-Query-clause-unmoved : goal.returns-in_err-declare-in-Some-Query-clause-unmoved
returns-in_err-declare-in-Some-Query-clause-unmoved g c = λ some.
    record { fetched = omega arith; probed = omega arith; tested = omega arith }

pub returns-in_err-declare-in-Some-Query-clause-sure : goal.returns-in_err-declare-in-Some-Query-clause-sure
returns-in_err-declare-in-Some-Query-clause-sure g c = λ tell sound.
    let wish = rw (c.in-Some-Query.is, c.in-Some-Query.field-0-is, c.box_count-boxes.ensures, c.as_slice.ensures.value) at c.in_ok-read_words.ensures.wish in
    let p = err_from_is_err_and c.from_residual-in_err-declare-in-Some-Query.result c.from_residual-in_err-declare-in-Some-Query.ensures.1 in
    rw (p.1, p.2) ((rw c.as_slice-in-Some-Query.ensures at c.in_err-declare-in-Some-Query.ensures.sure) (sound_by (length c.args.engines.now.items) (map string_bytes c.args.words.now) _ (sym wish) _ sound))

pub returns-in_ok-declare-in-Some-Query-clause-ends : goal.returns-in_ok-declare-in-Some-Query-clause-ends
returns-in_ok-declare-in-Some-Query-clause-ends g c = λ tell.
    let found = IsFound (g.L.Library.told c.args.library.now) (g.L.Library.sound c.args.library.now) in
    let wish = rw (c.in-Some-Query.is, c.in-Some-Query.field-0-is, c.box_count-boxes.ensures, c.as_slice.ensures.value) at c.in_ok-read_words.ensures.wish in
    let is : asked (length c.args.engines.now.items) (map string_bytes c.args.words.now) ≡ Some (query c.in-Some-Query.choices c.in-Some-Query.declared (moments_in c.in-Some-Query.grid c.in-Some-Query.instant) c.as_str-in-Some-Query.result.now c.as_str.result.now) = sym wish ∙ ap (λ (p : List ℕ). Some (query c.in-Some-Query.choices c.in-Some-Query.declared (moments_in c.in-Some-Query.grid c.in-Some-Query.instant) p c.in-Some-Query.expr)) (sym c.as_str-in-Some-Query.ensures) ∙ ap (λ (e : List ℕ). Some (query c.in-Some-Query.choices c.in-Some-Query.declared (moments_in c.in-Some-Query.grid c.in-Some-Query.instant) c.as_str-in-Some-Query.result.now e)) (sym c.as_str.ensures) in
    let tell_now = tell_on (length c.in-Some-Query.declared) _ _ c.in_ok-declare-in-Some-Query.ensures.boxes (tell_by (length c.args.engines.now.items) (map string_bytes c.args.words.now) _ is _ tell) in
    query_end (length c.args.engines.now.items) (map string_bytes c.args.words.now) c.in-Some-Query.choices c.in-Some-Query.declared found (g.S.Sink.written c.args.out.now) (g.S.Sink.written c.run_query.new.out) _ c.in-Some-Query.grid c.in-Some-Query.instant c.as_str-in-Some-Query.result.now c.as_str.result.now is c.run_query.result ((rw c.options_of-options-in-Some-Query.ensures at c.run_query.ensures.ends) tell_now)

pub returns-in_ok-declare-in-Some-Query-clause-came : goal.returns-in_ok-declare-in-Some-Query-clause-came
returns-in_ok-declare-in-Some-Query-clause-came g c =
    let found = IsFound (g.L.Library.told c.args.library.now) (g.L.Library.sound c.args.library.now) in
    let wish = rw (c.in-Some-Query.is, c.in-Some-Query.field-0-is, c.box_count-boxes.ensures, c.as_slice.ensures.value) at c.in_ok-read_words.ensures.wish in
    let is : asked (length c.args.engines.now.items) (map string_bytes c.args.words.now) ≡ Some (query c.in-Some-Query.choices c.in-Some-Query.declared (moments_in c.in-Some-Query.grid c.in-Some-Query.instant) c.as_str-in-Some-Query.result.now c.as_str.result.now) = sym wish ∙ ap (λ (p : List ℕ). Some (query c.in-Some-Query.choices c.in-Some-Query.declared (moments_in c.in-Some-Query.grid c.in-Some-Query.instant) p c.in-Some-Query.expr)) (sym c.as_str-in-Some-Query.ensures) ∙ ap (λ (e : List ℕ). Some (query c.in-Some-Query.choices c.in-Some-Query.declared (moments_in c.in-Some-Query.grid c.in-Some-Query.instant) c.as_str-in-Some-Query.result.now e)) (sym c.as_str.ensures) in
    query_ended (length c.args.engines.now.items) (map string_bytes c.args.words.now) c.in-Some-Query.choices c.in-Some-Query.declared found (g.S.Sink.written c.args.out.now) (g.S.Sink.written c.run_query.new.out) _ c.in-Some-Query.grid c.in-Some-Query.instant c.as_str-in-Some-Query.result.now c.as_str.result.now is c.run_query.result (rw c.options_of-options-in-Some-Query.ensures at c.run_query.ensures.came)

pub returns-in_ok-declare-in-Some-Query-clause-stopped : goal.returns-in_ok-declare-in-Some-Query-clause-stopped
returns-in_ok-declare-in-Some-Query-clause-stopped g c = λ tell.
    let found = IsFound (g.L.Library.told c.args.library.now) (g.L.Library.sound c.args.library.now) in
    unwritten_stopped (length c.args.engines.now.items) (map string_bytes c.args.words.now) found _ _ c.run_query.result c.run_query.ensures.stopped

pub returns-in_ok-declare-in-Some-Query-clause-fetched : goal.returns-in_ok-declare-in-Some-Query-clause-fetched
returns-in_ok-declare-in-Some-Query-clause-fetched g c =
    let wish = rw (c.in-Some-Query.is, c.in-Some-Query.field-0-is, c.box_count-boxes.ensures, c.as_slice.ensures.value) at c.in_ok-read_words.ensures.wish in
    let moments = moments_in c.in-Some-Query.grid c.in-Some-Query.instant in
    let named = ap (λ (path : List ℕ). files_asked (Some (query c.in-Some-Query.choices c.in-Some-Query.declared moments path c.in-Some-Query.expr))) c.as_str-in-Some-Query.ensures ∙ ap files_asked wish in
    one_fetched _ g.L.Library.fetches _ c.as_str-in-Some-Query.result.now c.args.library.now c.run_query.new.library named c.run_query.ensures.fetched

pub returns-in_ok-declare-in-Some-Query-clause-reached : goal.returns-in_ok-declare-in-Some-Query-clause-reached
returns-in_ok-declare-in-Some-Query-clause-reached g c = λ tell.
    let wish = rw (c.in-Some-Query.is, c.in-Some-Query.field-0-is, c.box_count-boxes.ensures, c.as_slice.ensures.value) at c.in_ok-read_words.ensures.wish in
    let is : asked (length c.args.engines.now.items) (map string_bytes c.args.words.now) ≡ Some (query c.in-Some-Query.choices c.in-Some-Query.declared (moments_in c.in-Some-Query.grid c.in-Some-Query.instant) c.as_str-in-Some-Query.result.now c.as_str.result.now) = sym wish ∙ ap (λ (p : List ℕ). Some (query c.in-Some-Query.choices c.in-Some-Query.declared (moments_in c.in-Some-Query.grid c.in-Some-Query.instant) p c.in-Some-Query.expr)) (sym c.as_str-in-Some-Query.ensures) ∙ ap (λ (e : List ℕ). Some (query c.in-Some-Query.choices c.in-Some-Query.declared (moments_in c.in-Some-Query.grid c.in-Some-Query.instant) c.as_str-in-Some-Query.result.now e)) (sym c.as_str.ensures) in
    one_file c.in-Some-Query.choices c.in-Some-Query.declared c.in-Some-Query.grid c.in-Some-Query.instant c.as_str-in-Some-Query.result.now c.as_str.result.now is c.run_query.ensures.fetched

pub returns-in_ok-declare-in-Some-Query-clause-bounded : goal.returns-in_ok-declare-in-Some-Query-clause-bounded
returns-in_ok-declare-in-Some-Query-clause-bounded g c = λ none.
    let found = IsFound (g.L.Library.told c.args.library.now) (g.L.Library.sound c.args.library.now) in
    let wish = rw (c.in-Some-Query.is, c.in-Some-Query.field-0-is, c.box_count-boxes.ensures, c.as_slice.ensures.value) at c.in_ok-read_words.ensures.wish in
    let is : asked (length c.args.engines.now.items) (map string_bytes c.args.words.now) ≡ Some (query c.in-Some-Query.choices c.in-Some-Query.declared (moments_in c.in-Some-Query.grid c.in-Some-Query.instant) c.as_str-in-Some-Query.result.now c.as_str.result.now) = sym wish ∙ ap (λ (p : List ℕ). Some (query c.in-Some-Query.choices c.in-Some-Query.declared (moments_in c.in-Some-Query.grid c.in-Some-Query.instant) p c.in-Some-Query.expr)) (sym c.as_str-in-Some-Query.ensures) ∙ ap (λ (e : List ℕ). Some (query c.in-Some-Query.choices c.in-Some-Query.declared (moments_in c.in-Some-Query.grid c.in-Some-Query.instant) c.as_str-in-Some-Query.result.now e)) (sym c.as_str.ensures) in
    queries c.in-Some-Query.choices c.in-Some-Query.declared c.in-Some-Query.grid c.in-Some-Query.instant c.as_str-in-Some-Query.result.now c.as_str.result.now is (subst (λ (o : Options). QuerySpends o found c.as_str-in-Some-Query.result.now c.as_str.result.now c.in-Some-Query.grid c.args.work.now c.run_query.new.work) c.options_of-options-in-Some-Query.ensures (c.run_query.ensures.bounded (none_by_words (length c.args.engines.now.items) (map string_bytes c.args.words.now) _ is none)))

pub returns-in_ok-declare-in-Some-Query-clause-unmoved : goal.returns-in_ok-declare-in-Some-Query-clause-unmoved
returns-in_ok-declare-in-Some-Query-clause-unmoved g c = λ some.
    let wish = rw (c.in-Some-Query.is, c.in-Some-Query.field-0-is, c.box_count-boxes.ensures, c.as_slice.ensures.value) at c.in_ok-read_words.ensures.wish in
    let is : asked (length c.args.engines.now.items) (map string_bytes c.args.words.now) ≡ Some (query c.in-Some-Query.choices c.in-Some-Query.declared (moments_in c.in-Some-Query.grid c.in-Some-Query.instant) c.as_str-in-Some-Query.result.now c.as_str.result.now) = sym wish ∙ ap (λ (p : List ℕ). Some (query c.in-Some-Query.choices c.in-Some-Query.declared (moments_in c.in-Some-Query.grid c.in-Some-Query.instant) p c.in-Some-Query.expr)) (sym c.as_str-in-Some-Query.ensures) ∙ ap (λ (e : List ℕ). Some (query c.in-Some-Query.choices c.in-Some-Query.declared (moments_in c.in-Some-Query.grid c.in-Some-Query.instant) c.as_str-in-Some-Query.result.now e)) (sym c.as_str.ensures) in
    c.run_query.ensures.unmoved (some_by_words (length c.args.engines.now.items) (map string_bytes c.args.words.now) _ is some)

pub returns-in_ok-declare-in-Some-Query-clause-boxes : goal.returns-in_ok-declare-in-Some-Query-clause-boxes
returns-in_ok-declare-in-Some-Query-clause-boxes g c =
    leaves_since _ _ _ c.run_query.result c.in_ok-declare-in-Some-Query.ensures.boxes c.run_query.ensures.boxes

pub returns-in_ok-declare-in-Some-Query-clause-sure : goal.returns-in_ok-declare-in-Some-Query-clause-sure
returns-in_ok-declare-in-Some-Query-clause-sure g c = λ tell sound.
    let wish = rw (c.in-Some-Query.is, c.in-Some-Query.field-0-is, c.box_count-boxes.ensures, c.as_slice.ensures.value) at c.in_ok-read_words.ensures.wish in
    let is : asked (length c.args.engines.now.items) (map string_bytes c.args.words.now) ≡ Some (query c.in-Some-Query.choices c.in-Some-Query.declared (moments_in c.in-Some-Query.grid c.in-Some-Query.instant) c.as_str-in-Some-Query.result.now c.as_str.result.now) = sym wish ∙ ap (λ (p : List ℕ). Some (query c.in-Some-Query.choices c.in-Some-Query.declared (moments_in c.in-Some-Query.grid c.in-Some-Query.instant) p c.in-Some-Query.expr)) (sym c.as_str-in-Some-Query.ensures) ∙ ap (λ (e : List ℕ). Some (query c.in-Some-Query.choices c.in-Some-Query.declared (moments_in c.in-Some-Query.grid c.in-Some-Query.instant) c.as_str-in-Some-Query.result.now e)) (sym c.as_str.ensures) in
    let tell_now = tell_on (length c.in-Some-Query.declared) _ _ c.in_ok-declare-in-Some-Query.ensures.boxes (tell_by (length c.args.engines.now.items) (map string_bytes c.args.words.now) _ is _ tell) in
    c.run_query.ensures.sure tell_now (sound_since (length c.in-Some-Query.declared) _ _ c.in_ok-declare-in-Some-Query.ensures.boxes (sound_by (length c.args.engines.now.items) (map string_bytes c.args.words.now) _ is _ sound))

pub returns-in_ok-declare-in-Some-Query-clause-unevaluated : goal.returns-in_ok-declare-in-Some-Query-clause-unevaluated
returns-in_ok-declare-in-Some-Query-clause-unevaluated g c =
    let wish = rw (c.in-Some-Query.is, c.in-Some-Query.field-0-is, c.box_count-boxes.ensures, c.as_slice.ensures.value) at c.in_ok-read_words.ensures.wish in
    λ asks. absurd (subst AsksToPrint (sym wish) asks)

pub returns-in_err-declare-in-Some-Workload-clause-ends : goal.returns-in_err-declare-in-Some-Workload-clause-ends
returns-in_err-declare-in-Some-Workload-clause-ends g c = λ tell.
    let p = err_from_is_err_and c.from_residual-in_err-declare-in-Some-Workload.result c.from_residual-in_err-declare-in-Some-Workload.ensures.1 in
    rw p.1 (unwritten refl)

pub returns-in_err-declare-in-Some-Workload-clause-stopped : goal.returns-in_err-declare-in-Some-Workload-clause-stopped
returns-in_err-declare-in-Some-Workload-clause-stopped g c = λ tell.
    let found = IsFound (g.L.Library.told c.args.library.now) (g.L.Library.sound c.args.library.now) in
    unwritten_stopped (length c.args.engines.now.items) (map string_bytes c.args.words.now) found _ _ c.from_residual-in_err-declare-in-Some-Workload.result (lost_any c.from_residual-in_err-declare-in-Some-Workload.result _ refl)

pub returns-in_err-declare-in-Some-Workload-clause-reached : goal.returns-in_err-declare-in-Some-Workload-clause-reached
returns-in_err-declare-in-Some-Workload-clause-reached g c = λ tell.
    let p = err_from_is_err_and c.from_residual-in_err-declare-in-Some-Workload.result c.from_residual-in_err-declare-in-Some-Workload.ensures.1 in
    rw p.1 (undeclared (cut_one_of p.0) refl)

pub returns-in_err-declare-in-Some-Workload-clause-boxes : goal.returns-in_err-declare-in-Some-Workload-clause-boxes
returns-in_err-declare-in-Some-Workload-clause-boxes g c =
    let p = err_from_is_err_and c.from_residual-in_err-declare-in-Some-Workload.result c.from_residual-in_err-declare-in-Some-Workload.ensures.1 in
    rw (p.1, p.2) (c.in_err-declare-in-Some-Workload.ensures.boxes)

pub returns-in_err-declare-in-Some-Workload-clause-bounded : goal.returns-in_err-declare-in-Some-Workload-clause-bounded
returns-in_err-declare-in-Some-Workload-clause-bounded g c = λ none.
    no_evaluation refl

pub returns-in_err-declare-in-Some-Workload-clause-unmoved : goal.returns-in_err-declare-in-Some-Workload-clause-unmoved
returns-in_err-declare-in-Some-Workload-clause-unmoved g c = λ some.
    record { fetched = omega arith; probed = omega arith; tested = omega arith }

pub returns-in_err-declare-in-Some-Workload-clause-sure : goal.returns-in_err-declare-in-Some-Workload-clause-sure
returns-in_err-declare-in-Some-Workload-clause-sure g c = λ tell sound.
    let wish = rw (c.in-Some-Workload.is, c.in-Some-Workload.field-0-is, c.box_count-boxes.ensures, c.as_slice.ensures.value) at c.in_ok-read_words.ensures.wish in
    let p = err_from_is_err_and c.from_residual-in_err-declare-in-Some-Workload.result c.from_residual-in_err-declare-in-Some-Workload.ensures.1 in
    rw (p.1, p.2) ((rw c.as_slice-in-Some-Workload.ensures at c.in_err-declare-in-Some-Workload.ensures.sure) (sound_by (length c.args.engines.now.items) (map string_bytes c.args.words.now) _ (sym wish) _ sound))

pub returns-in_ok-declare-in-Some-Workload-clause-ends : goal.returns-in_ok-declare-in-Some-Workload-clause-ends
returns-in_ok-declare-in-Some-Workload-clause-ends g c = λ tell.
    let found = IsFound (g.L.Library.told c.args.library.now) (g.L.Library.sound c.args.library.now) in
    let wish = rw (c.in-Some-Workload.is, c.in-Some-Workload.field-0-is, c.box_count-boxes.ensures, c.as_slice.ensures.value) at c.in_ok-read_words.ensures.wish in
    let is : asked (length c.args.engines.now.items) (map string_bytes c.args.words.now) ≡ Some (workload c.in-Some-Workload.choices c.in-Some-Workload.declared c.in-Some-Workload.count) = sym wish in
    let tell_now = tell_on (length c.in-Some-Workload.declared) _ _ c.in_ok-declare-in-Some-Workload.ensures.boxes (tell_by (length c.args.engines.now.items) (map string_bytes c.args.words.now) _ is _ tell) in
    workload_end (length c.args.engines.now.items) (map string_bytes c.args.words.now) c.in-Some-Workload.choices c.in-Some-Workload.declared found (g.S.Sink.written c.args.out.now) (g.S.Sink.written c.run_workload.new.out) _ c.in-Some-Workload.count c.run_workload.result is ((rw c.options_of-options-in-Some-Workload.ensures at c.run_workload.ensures.ends) tell_now)

pub returns-in_ok-declare-in-Some-Workload-clause-came : goal.returns-in_ok-declare-in-Some-Workload-clause-came
returns-in_ok-declare-in-Some-Workload-clause-came g c =
    let found = IsFound (g.L.Library.told c.args.library.now) (g.L.Library.sound c.args.library.now) in
    let wish = rw (c.in-Some-Workload.is, c.in-Some-Workload.field-0-is, c.box_count-boxes.ensures, c.as_slice.ensures.value) at c.in_ok-read_words.ensures.wish in
    let is : asked (length c.args.engines.now.items) (map string_bytes c.args.words.now) ≡ Some (workload c.in-Some-Workload.choices c.in-Some-Workload.declared c.in-Some-Workload.count) = sym wish in
    workload_ended (length c.args.engines.now.items) (map string_bytes c.args.words.now) c.in-Some-Workload.choices c.in-Some-Workload.declared found (g.S.Sink.written c.args.out.now) (g.S.Sink.written c.run_workload.new.out) _ c.in-Some-Workload.count c.run_workload.result is (rw c.options_of-options-in-Some-Workload.ensures at c.run_workload.ensures.came)

pub returns-in_ok-declare-in-Some-Workload-clause-stopped : goal.returns-in_ok-declare-in-Some-Workload-clause-stopped
returns-in_ok-declare-in-Some-Workload-clause-stopped g c = λ tell.
    let found = IsFound (g.L.Library.told c.args.library.now) (g.L.Library.sound c.args.library.now) in
    let wish = rw (c.in-Some-Workload.is, c.in-Some-Workload.field-0-is, c.box_count-boxes.ensures, c.as_slice.ensures.value) at c.in_ok-read_words.ensures.wish in
    let is : asked (length c.args.engines.now.items) (map string_bytes c.args.words.now) ≡ Some (workload c.in-Some-Workload.choices c.in-Some-Workload.declared c.in-Some-Workload.count) = sym wish in
    let tell_now = tell_on (length c.in-Some-Workload.declared) _ _ c.in_ok-declare-in-Some-Workload.ensures.boxes (tell_by (length c.args.engines.now.items) (map string_bytes c.args.words.now) _ is _ tell) in
    workload_stopped (length c.args.engines.now.items) (map string_bytes c.args.words.now) c.in-Some-Workload.choices c.in-Some-Workload.declared found (g.S.Sink.written c.args.out.now) (g.S.Sink.written c.run_workload.new.out) (Unit {0}) c.in-Some-Workload.count c.run_workload.result is ((rw c.options_of-options-in-Some-Workload.ensures at c.run_workload.ensures.stopped) tell_now)

pub returns-in_ok-declare-in-Some-Workload-clause-reached : goal.returns-in_ok-declare-in-Some-Workload-clause-reached
returns-in_ok-declare-in-Some-Workload-clause-reached g c = λ tell.
    let wish = rw (c.in-Some-Workload.is, c.in-Some-Workload.field-0-is, c.box_count-boxes.ensures, c.as_slice.ensures.value) at c.in_ok-read_words.ensures.wish in
    no_file (ap files_asked (sym wish)) refl

pub returns-in_ok-declare-in-Some-Workload-clause-bounded : goal.returns-in_ok-declare-in-Some-Workload-clause-bounded
returns-in_ok-declare-in-Some-Workload-clause-bounded g c = λ none.
    let wish = rw (c.in-Some-Workload.is, c.in-Some-Workload.field-0-is, c.box_count-boxes.ensures, c.as_slice.ensures.value) at c.in_ok-read_words.ensures.wish in
    let is : asked (length c.args.engines.now.items) (map string_bytes c.args.words.now) ≡ Some (workload c.in-Some-Workload.choices c.in-Some-Workload.declared c.in-Some-Workload.count) = sym wish in
    works c.in-Some-Workload.choices c.in-Some-Workload.declared c.in-Some-Workload.count is (subst (λ (o : Options). FileSpends o (Just (workload_text c.in-Some-Workload.count)) workload_path c.args.work.now c.run_workload.new.work) c.options_of-options-in-Some-Workload.ensures (c.run_workload.ensures.bounded (none_by_words (length c.args.engines.now.items) (map string_bytes c.args.words.now) _ is none)))

pub returns-in_ok-declare-in-Some-Workload-clause-unmoved : goal.returns-in_ok-declare-in-Some-Workload-clause-unmoved
returns-in_ok-declare-in-Some-Workload-clause-unmoved g c = λ some.
    let wish = rw (c.in-Some-Workload.is, c.in-Some-Workload.field-0-is, c.box_count-boxes.ensures, c.as_slice.ensures.value) at c.in_ok-read_words.ensures.wish in
    let is : asked (length c.args.engines.now.items) (map string_bytes c.args.words.now) ≡ Some (workload c.in-Some-Workload.choices c.in-Some-Workload.declared c.in-Some-Workload.count) = sym wish in
    c.run_workload.ensures.unmoved (some_by_words (length c.args.engines.now.items) (map string_bytes c.args.words.now) _ is some)

pub returns-in_ok-declare-in-Some-Workload-clause-boxes : goal.returns-in_ok-declare-in-Some-Workload-clause-boxes
returns-in_ok-declare-in-Some-Workload-clause-boxes g c =
    leaves_since _ _ _ c.run_workload.result c.in_ok-declare-in-Some-Workload.ensures.boxes c.run_workload.ensures.boxes

pub returns-in_ok-declare-in-Some-Workload-clause-sure : goal.returns-in_ok-declare-in-Some-Workload-clause-sure
returns-in_ok-declare-in-Some-Workload-clause-sure g c = λ tell sound.
    let wish = rw (c.in-Some-Workload.is, c.in-Some-Workload.field-0-is, c.box_count-boxes.ensures, c.as_slice.ensures.value) at c.in_ok-read_words.ensures.wish in
    let is : asked (length c.args.engines.now.items) (map string_bytes c.args.words.now) ≡ Some (workload c.in-Some-Workload.choices c.in-Some-Workload.declared c.in-Some-Workload.count) = sym wish in
    let tell_now = tell_on (length c.in-Some-Workload.declared) _ _ c.in_ok-declare-in-Some-Workload.ensures.boxes (tell_by (length c.args.engines.now.items) (map string_bytes c.args.words.now) _ is _ tell) in
    c.run_workload.ensures.sure tell_now (sound_since (length c.in-Some-Workload.declared) _ _ c.in_ok-declare-in-Some-Workload.ensures.boxes (sound_by (length c.args.engines.now.items) (map string_bytes c.args.words.now) _ is _ sound))

pub returns-in_ok-declare-in-Some-Workload-clause-unevaluated : goal.returns-in_ok-declare-in-Some-Workload-clause-unevaluated
returns-in_ok-declare-in-Some-Workload-clause-unevaluated g c =
    let wish = rw (c.in-Some-Workload.is, c.in-Some-Workload.field-0-is, c.box_count-boxes.ensures, c.as_slice.ensures.value) at c.in_ok-read_words.ensures.wish in
    λ asks. absurd (subst AsksToPrint (sym wish) asks)

pub returns-in-Some-Format-clause-ends : goal.returns-in-Some-Format-clause-ends
returns-in-Some-Format-clause-ends g c = λ tell.
    let found = IsFound (g.L.Library.told c.args.library.now) (g.L.Library.sound c.args.library.now) in
    let wish = rw (c.in-Some-Format.is, c.in-Some-Format.field-0-is, c.box_count-boxes.ensures, c.as_slice.ensures.value) at c.in_ok-read_words.ensures.wish in
    let is : asked (length c.args.engines.now.items) (map string_bytes c.args.words.now) ≡ Some (format c.as_str-in-Some-Format.result.now) = sym wish ∙ ap (λ (e : List ℕ). Some (format e)) (sym c.as_str-in-Some-Format.ensures) in
    rw c.or_cut-in-Some-Format.ensures.is (ends_cut _ _ _ _ c.run_format.result (format_end (length c.args.engines.now.items) (map string_bytes c.args.words.now) found (g.S.Sink.written c.args.out.now) (g.S.Sink.written c.run_format.new.out) _ c.as_str-in-Some-Format.result.now c.run_format.result is c.run_format.ensures.ends))

pub returns-in-Some-Format-clause-came : goal.returns-in-Some-Format-clause-came
returns-in-Some-Format-clause-came g c =
    let found = IsFound (g.L.Library.told c.args.library.now) (g.L.Library.sound c.args.library.now) in
    let wish = rw (c.in-Some-Format.is, c.in-Some-Format.field-0-is, c.box_count-boxes.ensures, c.as_slice.ensures.value) at c.in_ok-read_words.ensures.wish in
    let is : asked (length c.args.engines.now.items) (map string_bytes c.args.words.now) ≡ Some (format c.as_str-in-Some-Format.result.now) = sym wish ∙ ap (λ (e : List ℕ). Some (format e)) (sym c.as_str-in-Some-Format.ensures) in
    rw c.or_cut-in-Some-Format.ensures.is (format_ended (length c.args.engines.now.items) (map string_bytes c.args.words.now) found (g.S.Sink.written c.args.out.now) (g.S.Sink.written c.run_format.new.out) _ c.as_str-in-Some-Format.result.now _ c.run_format.result is c.run_format.ensures.ends)

pub returns-in-Some-Format-clause-reached : goal.returns-in-Some-Format-clause-reached
returns-in-Some-Format-clause-reached g c = λ tell.
    let wish = rw (c.in-Some-Format.is, c.in-Some-Format.field-0-is, c.box_count-boxes.ensures, c.as_slice.ensures.value) at c.in_ok-read_words.ensures.wish in
    no_file (ap files_asked (sym wish)) refl

pub returns-in-Some-Format-clause-bounded : goal.returns-in-Some-Format-clause-bounded
returns-in-Some-Format-clause-bounded g c = λ none.
    no_evaluation refl

pub returns-in-Some-Format-clause-unmoved : goal.returns-in-Some-Format-clause-unmoved
returns-in-Some-Format-clause-unmoved g c = λ some.
    record { fetched = omega arith; probed = omega arith; tested = omega arith }

pub returns-in-Some-Format-clause-boxes : goal.returns-in-Some-Format-clause-boxes
returns-in-Some-Format-clause-boxes g c =
    kept_leaves _ _ c.or_cut-in-Some-Format.result c.or_cut-in-Some-Format.ensures.none (still_itself _)

pub returns-in-Some-Explain-clause-ends : goal.returns-in-Some-Explain-clause-ends
returns-in-Some-Explain-clause-ends g c = λ tell.
    let found = IsFound (g.L.Library.told c.args.library.now) (g.L.Library.sound c.args.library.now) in
    let wish = rw (c.in-Some-Explain.is, c.in-Some-Explain.field-0-is, c.box_count-boxes.ensures, c.as_slice.ensures.value) at c.in_ok-read_words.ensures.wish in
    let is : asked (length c.args.engines.now.items) (map string_bytes c.args.words.now) ≡ Some (explain c.in-Some-Explain.optimisers c.in-Some-Explain.engines c.as_str-in-Some-Explain.result.now) = sym wish ∙ ap (λ (e : List ℕ). Some (explain c.in-Some-Explain.optimisers c.in-Some-Explain.engines e)) (sym c.as_str-in-Some-Explain.ensures) in
    rw c.or_cut-in-Some-Explain.ensures.is (ends_cut _ _ _ _ c.run_explain.result (explain_end (length c.args.engines.now.items) (map string_bytes c.args.words.now) found (g.S.Sink.written c.args.out.now) (g.S.Sink.written c.run_explain.new.out) _ c.in-Some-Explain.optimisers c.in-Some-Explain.engines c.as_str-in-Some-Explain.result.now c.run_explain.result is c.run_explain.ensures.ends))

pub returns-in-Some-Explain-clause-came : goal.returns-in-Some-Explain-clause-came
returns-in-Some-Explain-clause-came g c =
    let found = IsFound (g.L.Library.told c.args.library.now) (g.L.Library.sound c.args.library.now) in
    let wish = rw (c.in-Some-Explain.is, c.in-Some-Explain.field-0-is, c.box_count-boxes.ensures, c.as_slice.ensures.value) at c.in_ok-read_words.ensures.wish in
    let is : asked (length c.args.engines.now.items) (map string_bytes c.args.words.now) ≡ Some (explain c.in-Some-Explain.optimisers c.in-Some-Explain.engines c.as_str-in-Some-Explain.result.now) = sym wish ∙ ap (λ (e : List ℕ). Some (explain c.in-Some-Explain.optimisers c.in-Some-Explain.engines e)) (sym c.as_str-in-Some-Explain.ensures) in
    rw c.or_cut-in-Some-Explain.ensures.is (explain_ended (length c.args.engines.now.items) (map string_bytes c.args.words.now) found (g.S.Sink.written c.args.out.now) (g.S.Sink.written c.run_explain.new.out) _ c.in-Some-Explain.optimisers c.in-Some-Explain.engines c.as_str-in-Some-Explain.result.now _ c.run_explain.result is c.run_explain.ensures.ends)

pub returns-in-Some-Explain-clause-reached : goal.returns-in-Some-Explain-clause-reached
returns-in-Some-Explain-clause-reached g c = λ tell.
    let wish = rw (c.in-Some-Explain.is, c.in-Some-Explain.field-0-is, c.box_count-boxes.ensures, c.as_slice.ensures.value) at c.in_ok-read_words.ensures.wish in
    no_file (ap files_asked (sym wish)) refl

pub returns-in-Some-Explain-clause-bounded : goal.returns-in-Some-Explain-clause-bounded
returns-in-Some-Explain-clause-bounded g c = λ none.
    no_evaluation refl

pub returns-in-Some-Explain-clause-unmoved : goal.returns-in-Some-Explain-clause-unmoved
returns-in-Some-Explain-clause-unmoved g c = λ some.
    record { fetched = omega arith; probed = omega arith; tested = omega arith }

pub returns-in-Some-Explain-clause-boxes : goal.returns-in-Some-Explain-clause-boxes
returns-in-Some-Explain-clause-boxes g c =
    kept_leaves _ _ c.or_cut-in-Some-Explain.result c.or_cut-in-Some-Explain.ensures.none (still_itself _)
