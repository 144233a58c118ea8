use Rattle.std.proofs.Common.{◌≡◌, ◌∙◌, [], ◌∷◌, List, ℕ, IfOk, refl, subst}
use Rattle.std.proofs.lemmas.Result.{err_from_is_err_and}
use Rattle.promql_tool.specs.Boxes.{IfLost}
use Rattle.promql_tool.specs.Chosen.{under}
use Rattle.promql_tool.specs.Ended.{EndsFiles}
use Rattle.promql_tool.specs.Found.{Just}
use Rattle.promql_tool.proofs.BoxLists.{kept_itself, write_keeps}
use Rattle.promql_tool.specs.Runs.{Ends, IsCutFiles, IsStoppedFiles, ReportsFiles}
use Rattle.promql_tool.specs.Workload.{workload_path}
use Rattle.promql_tool.proofs.WorkloadRun.{behind_loaded, loaded_cut, stopped_behind}
use Rattle.promql_tool.specs.Spending.{FileSpends, no_file}
use Rattle.promql_tool.proofs.working.run_workload.Goals as goal

pub returns-in_err-print_loaded-clause-ends : goal.returns-in_err-print_loaded-clause-ends
returns-in_err-print_loaded-clause-ends g c =
    let p = err_from_is_err_and c.from_residual-in_err-print_loaded.result c.from_residual-in_err-print_loaded.ensures.1 in
    λ tell. rw p.1 (loaded_cut (under c.args.options.now.closed c.args.declared.now) c.args.series (g.S.Sink.written c.args.out.now) (g.S.Sink.written c.print_loaded.new.out) c.in_err-print_loaded.ensures.err)

pub returns-clause-ends : goal.returns-clause-ends
returns-clause-ends g c = λ tell.
    let before = g.S.Sink.written c.args.out.now in
    let mid = g.S.Sink.written c.print_loaded.new.out in
    let now = g.S.Sink.written c.run_text.new.out in
    let idle = c.run_text.new.work ≡ c.args.work.now in
    let text = c.deref.ensures.value ∙ c.in_ok-text.ensures in
    let IsEnd = λ (bytes : List ℕ). Ends (ReportsFiles (under c.args.options.now.closed c.args.declared.now) (Just bytes) (workload_path ∷ []) idle) (IsCutFiles (under c.args.options.now.closed c.args.declared.now) (Just bytes) (workload_path ∷ []) mid now) mid now c.run_text.result in
    behind_loaded (under c.args.options.now.closed c.args.declared.now) c.args.series before mid now idle c.in_ok-print_loaded.ensures.ok c.run_text.result (subst IsEnd text (c.run_text.ensures.ends tell))

pub returns-in_err-text-clause-bounded : goal.returns-in_err-text-clause-bounded
returns-in_err-text-clause-bounded g c = λ none. no_file refl

pub returns-in_err-print_loaded-clause-bounded : goal.returns-in_err-print_loaded-clause-bounded
returns-in_err-print_loaded-clause-bounded g c = λ none. no_file refl

pub returns-clause-bounded : goal.returns-clause-bounded
returns-clause-bounded g c = λ none.
    subst (λ (bytes : List ℕ). FileSpends c.args.options.now (Just bytes) workload_path c.args.work.now c.run_text.new.work) (c.deref.ensures.value ∙ c.in_ok-text.ensures) (c.run_text.ensures.bounded none)

pub returns-clause-came : goal.returns-clause-came
returns-clause-came g c =
    let IsEnd = λ (bytes : List ℕ). IfOk c.run_text.result (λ status. EndsFiles (under c.args.options.now.closed c.args.declared.now) (Just bytes) (workload_path ∷ []) (c.run_text.new.work ≡ c.args.work.now) (g.S.Sink.written c.run_text.new.out) status.0) in
    subst IsEnd (c.deref.ensures.value ∙ c.in_ok-text.ensures) c.run_text.ensures.came

pub returns-clause-stopped : goal.returns-clause-stopped
returns-clause-stopped g c = λ tell.
    let before = g.S.Sink.written c.args.out.now in
    let mid = g.S.Sink.written c.print_loaded.new.out in
    let now = g.S.Sink.written c.run_text.new.out in
    let IsEnd = λ (bytes : List ℕ). IfLost c.run_text.result (λ _. IsStoppedFiles (under c.args.options.now.closed c.args.declared.now) (Just bytes) (workload_path ∷ []) mid now) in
    stopped_behind (under c.args.options.now.closed c.args.declared.now) c.args.series before mid now (Unit {0}) c.in_ok-print_loaded.ensures.ok c.run_text.result (subst IsEnd (c.deref.ensures.value ∙ c.in_ok-text.ensures) (c.run_text.ensures.stopped tell))

pub returns-in_err-text-clause-boxes : goal.returns-in_err-text-clause-boxes
returns-in_err-text-clause-boxes g c =
    let p = err_from_is_err_and c.from_residual.result c.from_residual.ensures.1 in
    rw (p.1, p.2) (kept_itself _)

pub returns-in_err-print_loaded-clause-boxes : goal.returns-in_err-print_loaded-clause-boxes
returns-in_err-print_loaded-clause-boxes g c =
    let p = err_from_is_err_and c.from_residual-in_err-print_loaded.result c.from_residual-in_err-print_loaded.ensures.1 in
    rw (p.1, p.2) (write_keeps c.in_err-print_loaded.field-0.0 _)
