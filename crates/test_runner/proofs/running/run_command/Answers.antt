use Rattle.std.proofs.Common.{[], refl}
use Rattle.std.proofs.lemmas.Result.{err_from_is_err_and}
use Rattle.test_runner.specs.declared.totals.Totals.{Totals}
use Rattle.test_runner.proofs.Carrying.{carried_change, carried_evaluation, cut_evaluation, cut_none, is_change, when_cut}
use Rattle.test_runner.proofs.Engines.{no_run_by}
use Rattle.test_runner.proofs.Spending.{change_spends, evaluation_spends}
use Rattle.test_runner.proofs.running.run_command.Goals as goal

pub returns-in_err-passed-in-Eval-clause-cut : goal.returns-in_err-passed-in-Eval-clause-cut
returns-in_err-passed-in-Eval-clause-cut g c =
    let cut = cut_evaluation c.args.options.now.closed [] c.args.searches.now c.args.path.now c.args.store.now c.args.command.now c.in-Eval.grid c.in-Eval.instant c.in-Eval.text c.in-Eval.expected c.in-Eval.is
    (g.S.Sink.written c.args.out.now) (g.S.Sink.written c.run_evaluation.new.out) c.in_err-passed-in-Eval.ensures.cut in
    when_cut c.from_residual.result _ cut

pub returns-in_err-change_store-in-Clear-clause-cut : goal.returns-in_err-change_store-in-Clear-clause-cut
returns-in_err-change_store-in-Clear-clause-cut g c =
    when_cut c.from_residual-in_err-change_store-in-Clear.result _ (cut_none _ _ _ _ _ _ _)

pub returns-in_ok-passed-in-Eval-clause-ran : goal.returns-in_ok-passed-in-Eval-clause-ran
returns-in_ok-passed-in-Eval-clause-ran g c =
    carried_evaluation c.args.options.now.closed [] c.args.searches.now c.args.path.now c.args.store.now c.args.command.now c.in-Eval.grid c.in-Eval.instant c.in-Eval.text c.in-Eval.expected c.in-Eval.is
    (g.S.Sink.written c.args.out.now) (g.S.Sink.written c.run_evaluation.new.out)
    c.in_ok-passed-in-Eval.passed c.of_one.result c.in_ok-passed-in-Eval.ensures.ran c.of_one.ensures.passed c.of_one.ensures.failed

pub returns-in_ok-change_store-in-Clear-clause-ran : goal.returns-in_ok-change_store-in-Clear-clause-ran
returns-in_ok-change_store-in-Clear-clause-ran g c =
    carried_change c.args.options.now.closed [] c.args.searches.now c.args.path.now c.args.store.now c.change_store.new.store c.args.command.now (g.S.Sink.written c.args.out.now) _
    (is_change c.args.command.now.what c.in-Clear.is) c.in_ok-change_store-in-Clear.ensures.left refl refl

pub returns-in_err-passed-in-Eval-clause-bounded : goal.returns-in_err-passed-in-Eval-clause-bounded
returns-in_err-passed-in-Eval-clause-bounded g c =
    evaluation_spends c.args.options.now c.args.store.now c.args.command.now.what _ c.args.work.now c.run_evaluation.new.work c.in-Eval.is c.run_evaluation.ensures.bounded

pub returns-in_ok-passed-in-Eval-clause-bounded : goal.returns-in_ok-passed-in-Eval-clause-bounded
returns-in_ok-passed-in-Eval-clause-bounded g c =
    evaluation_spends c.args.options.now c.args.store.now c.args.command.now.what _ c.args.work.now c.run_evaluation.new.work c.in-Eval.is c.run_evaluation.ensures.bounded

pub returns-in_err-change_store-in-Clear-clause-bounded : goal.returns-in_err-change_store-in-Clear-clause-bounded
returns-in_err-change_store-in-Clear-clause-bounded g c =
    change_spends c.args.options.now c.args.store.now c.args.command.now.what c.args.work.now (is_change c.args.command.now.what c.in-Clear.is)

pub returns-in_ok-change_store-in-Clear-clause-bounded : goal.returns-in_ok-change_store-in-Clear-clause-bounded
returns-in_ok-change_store-in-Clear-clause-bounded g c =
    change_spends c.args.options.now c.args.store.now c.args.command.now.what c.args.work.now (is_change c.args.command.now.what c.in-Clear.is)

pub returns-in_err-passed-in-Eval-clause-sure : goal.returns-in_err-passed-in-Eval-clause-sure
returns-in_err-passed-in-Eval-clause-sure g c =
    let p = err_from_is_err_and c.from_residual.result c.from_residual.ensures.1 in
    rw (p.1, p.2) (no_run_by Totals c.in_err-passed-in-Eval.field-0.0)

pub returns-in_err-change_store-in-Clear-clause-sure : goal.returns-in_err-change_store-in-Clear-clause-sure
returns-in_err-change_store-in-Clear-clause-sure g c =
    let p = err_from_is_err_and c.from_residual-in_err-change_store-in-Clear.result c.from_residual-in_err-change_store-in-Clear.ensures.1 in
    rw (p.1, p.2) c.in_err-change_store-in-Clear.ensures.sure
