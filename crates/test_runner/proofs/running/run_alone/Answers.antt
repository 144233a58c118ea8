use Rattle.std.proofs.lemmas.Result.{err_from_is_err_and}
use Rattle.test_runner.proofs.Carrying.{cut_none, when_cut}
use Rattle.test_runner.proofs.running.run_alone.Goals as goal
use Rattle.test_runner.specs.Spending.{ended}

pub returns-in_err-begun-clause-cut : goal.returns-in_err-begun-clause-cut
returns-in_err-begun-clause-cut g c = when_cut c.from_residual.result _ (cut_none _ _ _ _ _ _ _)

pub returns-in_err-begun-clause-bounded : goal.returns-in_err-begun-clause-bounded
returns-in_err-begun-clause-bounded g c = ended _ _ _

pub returns-in_err-begun-clause-sure : goal.returns-in_err-begun-clause-sure
returns-in_err-begun-clause-sure g c =
    let p = err_from_is_err_and c.from_residual.result c.from_residual.ensures.1 in
    rw (p.1, p.2) c.in_err-begun.ensures.sure
