use Rattle.std.proofs.lemmas.Result.{err_from_is_err_and}
use Rattle.test_runner.proofs.begun.begin.Goals as goal

pub returns-in_err-store-clause-sure : goal.returns-in_err-store-clause-sure
returns-in_err-store-clause-sure c =
    let p = err_from_is_err_and c.from_residual.result c.from_residual.ensures.1 in
    rw (p.1, p.2) c.in_err-store.ensures.sure
