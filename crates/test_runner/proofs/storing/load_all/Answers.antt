use Rattle.test_runner.proofs.storing.load_all.Goals as goal

pub returns-in-Err-clause-sure : goal.returns-in-Err-clause-sure
returns-in-Err-clause-sure c = c.in-Err.ensures.sure
