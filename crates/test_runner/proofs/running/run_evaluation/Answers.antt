use Rattle.test_runner.proofs.Carrying.{less_written}
use Rattle.test_runner.proofs.running.run_evaluation.Goals as goal

pub returns-in_err-write_all-clause-cut : goal.returns-in_err-write_all-clause-cut
returns-in_err-write_all-clause-cut g c =
    less_written c.in_ok-line.line.text.items c.deref.result.now c.in_ok-line.line.passed c.from_residual-in_err-write_all.result c.in_ok-line.ensures.line c.deref.ensures.value c.in_err-write_all.ensures.err
