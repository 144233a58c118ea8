use Rattle.sample_store.specs.Samples.{AllSeries}
use Rattle.std.specs.Prelude.{⊤}
use Rattle.std.proofs.lemmas.Result.{err_from_is_err_and}
use Rattle.test_runner.proofs.Engines.{answers_as}
use Rattle.test_runner.specs.Loads.{samples_left}
use Rattle.test_runner.proofs.over.judge_loads.Goals as goal

pub returns-in_err-load_all-clause-refused : goal.returns-in_err-load_all-clause-refused
returns-in_err-load_all-clause-refused c =
    let p = err_from_is_err_and c.from_residual.result c.from_residual.ensures.1 in
    rw (p.1, p.2) (answers_as AllSeries ⊤ (samples_left c.args.declared.now c.args.script.now) c.in_err-load_all.field-0.0 c.in_err-load_all.ensures.refused)

pub returns-in_err-load_all-clause-sure : goal.returns-in_err-load_all-clause-sure
returns-in_err-load_all-clause-sure c =
    let p = err_from_is_err_and c.from_residual.result c.from_residual.ensures.1 in
    rw (p.1, p.2) c.in_err-load_all.ensures.sure
