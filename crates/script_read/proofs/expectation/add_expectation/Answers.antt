use Rattle.std.proofs.Common.{sym}
use Rattle.std.proofs.lemmas.Result.{err_from_is_err_and}
use Rattle.script_read.specs.Expects.{expectation_of}
use Rattle.script_read.proofs.Sparing.{expectation_spares, refused_none}
use Rattle.script_read.proofs.expectation.add_expectation.Goals as goal

pub returns-in_err-asked-clause-refused : goal.returns-in_err-asked-clause-refused
returns-in_err-asked-clause-refused c =
    let p = err_from_is_err_and c.from_residual.result c.from_residual.ensures.1 in
    rw (p.1, p.2) (refused_none _ (expectation_of c.args.text.now) c.in_err-asked.field-0.0 (sym c.in_err-asked.ensures) (expectation_spares c.args.text.now))
