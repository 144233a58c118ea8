use Rattle.std.proofs.Common.{◌<◌, arith, length}
use Rattle.test_runner.proofs.Places.{empty_of}
use Rattle.test_runner.proofs.placing.are_none.Goals as goal

pub returns-in-empty-clause-none : goal.returns-in-empty-clause-none
returns-in-empty-clause-none c = λ e. empty_of c.args.declared.now (omega (arith, c.in-empty.len_below))

pub returns-in-len1-up-clause-some : goal.returns-in-len1-up-clause-some
returns-in-len1-up-clause-some c = λ e. omega (arith, c.in-len1-up.len_at_least)
