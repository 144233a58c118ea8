use Rattle.script_read.proofs.CommandsFound.{heading_found}
use Rattle.script_read.proofs.CommandsRead.{heading_read}
use Rattle.script_read.proofs.ExpectationsFound.{expectation_found}
use Rattle.script_read.proofs.ExpectationsRead.{expectation_read}
use Rattle.script_read.proofs.laws.lines_are_told.Goals as goal

pub returns : goal.returns
returns c = record {
  commands = λ text order. (heading_found text order, heading_read text order);
  expectations = λ text x. (expectation_found text x, expectation_read text x);
}
