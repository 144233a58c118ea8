use Rattle.std.proofs.Common.{arith}
use Rattle.script_read.specs.Lines.{lines_of}
use Rattle.script_read.proofs.Few.{commands_few}
use Rattle.script_read.proofs.Growing.{gathers_gains}
use Rattle.script_read.proofs.reader.read.Goals as goal

pub returns-in-None-clause-gains : goal.returns-in-None-clause-gains
returns-in-None-clause-gains c = gathers_gains (lines_of c.args.bytes.now) c.args.searches.now c.read_text.new.searches c.read_text.ensures.grows

pub returns-in-None-clause-few : goal.returns-in-None-clause-few
returns-in-None-clause-few c = commands_few c.read_text.result c.read_text.new.searches c.args.bytes.now (omega arith) c.read_text.ensures.said
