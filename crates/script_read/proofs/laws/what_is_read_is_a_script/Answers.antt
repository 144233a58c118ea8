use Rattle.script_read.proofs.BlocksFound.{script_found}
use Rattle.script_read.proofs.laws.what_is_read_is_a_script.Goals as goal

pub returns : goal.returns
returns c = λ kept bytes commands. script_found kept bytes commands
