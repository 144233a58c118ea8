use Rattle.parting_laws.proofs.Ending.{end_alike}
use Rattle.parting_laws.proofs.laws.agreeing_steps_end_alike.Goals as goal

pub returns : goal.returns
returns c = end_alike
