use Rattle.ticks.proofs.Instants.{instants-numbered}
use Rattle.ticks.proofs.laws.instants_are_numbered.Goals as goal

pub returns : goal.returns
returns c = instants-numbered
