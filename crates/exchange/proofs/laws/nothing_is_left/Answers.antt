use Rattle.exchange.proofs.Filling.{nothing_left}
use Rattle.exchange.proofs.laws.nothing_is_left.Goals as goal

pub returns : goal.returns
returns c = nothing_left
