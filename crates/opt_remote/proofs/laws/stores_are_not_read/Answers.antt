use Rattle.opt_remote.proofs.Stores.{stores_not_read}
use Rattle.opt_remote.proofs.laws.stores_are_not_read.Goals as goal

pub returns : goal.returns
returns c = stores_not_read
