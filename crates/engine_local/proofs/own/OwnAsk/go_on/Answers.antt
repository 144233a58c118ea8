use Rattle.engine_local.proofs.Instants.{relisted}
use Rattle.engine_local.proofs.own.OwnAsk.go_on.Goals as goal

pub returns : goal.returns
returns c = relisted c.args.self.now c.args.count c.args.next _
