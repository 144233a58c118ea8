use Rattle.std.proofs.Common.{arith}
use Rattle.op_running.proofs.LostSums.{more_first, more_last, room}
use Rattle.op_running.proofs.losses.LossSummary.more.Goals as goal

pub with_loss-requires : goal.with_loss-requires
with_loss-requires c = room c.args.self c.requires.0 c.requires.1 (let h = c.requires.2 in omega arith)

pub returns-in-None : goal.returns-in-None
returns-in-None c = λ xs h. more_first c.args.self c.args.value.now xs c.is_number.ensures c.in-None.is h

pub returns-in-Some : goal.returns-in-Some
returns-in-Some c = λ xs h. more_last c.args.self c.args.value.now c.in-Some.first c.in-Some.last xs c.with_loss.result c.is_number.ensures c.in-Some.is c.with_loss.ensures h
