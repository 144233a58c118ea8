use Rattle.op_running.proofs.LostSums.{both_lost, none_first, none_last, room, room_both}
use Rattle.std.proofs.Common.{arith}
use Rattle.op_running.proofs.losses.LossSummary.joined.Goals as goal

pub returns-in-None : goal.returns-in-None
returns-in-None c = λ xs ys p q. none_first c.args.self.now c.args.behind.now xs ys c.in-None.is p q

pub returns-in-None-ends : goal.returns-in-None-ends
returns-in-None-ends c = λ xs ys p q. none_last c.args.self.now c.args.behind.now xs ys c.in-None-ends.is p q

pub with_loss-lost-requires : goal.with_loss-lost-requires
with_loss-lost-requires c = room c.args.self.now c.requires.0 c.requires.2 (let h = c.requires.4 in omega arith)

pub both-requires : goal.both-requires
both-requires c = room_both c.args.self.now c.args.behind.now c.in-Some.last c.in-Some-ends.next c.requires.0 c.requires.1 c.with_loss-lost.result c.with_loss-lost.ensures c.requires.2 c.requires.3 c.requires.4

pub returns-in-Some-ends : goal.returns-in-Some-ends
returns-in-Some-ends c = λ xs ys p q. both_lost c.args.self.now c.args.behind.now c.in-Some.first c.in-Some.last c.in-Some-ends.next c.in-Some-ends.end xs ys c.with_loss-lost.result c.both.result c.in-Some.is c.in-Some-ends.is c.with_loss-lost.ensures c.both.ensures p q
