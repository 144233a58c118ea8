use Rattle.std.proofs.Common.{arith}
use Rattle.op_rank.proofs.best.Best.settle.Goals as goal

pub returns-then-are_few : goal.returns-then-are_few
returns-then-are_few c = λ all holds. (holds, (let few = c.are_few.ensures.few c.if-are_few.true in let len = c.len.ensures in omega (arith, few, len)))

pub returns : goal.returns
returns c = λ all holds. ((c.cut.ensures.keeps all holds).0, (let count = c.cut.ensures.count in omega (arith, count)))
