use Rattle.std.proofs.Common.{ap}
use Rattle.step_batch.specs.Lent.{Lent, stages, with_slot}
use Rattle.op_aggregate.proofs.OneByOne.{still_begun, value_put}
use Rattle.op_aggregate.proofs.putting.put_value.Goals as goal

pub returns-in_ok-put-in-Some-clause-begun : goal.returns-in_ok-put-in-Some-clause-begun
returns-in_ok-put-in-Some-clause-begun c =
    still_begun (with_slot c.args.place c.in-Some.value) c.args.buffer.now.steps c.put.new.self.steps (ap (λ (z : Lent). z.steps) c.in_ok-put-in-Some.ensures.ok) c.requires.begun

pub returns-in_ok-put-in-Some-clause-lent : goal.returns-in_ok-put-in-Some-clause-lent
returns-in_ok-put-in-Some-clause-lent c = λ front at es marks o.
    value_put (stages c.args.buffer.now) (stages c.put.new.self) front at es marks c.args.buffer.now.labels c.args.place c.in-Some.value c.args.value c.in-Some.is c.requires.there c.in_ok-put-in-Some.ensures.stages o
