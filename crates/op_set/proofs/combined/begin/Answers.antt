use Rattle.step_batch.specs.Lent.{stages}
use Rattle.op_set.proofs.Rises.{begun_with}
use Rattle.op_set.proofs.combined.begin.Goals as goal

pub unite-requires-2 : goal.unite-requires-2
unite-requires-2 c = (c.in_ok-unite.ensures.free 0 c.in_ok-begin.ensures.free).0

pub returns-clause-begun : goal.returns-clause-begun
returns-clause-begun c = c.in_ok-unite-2.ensures.free 0 (c.in_ok-unite.ensures.free 0 c.in_ok-begin.ensures.free)

pub returns-clause-lent : goal.returns-clause-lent
returns-clause-lent c =
    begun_with (stages c.args.made.now) (stages c.begin.new.self) (stages c.unite.new.self) (stages c.unite-2.new.self) c.args.at c.args.left.now c.args.right.now
    c.in_ok-begin.ensures.stages c.in_ok-unite.ensures.stages c.in_ok-unite-2.ensures.stages
