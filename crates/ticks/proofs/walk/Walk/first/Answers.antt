use Rattle.std.proofs.Common.{arith}
use Rattle.std.proofs.lemmas.Int.{ints}
use Rattle.ticks.proofs.Walks.{first-least, first-none}
use Rattle.ticks.proofs.walk.Walk.first.Goals as goal

pub returns-clause-least : goal.returns-clause-least
returns-clause-least c = first-least c.args.self.now c.requires.times c.after.result _ (omega (arith, ints)) c.after.ensures.least

pub returns-clause-none : goal.returns-clause-none
returns-clause-none c = first-none c.args.self.now c.requires.times c.after.result _ (omega (arith, ints)) c.after.ensures.none
