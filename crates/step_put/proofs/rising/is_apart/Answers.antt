use Rattle.step_put.proofs.Making.{all_rising}
use Rattle.step_put.proofs.rising.is_apart.Goals as goal

pub returns-then-rises : goal.returns-then-rises
returns-then-rises c = λ h. all_rising c.args.places.now (c.requires.increasing c.if-rises.true) c.args.placed.now c.requires.within
