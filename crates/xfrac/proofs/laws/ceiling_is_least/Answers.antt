use Rattle.std.proofs.Common.{refl}
use Rattle.xfrac.proofs.Floors.{ceiling_not_below, ceiling_is_least}
use Rattle.xfrac.proofs.laws.ceiling_is_least.Goals as goal

pub returns-clause-whole : goal.returns-clause-whole
returns-clause-whole c = λ f. refl

pub returns-clause-not_below : goal.returns-clause-not_below
returns-clause-not_below c = ceiling_not_below

pub returns-clause-least : goal.returns-clause-least
returns-clause-least c = ceiling_is_least
