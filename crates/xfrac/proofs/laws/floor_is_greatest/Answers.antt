use Rattle.std.proofs.Common.{refl}
use Rattle.xfrac.proofs.Floors.{floor_not_above, floor_is_greatest}
use Rattle.xfrac.proofs.laws.floor_is_greatest.Goals as goal

pub returns-clause-whole : goal.returns-clause-whole
returns-clause-whole c = λ f. refl

pub returns-clause-not_above : goal.returns-clause-not_above
returns-clause-not_above c = floor_not_above

pub returns-clause-greatest : goal.returns-clause-greatest
returns-clause-greatest c = floor_is_greatest
