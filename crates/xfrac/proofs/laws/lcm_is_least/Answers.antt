use Rattle.xfrac.proofs.Multiples.{dvd-lcm_left, dvd-lcm_right, lcm-dvd}
use Rattle.xfrac.proofs.laws.lcm_is_least.Goals as goal

pub returns-clause-multiple : goal.returns-clause-multiple
returns-clause-multiple c = λ a b left right. (dvd-lcm_left a b right, dvd-lcm_right a b)

pub returns-clause-least : goal.returns-clause-least
returns-clause-least c = lcm-dvd
