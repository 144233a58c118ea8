use Rattle.xfrac.proofs.power.+limited_power.Given as goal

abbrev pub decreases-limited_power : goal.decreases-limited_power
decreases-limited_power l = l.k
