use Rattle.std.proofs.Common.{◌+◌}
use Rattle.xfrac.proofs.ratio.+is_less_by_parts.Given as goal

abbrev pub decreases-is_less_by_parts : goal.decreases-is_less_by_parts
decreases-is_less_by_parts l = l.b + l.d
