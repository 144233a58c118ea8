use Rattle.std.proofs.Common.{◌≡◌, drop, None, option_map}
use Rattle.script_check.specs.Beside.{rising}
use Rattle.script_check.proofs.paired.rises.Given as goal

abbrev pub invariant-loop-series : goal.invariant-loop-series
invariant-loop-series l = rising (option_map (λ b. b.now) l.before) (drop l.series-index l.all) ≡ rising None l.all
