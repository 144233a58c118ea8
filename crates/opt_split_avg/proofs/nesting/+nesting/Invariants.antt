use Rattle.std.proofs.Common.{◌≡◌, map, drop}
use Rattle.std.specs.Prelude.{max}
use Rattle.opt_split_avg.specs.Averages.{deepest_of, nested}
use Rattle.opt_split_avg.proofs.nesting.+nesting.Given as goal

abbrev pub invariant-all_nested-loop-p : goal.invariant-all_nested-loop-p
invariant-all_nested-loop-p l = max l.found (deepest_of (map nested (drop l.p-index l.plans))) ≡ deepest_of (map nested l.plans)
