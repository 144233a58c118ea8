use Rattle.std.proofs.Common.{◌≡◌, ◌++◌, drop, map}
use Rattle.opt_selects.specs.Selectors.{all_selectors, selectors}
use Rattle.opt_selects.proofs.found.+finding.Given as goal

abbrev pub invariant-find_all-loop-p : goal.invariant-find_all-loop-p
invariant-find_all-loop-p l = l.found.items ++ all_selectors (map selectors (drop l.p-index l.plans)) ≡ l.initial.found.items ++ all_selectors (map selectors l.plans)
