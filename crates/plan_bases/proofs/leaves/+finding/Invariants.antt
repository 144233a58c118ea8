use Rattle.std.proofs.Common.{◌≡◌, ◌++◌, drop, map}
use Rattle.plan_bases.specs.Leaves.{all_leaves, reading}
use Rattle.plan_bases.proofs.leaves.+finding.Given as goal

abbrev pub invariant-find_all-loop-p : goal.invariant-find_all-loop-p
invariant-find_all-loop-p l = l.found.items ++ all_leaves (map reading (drop l.p-index l.plans)) ≡ l.initial.found.items ++ all_leaves (map reading l.plans)
