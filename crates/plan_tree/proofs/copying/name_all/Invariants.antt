use Rattle.std.proofs.Common.{◌≡◌, take}
use Rattle.plan_tree.proofs.copying.name_all.Given as goal

abbrev pub invariant-loop-names : goal.invariant-loop-names
invariant-loop-names l = l.out.labels ≡ take l.names-index l.labels
