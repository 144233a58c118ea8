use Rattle.std.proofs.Common.{◌≡◌, ◌≤◌, ◌-◌, length}
use Rattle.plan_tree.specs.Chains.{Chain}
use Rattle.plan_tree.specs.Feeds.{fed_on}
use Rattle.plan_tree.proofs.turns.instants.Given as goal

abbrev pub invariant-loop-end : goal.invariant-loop-end
invariant-loop-end l = record {
  chain : Chain l.walk l.fn.fed l.at;
  end : l.end ≡ fed_on l.fn.fed l.at;
  few : length l.at ≤ l.most;
}

abbrev pub decreases-loop-end : goal.decreases-loop-end
decreases-loop-end l = l.most - length l.at
