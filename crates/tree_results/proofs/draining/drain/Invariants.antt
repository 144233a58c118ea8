use Rattle.std.proofs.Common.{◌≡◌, Option, map}
use Rattle.plan_tree.specs.Chains.{IsReady}
use Rattle.plan_tree.specs.Feeding.{HasGone}
use Rattle.plan_tree.specs.Nodes.{shape_of}
use Rattle.plan_tree.specs.RunLaws.{done}
use Rattle.plan_tree.specs.Spending.{HasSpent}
use Rattle.plan_tree.specs.Worlds.{Gathers}
use Rattle.ticks.specs.Works.{Counts}
use Rattle.tree_results.proofs.Far.{IsFar}
use Rattle.tree_results.proofs.Going.{left}
use Rattle.tree_results.proofs.draining.drain.Given as goal

abbrev pub invariant-loop-collected : goal.invariant-loop-collected
invariant-loop-collected g l =
    let es = map (λ b. (goal.Engine-dyn g (b.vtable, b.value)).seen b.value) l.fn.engines in
    let fs = map (λ b. (goal.Engine-dyn g (b.vtable, b.value)).seen b.value) l.engines in
    ((known : Option Gathers) → IsReady l.store l.fn.patterns known es l.fn.tree → IsReady l.store l.patterns known fs l.tree × IsFar l.store l.fn.patterns known (shape_of l.fn.tree.node) l.grid l.tree l.collected)
    × (l.patterns ≡ l.fn.patterns) × ((start : Counts) → HasSpent l.store l.fn.tree start l.fn.work → HasSpent l.store l.tree start l.work)
    × HasGone done es fs

abbrev pub decreases-loop-collected : goal.decreases-loop-collected
decreases-loop-collected g l = left l.grid l.tree.fed
