use Rattle.std.proofs.Common.{◌≡◌, ◌-◌, ◌≤◌, None, length}
use Rattle.remote_api.specs.Strays.{wrong_cell}
use Rattle.engine_local.proofs.Fronts.{IsNextOf}
use Rattle.engine_local.proofs.pulling.steps_from.Given as goal

abbrev pub invariant-loop-alloc : goal.invariant-loop-alloc
invariant-loop-alloc g l = record {
  front : IsNextOf l.store l.one l.steps l.next;
  few : length l.steps ≤ l.most;
  well : wrong_cell l.one.ask l.steps ≡ None;
  same : l.patterns ≡ l.fn.patterns;
}

abbrev pub decreases-loop-alloc : goal.decreases-loop-alloc
decreases-loop-alloc g l = l.most - length l.steps
