use Rattle.std.proofs.Common.{◌≡◌, ◌+◌, ◌*◌}
use Rattle.subquery_rows.specs.Rings.{IsNextAfter, time_left}
use Rattle.ticks.specs.Walks.{moment_at}
use Rattle.plan_tree.specs.Counting.{fetched_by}
use Rattle.plan_tree.specs.Feeding.{HasRun, OthersStay}
use Rattle.plan_tree.specs.Feeds.{last_of}
use Rattle.plan_tree.specs.Nodes.{shape_of}
use Rattle.plan_tree.proofs.Filling.{Fills}
use Rattle.plan_tree.proofs.Heights.{height}
use Rattle.plan_tree.proofs.Runs.{done}
use Rattle.plan_tree.proofs.Spent.{Filled}
use Rattle.plan_tree.proofs.node.+running.Given as goal

abbrev pub decreases-Node::feed : goal.decreases-Node::feed
decreases-Node::feed g l = 2 * height (shape_of l.self.now)

abbrev pub decreases-fill : goal.decreases-fill
decreases-fill g l = 2 * height (shape_of l.inner.now) + 1

abbrev pub decreases-ready : goal.decreases-ready
decreases-ready g l = 2 * height (shape_of l.child.now) + 1

abbrev pub invariant-fill-loop-u : goal.invariant-fill-loop-u
invariant-fill-loop-u g l =
    let es = g.O.Outside.engines l.fn.outside in
    let fs = g.O.Outside.engines l.outside in
    record {
      f : l.kernel.f ≡ l.fn.kernel.f;
      walk : l.kernel.walk ≡ l.fn.kernel.walk;
      moment : l.kernel.points.moment ≡ l.fn.kernel.points.moment;
      range : l.kernel.points.range ≡ l.fn.kernel.points.range;
      step : l.kernel.points.step ≡ l.fn.kernel.points.step;
      shape : shape_of l.inner ≡ shape_of l.fn.inner;
      same : l.patterns ≡ l.fn.patterns;
      next : IsNextAfter l.kernel.walk (last_of l.now) l.kernel.next;
      filled : Fills l.store l.fn.patterns es fs (g.O.Outside.places l.fn.outside) (g.O.Outside.places l.outside) l.fn.fed l.now l.fn.kernel l.kernel l.t l.fn.inner l.inner;
      others : OthersStay (shape_of l.fn.inner) (g.O.Outside.places l.fn.outside) (g.O.Outside.places l.outside);
      names : g.O.Outside.names l.outside ≡ g.O.Outside.names l.fn.outside;
      run : HasRun done es fs;
      spent : Filled l.store l.fn.kernel.walk l.fn.fed l.now l.fn.inner l.inner l.fn.work l.work;
      counted : l.work.fetched + fetched_by l.store l.fn.fed l.fn.inner ≡ l.fn.work.fetched + fetched_by l.store l.now l.inner;
    }

abbrev pub decreases-fill-loop-u : goal.decreases-fill-loop-u
decreases-fill-loop-u g l = time_left l.kernel.next (moment_at l.fn.kernel.points.moment l.t.0)
