use Rattle.std.proofs.Common.{◌≡◌, ◌∙◌, ◌+◌, ◌<◌, ◌++◌, List, length, None, refl, subst, sym, ap, arith}
use Rattle.std.specs.Prelude.{IsTrue, not}
use Rattle.op_small.specs.declared.rule.SmallRule.{SmallRule}
use Rattle.plan_tree.specs.Asking.{HaveRequests}
use Rattle.plan_tree.specs.Nodes.{CanGo, shape_of}
use Rattle.plan_tree.specs.Shapes.{AreDistinct, IsFit, StaysInTimes, is_scalar, places_of, rule}
use Rattle.plan_tree.specs.Worlds.{world}
use Rattle.plan_tree.specs.declared.node.Node.{Node}
use Rattle.promql_meaning.specs.Givens.{barren, no_marks}
use Rattle.step_kernels.specs.Unaries.{reads_rows}
use Rattle.ticks.specs.Listed.{IsListed}
use Rattle.ticks.specs.declared.moment.Ms.{Ms}
use Rattle.ticks.specs.declared.walk.Walk.{Walk, Grid}
use Rattle.ticks.specs.declared.walk.Walk.TheVariants.{Multiples}
use Rattle.gather_tree_tests.specs.Fitting.{IsNearby}
use Rattle.gather_tree_tests.specs.Growing.{at_once, reach, stride}
use Rattle.gather_tree_tests.proofs.Grown.{grid_nearby, grid_time, inner_nearby, leaf_asked, leaf_fits, leaf_goes, leaf_stays, one_apart}
use Rattle.gather_tree_tests.proofs.Requests.{none_fitting}
use Rattle.gather_tree_tests.proofs.trees.subquery.Goals as goal

pub gather-requires : goal.gather-requires
gather-requires c = record {
  nearby = subst IsNearby (sym c.in_ok-walk.ensures) (inner_nearby c.walks_keep_to_times.ensures.grids c.walks_keep_to_times.ensures.subqueries c.args.grid.now);
  fitting = none_fitting _ _ c.requires;
}

pub new-requires : goal.new-requires
new-requires c = (inner_nearby c.walks_keep_to_times.ensures.grids c.walks_keep_to_times.ensures.subqueries c.args.grid.now).leads

pub returns : goal.returns
returns c =
    let g = c.args.grid.now in
    let all = inner_nearby c.walks_keep_to_times.ensures.grids c.walks_keep_to_times.ensures.subqueries g in
    let near = grid_nearby c.walks_keep_to_times.ensures.grids g in
    let asked = c.in_ok-inner.ensures in
    let x = c.gather.new.exchange in
    let more : length x.requests ≡ length c.args.exchange.requests + 1 = asked.more in
    let low : length c.args.exchange.requests < length x.requests = omega (arith, more) in
    let inner = c.in_ok-new.ensures.ok ∙ asked.leaf in
    let scalar = c.in_ok-new-2.ensures.ok in
    let made = c.in_ok-kernel.ensures in
    let own = (made.stands (λ t. barren no_marks)).walk in
    let walk_is = own ∙ (λ j. Multiples (Grid g) (made.moment j) (made.range j) (made.step j)) in
    let times = c.walks_are_listed.ensures.one (Multiples (Grid g) at_once reach stride) all.leads in
    let number : IsTrue (not (reads_rows c.in_ok-number.number.rule)) = ap (λ (r : SmallRule). not (reads_rows r)) c.in_ok-number.ensures.rule in
    record {
      walk = c.in_ok-walk.walk;
      nearby = subst IsNearby (sym c.in_ok-walk.ensures) all;
      fitting = asked.fitting;
      requests = λ outer listed. (
        subst (λ (n : Node). HaveRequests x.requests outer n) (sym scalar) tt,
        refl,
        times.0,
        subst (λ (w : Walk). IsListed w times.0) (sym walk_is) times.1,
        leaf_asked c.in_ok-walk.walk x times.0 _ _ inner low asked.fitting (subst (λ (w : Walk). IsListed w times.0) (sym c.in_ok-walk.ensures) times.1),
      );
      can = λ store kept gathers places. (
        record { outer = Grid g; stands = made.stands (rule (world store gathers) kept (shape_of c.in_ok-new.field-0.value)); next = made.next },
        leaf_goes _ _ _ _ _ _ inner,
        subst (λ (n : Node). CanGo (world store gathers) kept places None n) (sym scalar) tt,
      );
      fit = λ store. (
        λ u on. leaf_stays u _ _ inner,
        λ h. subst (λ (n : Node). IsTrue (is_scalar (shape_of n))) (sym scalar) refl,
        leaf_fits store _ _ inner,
        subst (λ (n : Node). IsFit store (shape_of n)) (sym scalar) number,
      );
      stays = λ t on. (grid_time g t (near.near t on), (Grid g, own, on), subst (λ (n : Node). StaysInTimes (shape_of n) t) (sym scalar) tt);
      apart = subst (λ (n : Node). AreDistinct (places_of (shape_of n) ++ places_of (shape_of c.in_ok-new.field-0.value))) (sym scalar) (one_apart _ _ inner);
    }
