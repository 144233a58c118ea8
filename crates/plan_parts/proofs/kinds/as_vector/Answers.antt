use Rattle.ticks.specs.Walks.{IsInstant}
use Rattle.plan_parts.proofs.Grown.{named_below, onces_below, part_at}
use Rattle.plan_parts.proofs.Giving.{sort_gives, vector_gives}
use Rattle.plan_parts.specs.Parts.{of_sort, of_vector}
use Rattle.plan_tree.specs.Worlds.{world}
use Rattle.plan_tree.specs.Nodes.{shape_of}
use Rattle.plan_tree.specs.Shapes.{rule}
use Rattle.plan_work.specs.PlanLaws.{IsOver}
use Rattle.plan_parts.proofs.kinds.as_vector.Goals as goal

pub returns-clause-sort : goal.returns-clause-sort
returns-clause-sort c = λ asked walk before now p inner down e i.
    let rows = c.in_ok-rows.rows in
    let r = part_at asked walk before now inner c.args.rows rows c.in_ok-rows.was i in
    record {
      sound = r.sound;
      added = r.added;
      owns = r.owns;
      asks = r.asks;
      named = named_below inner p before now (of_sort down e) r.named;
      make = r.make;
      scalar = λ h. absurd (cc);
      gives = λ gathers meant stay. sort_gives asked (IsInstant walk) p inner rows.scalar rows.own (rule (world asked.samples gathers) asked.kept (shape_of rows.tree)) (r.gives gathers meant (onces_below asked inner p (of_sort down e) stay)) down e;
      within = c.trees_stay_within.ensures.same asked walk inner p (shape_of rows.tree) (IsOver.of_sort down e) r.within;
    }

pub returns-clause-vector : goal.returns-clause-vector
returns-clause-vector c = λ asked walk before now p inner e i.
    let rows = c.in_ok-rows.rows in
    let r = part_at asked walk before now inner c.args.rows rows c.in_ok-rows.was i in
    record {
      sound = r.sound;
      added = r.added;
      owns = r.owns;
      asks = r.asks;
      named = named_below inner p before now (of_vector e) r.named;
      make = r.make;
      scalar = λ h. absurd (cc);
      gives = λ gathers meant stay. vector_gives asked (IsInstant walk) p inner rows.scalar rows.own (rule (world asked.samples gathers) asked.kept (shape_of rows.tree)) (r.gives gathers meant (onces_below asked inner p (of_vector e) stay)) e;
      within = c.trees_stay_within.ensures.same asked walk inner p (shape_of rows.tree) (IsOver.of_vector e) r.within;
    }
