use Rattle.std.proofs.Common.{List, map, refl, sym, subst}
use Rattle.step_put.specs.Placed.{left_of}
use Rattle.step_put.specs.Puts.{AreAt}
use Rattle.step_put.specs.declared.labels_left.Left.{Left}
use Rattle.step_put.specs.declared.labels_left.Left.TheVariants as kind
use Rattle.step_table.specs.Groups.{Names}
use Rattle.op_buckets.specs.Groups.{Grouped}
use Rattle.op_buckets.proofs.Made.{map_same}
use Rattle.op_buckets.proofs.groups.Groups.places.Goals as goal

pub returns-clause-there : goal.returns-clause-there
returns-clause-there c =
    let inside = c.self.inside in
    let named : AreAt inside.kept.labels (map (left_of kind.All) inside.placing.fed) inside.placing.places = subst (λ (left : Left). AreAt inside.kept.labels (map (left_of left) inside.placing.fed) inside.placing.places) c.self.invariant.1 c.self.invariant.0 in
    let all : AreAt inside.kept.labels inside.placing.fed inside.placing.places = subst (λ (z : List Names). AreAt inside.kept.labels z inside.placing.places) (map_same (left_of kind.All) inside.placing.fed (λ n. refl)) named in
    subst (λ (g : Grouped). AreAt g.groups g.fed c.places.result.now) c.self.view_is (subst (AreAt inside.kept.labels inside.placing.fed) (sym c.places.ensures) all)
