use Rattle.std.proofs.Common.{◌∙◌, ◌<◌, ◌++◌, ℕ, List, length, map, sym, ap, subst}
use Rattle.step_put.specs.Puts.{AreAt}
use Rattle.op_subquery.specs.Kept.{KeptStep, kept_in}
use Rattle.std.specs.List.{AllByRecursion}
use Rattle.op_subquery.proofs.Feeding.{places_below, same_count}
use Rattle.op_subquery.proofs.Placing.{fed_at, steps_stay}
use Rattle.op_subquery.proofs.waiting.Waiting.take.Goals as goal

pub take_each-requires : goal.take_each-requires
take_each-requires c =
    let labels = c.args.rows.now.labels in
    let at = fed_at c.place.new.buffer c.place.new.placing labels c.place.ensures.placed (c.in_ok-place.ensures.fed ∙ c.labels.ensures.labels) in
    ap length c.places.ensures ∙ same_count c.place.new.buffer.labels labels c.place.new.placing.places at

pub returns : goal.returns
returns c =
    let labels = c.args.rows.now.labels in
    let inside = c.self.inside in
    let at = fed_at c.place.new.buffer c.place.new.placing labels c.place.ensures.placed (c.in_ok-place.ensures.fed ∙ c.labels.ensures.labels) in
    let stay = steps_stay c.has_none-fresh.result inside.labels.labels c.place.new.buffer.labels inside.steps.items c.has_none-fresh.ensures c.self.invariant.1 c.place.ensures.kept in
    c.in_ok-take_each.ensures.kept c.place.new.buffer.labels (subst (AreAt c.place.new.buffer.labels labels) (sym c.places.ensures) at)
    ∙ ap (λ (ks : List KeptStep). ks ++ map (kept_in labels) c.args.rows.now.steps) (stay.kept ∙ c.self.view_is)

pub invariant_of-self : goal.invariant_of-self
invariant_of-self c =
    let stay = steps_stay c.has_none-fresh.result c.self.inside.labels.labels c.place.new.buffer.labels c.self.inside.steps.items c.has_none-fresh.ensures c.self.invariant.1 c.place.ensures.kept in
    (c.place.ensures.placed, stay.within)

pub invariant_of-self-in_err-take_each : goal.invariant_of-self-in_err-take_each
invariant_of-self-in_err-take_each c =
    let labels = c.args.rows.now.labels in
    let own = c.place.new.buffer.labels in
    let at = fed_at c.place.new.buffer c.place.new.placing labels c.place.ensures.placed (c.in_ok-place.ensures.fed ∙ c.labels.ensures.labels) in
    let stay = steps_stay c.has_none-fresh.result c.self.inside.labels.labels own c.self.inside.steps.items c.has_none-fresh.ensures c.self.invariant.1 c.place.ensures.kept in
    (c.place.ensures.placed, c.take_each.ensures.within (length own) stay.within (subst (AllByRecursion (λ (p : ℕ). p < length own)) (sym c.places.ensures) (places_below own labels c.place.new.placing.places at)))

pub invariant_of-self-2 : goal.invariant_of-self-2
invariant_of-self-2 c =
    let labels = c.args.rows.now.labels in
    let own = c.place.new.buffer.labels in
    let at = fed_at c.place.new.buffer c.place.new.placing labels c.place.ensures.placed (c.in_ok-place.ensures.fed ∙ c.labels.ensures.labels) in
    let stay = steps_stay c.has_none-fresh.result c.self.inside.labels.labels own c.self.inside.steps.items c.has_none-fresh.ensures c.self.invariant.1 c.place.ensures.kept in
    (c.place.ensures.placed, c.take_each.ensures.within (length own) stay.within (subst (AllByRecursion (λ (p : ℕ). p < length own)) (sym c.places.ensures) (places_below own labels c.place.new.placing.places at)))
