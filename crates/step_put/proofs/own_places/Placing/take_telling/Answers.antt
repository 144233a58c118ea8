use Rattle.std.proofs.Common.{length, map, refl, rules}
use Rattle.step_put.proofs.Keeping.{at_cut}
use Rattle.step_put.specs.Placed.{left_of}
use Rattle.step_put.specs.Puts.{AreAt}
use Rattle.step_put.proofs.own_places.Placing.take_telling.Goals as goal

pub placed-requires-clause-named : goal.placed-requires-clause-named
placed-requires-clause-named c =
    let before = c.replace-before.result in
    let at : AreAt c.args.buffer.now.labels (map (left_of c.self.inside.left) before.fed.items) before.places.items = search rules in
    at_cut (left_of c.self.inside.left) c.args.buffer.now.labels c.args.buffer.now.labels before.fed.items c.cut-kept.result.fed.items before.places.items c.cut-kept.result.places.items (length c.args.labels.now)
    refl c.cut-kept.ensures.fed c.cut-kept.ensures.places at
