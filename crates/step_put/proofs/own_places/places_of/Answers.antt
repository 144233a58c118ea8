use Rattle.std.proofs.Common.{◌∙◌, ◌+◌, ℕ, List, map, take, sym, subst}
use Rattle.step_put.specs.Placed.{left_of}
use Rattle.step_put.specs.Puts.{AreAt}
use Rattle.step_put.proofs.Keeping.{at_one_more}
use Rattle.step_put.proofs.own_places.places_of.Goals as goal

pub loop-i-preserved : goal.loop-i-preserved
loop-i-preserved c =
    let i = c.loop-i.i in
    let was = c.loop-i.invariant in
    let all = c.args.labels.now in
    let f = left_of c.args.left.now in
    record {
      named = subst (λ (ps : List ℕ). AreAt c.place_of.new.buffer.labels (map f (take (i + 1) all)) ps) (sym c.in_ok-push.ensures.items)
          (at_one_more f c.loop-i.buffer.labels c.place_of.new.buffer.labels all c.loop-i.places.items i c.in_ok-place.place c.index-labels-i.result c.loop-i-test.true c.index-labels-i.is c.place_of.ensures.kept was.named c.in_ok-place.ensures.place);
      steps = c.place_of.ensures.steps ∙ was.steps;
    }
