use Rattle.std.proofs.Common.{◌≡◌, ◌∙◌, ◌+◌, ◌≤◌, ◌++◌, ◌∷◌, List, length, take, drop, sym, ap, subst}
use Rattle.step_put.specs.Placed.{left_of}
use Rattle.step_table.specs.Groups.{Names}
use Rattle.step_put.proofs.Keeping.{at_count, at_renewed, mixed_next, mixed_reaches, split_here}
use Rattle.step_put.proofs.own_places.placed.Goals as goal

pub loop-i-preserved-then-has : goal.loop-i-preserved-then-has
loop-i-preserved-then-has c =
    let i = c.loop-i.i in
    let was = c.loop-i.invariant in
    let one = c.index-labels-i.result in
    let fed = c.loop-i.kept.fed.items in
    let all = c.args.labels.now in
    let before = c.args.before.fed.items in
    record {
      fed = mixed_next all before fed i one c.loop-i-test.true c.index-labels-i.is
          (split_here fed i one (c.has.ensures c.if-has.true) ∙ ap (λ (z : List Names). take i z ++ one ∷ drop (i + 1) z) was.fed);
      named = was.named;
      stays = was.stays;
      stay = was.stay;
      steps = was.steps;
    }

pub kept_at-requires-clause-same : goal.kept_at-requires-clause-same
kept_at-requires-clause-same c = at_count (left_of c.args.left.now) c.loop-i.buffer.labels c.loop-i.kept.fed.items c.loop-i.kept.places.items c.loop-i.invariant.named

pub kept_at-requires-clause-next : goal.kept_at-requires-clause-next
kept_at-requires-clause-next c =
    subst (λ (z : List Names). c.loop-i.i ≤ length z) (sym c.loop-i.invariant.fed) (mixed_reaches c.args.labels.now c.args.before.fed.items c.loop-i.i c.loop-i-test.true)

pub loop-i-preserved : goal.loop-i-preserved
loop-i-preserved c =
    let i = c.loop-i.i in
    let was = c.loop-i.invariant in
    let one = c.index-labels-i.result in
    let copy = c.in_ok-copy.field-0 in
    let same : copy ≡ one = c.in_ok-copy.ensures in
    let fed = c.loop-i.kept.fed.items in
    let all = c.args.labels.now in
    let before = c.args.before.fed.items in
    let next : c.in_ok-kept.kept.fed.items ≡ take i fed ++ one ∷ drop (i + 1) fed = c.in_ok-kept.ensures.fed ∙ ap (λ (z : Names). take i fed ++ z ∷ drop (i + 1) fed) same in
    record {
      fed = mixed_next all before c.in_ok-kept.kept.fed.items i one c.loop-i-test.true c.index-labels-i.is (next ∙ ap (λ (z : List Names). take i z ++ one ∷ drop (i + 1) z) was.fed);
      named = at_renewed (left_of c.args.left.now) c.loop-i.buffer.labels c.place_of.new.buffer.labels fed c.in_ok-kept.kept.fed.items c.loop-i.kept.places.items c.in_ok-kept.kept.places.items i c.in_ok-place.place one
          c.place_of.ensures.kept next c.in_ok-kept.ensures.places was.named c.in_ok-place.ensures.place;
      stays = λ j names h. c.place_of.ensures.kept j names (was.stays j names h);
      stay = λ h. absurd (cc);
      steps = c.place_of.ensures.steps ∙ was.steps;
    }
