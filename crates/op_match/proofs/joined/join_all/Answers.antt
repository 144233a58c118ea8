use Rattle.std.proofs.Common.{◌∙◌, ◌<◌, ◌≤◌, ◌++◌, ◌∷◌, [], arith, length, map, refl, sym, ap, subst}
use Rattle.label_set.specs.declared.rules.Pairing.{Pairing}
use Rattle.step_batch.specs.Lent.{stage_of, stages}
use Rattle.step_batch.specs.declared.steps.PlacedStep.{PlacedStep}
use Rattle.op_match.specs.Joins.{joined, joined_at}
use Rattle.op_match.specs.Places.{IsReady, many_of, one_of}
use Rattle.op_match.proofs.Lists.{whole}
use Rattle.step_put.specs.Feeding.{count_of, follow_here, follow_next, follow_none, time_some}
use Rattle.op_match.proofs.Feeding.{lent_more}
use Rattle.op_match.proofs.joined.join_all.Goals as goal

pub loop-i-init : goal.loop-i-init
loop-i-init c = record {
  op = refl;
  pairing = refl;
  matching = c.requires.matching;
  ready = c.requires.ready;
  follow = follow_none c.args.rows.now c.args.left.now.steps c.requires.empty;
  lent = ap (λ ss. map (stage_of c.args.rows.now.labels) ss) c.requires.empty;
}

pub join_one-requires-clause-right_there : goal.join_one-requires-clause-right_there
join_one-requires-clause-right_there c =
    let a = count_of (λ (s : PlacedStep). s.at) c.args.left.now.steps in
    let b = count_of (λ (s : PlacedStep). s.at) c.args.right.now.steps in
    let same = ap length c.requires.together in
    omega (arith, a, b, same, c.len-i-end.ensures.len, c.loop-i-test.true)

pub join_one-requires-clause-later : goal.join_one-requires-clause-later
join_one-requires-clause-later c = λ t e. follow_here c.loop-i.rows c.args.left.now.steps c.loop-i.i t e c.loop-i.invariant.follow

pub loop-i-preserved : goal.loop-i-preserved
loop-i-preserved c =
    let v = c.loop-i.invariant in
    let n = c.loop-i.i in
    let left = c.args.left.now in
    let right = c.args.right.now in
    let a = count_of (λ (s : PlacedStep). s.at) left.steps in
    let b = count_of (λ (s : PlacedStep). s.at) right.steps in
    let same = ap length c.requires.together in
    let l : n < length left.steps = omega (arith, c.len-i-end.ensures.len, c.loop-i-test.true) in
    let r : n < length right.steps = omega (arith, a, b, same, l) in
    let t = time_some left.steps n l in
    let left_count = count_of (stage_of left.labels) left.steps in
    let right_count = count_of (stage_of right.labels) right.steps in
    record {
      op = c.join_one.ensures.op ∙ v.op;
      pairing = c.join_one.ensures.pairing ∙ v.pairing;
      matching = c.join_one.ensures.matching;
      ready = subst (λ (p : Pairing). IsReady c.join_one.new.matching (many_of p.card left.labels right.labels) (one_of p.card left.labels right.labels)) (sym c.join_one.ensures.pairing) c.join_one.ensures.ready;
      follow = follow_next c.join_one.new.rows left.steps n t.0 t.1 c.len-i-end.ensures.lent.rising (λ u h. c.in_ok-join_one.ensures.later t.0 u t.1 h);
      lent = lent_more c.args.matching.now.op c.args.matching.now.pairing (stages left) (stages right) (stages c.loop-i.rows) (stages c.join_one.new.rows) n
          (omega (arith, l, left_count)) (omega (arith, r, right_count)) v.lent
          (λ x y hx hy. c.in_ok-join_one.ensures.lent x y hx hy ∙ (λ j. stages c.loop-i.rows ++ joined_at (v.op j) (v.pairing j) x y ∷ []));
    }

pub returns-clause-lent : goal.returns-clause-lent
returns-clause-lent c =
    let n = c.loop-i.i in
    let left = c.args.left.now in
    let right = c.args.right.now in
    let a = count_of (λ (s : PlacedStep). s.at) left.steps in
    let b = count_of (λ (s : PlacedStep). s.at) right.steps in
    let same = ap length c.requires.together in
    let l : length left.steps ≤ n = omega (arith, c.len-i-end.ensures.len, c.loop-i-test.false) in
    let r : length right.steps ≤ n = omega (arith, a, b, same, l) in
    let left_count = count_of (stage_of left.labels) left.steps in
    let right_count = count_of (stage_of right.labels) right.steps in
    let ls = whole (stages left) n (omega (arith, l, left_count)) in
    let rs = whole (stages right) n (omega (arith, r, right_count)) in
    c.loop-i.invariant.lent ∙ (λ j. joined c.args.matching.now.op c.args.matching.now.pairing (ls j) (rs j))
