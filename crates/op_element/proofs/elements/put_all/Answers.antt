use Rattle.std.proofs.Common.{◌≡◌, ◌∙◌, ◌<◌, ◌≤◌, arith, length, map, refl, ap, take}
use Rattle.step_batch.specs.Lent.{stage_of, stages}
use Rattle.op_element.specs.Rules.{elements}
use Rattle.step_put.specs.Feeding.{count_of, follow_here, follow_next, follow_none, time_some, whole}
use Rattle.op_element.proofs.Feeding.{lent_more}
use Rattle.op_element.proofs.elements.put_all.Goals as goal

pub loop-i-init : goal.loop-i-init
loop-i-init c = record {
  left = refl;
  fed = refl;
  follow = follow_none c.args.made.now.lent c.args.rows.now.steps c.requires.empty;
  lent = ap (λ ss. map (stage_of c.args.made.now.lent.labels) ss) c.requires.empty;
}

pub put_one-requires-clause-later : goal.put_one-requires-clause-later
put_one-requires-clause-later c = λ t e. follow_here c.loop-i.made.lent c.args.rows.now.steps c.loop-i.i t e c.loop-i.invariant.follow

pub loop-i-preserved : goal.loop-i-preserved
loop-i-preserved c =
    let i = c.loop-i.invariant in
    let n = c.loop-i.i in
    let rows = c.args.rows.now in
    let first = c.args.first.now in
    let second = c.args.second.now in
    let l : n < length rows.steps = omega (arith, c.len-i-end.ensures.len, c.loop-i-test.true) in
    let t = time_some rows.steps n l in
    let rows_count = count_of (stage_of rows.labels) rows.steps in
    let first_count = count_of (stage_of first.labels) first.steps in
    let second_count = count_of (stage_of second.labels) second.steps in
    record {
      left = c.put_one.ensures.left ∙ i.left;
      fed = c.put_one.ensures.fed ∙ i.fed;
      follow = follow_next c.put_one.new.made.lent rows.steps n t.0 t.1 c.len-i-end.ensures.lent.rising (λ u h. c.in_ok-put_one.ensures.later t.0 u t.1 h);
      lent = lent_more c.args.rule (stages first) (stages second) (stages rows) (stages c.loop-i.made.lent) (stages c.put_one.new.made.lent) n
          (omega (arith, l, first_count, c.requires.firsts)) (omega (arith, l, second_count, c.requires.seconds)) (omega (arith, l, rows_count)) i.lent c.in_ok-put_one.ensures.lent;
    }

pub returns-clause-lent : goal.returns-clause-lent
returns-clause-lent c =
    let n = c.loop-i.i in
    let rows = c.args.rows.now in
    let first = c.args.first.now in
    let second = c.args.second.now in
    let l : length rows.steps ≤ n = omega (arith, c.len-i-end.ensures.len, c.loop-i-test.false) in
    let rows_count = count_of (stage_of rows.labels) rows.steps in
    let first_count = count_of (stage_of first.labels) first.steps in
    let second_count = count_of (stage_of second.labels) second.steps in
    let all = whole (stages rows) n (omega (arith, l, rows_count)) in
    let firsts = whole (stages first) n (omega (arith, l, first_count, c.requires.firsts)) in
    let seconds = whole (stages second) n (omega (arith, l, second_count, c.requires.seconds)) in
    let together : elements c.args.rule (take n (stages first)) (take n (stages second)) (take n (stages rows)) ≡ elements c.args.rule (stages first) (stages second) (stages rows) = λ j. elements c.args.rule (firsts j) (seconds j) (all j) in
    c.loop-i.invariant.lent ∙ together
