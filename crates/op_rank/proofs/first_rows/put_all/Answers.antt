use Rattle.std.proofs.Common.{◌≡◌, ◌∙◌, ◌<◌, ◌≤◌, arith, length, map, refl, ap, take}
use Rattle.step_batch.specs.Lent.{stage_of, stages}
use Rattle.op_rank.specs.Rules.{first_at, made_of_each}
use Rattle.step_put.specs.Feeding.{count_of, follow_here, follow_next, follow_none, time_some, whole}
use Rattle.op_rank.proofs.Feeding.{lent_more}
use Rattle.op_rank.proofs.first_rows.put_all.Goals as goal

pub loop-i-init : goal.loop-i-init
loop-i-init c = record {
  left = refl;
  fed = refl;
  follow = follow_none c.args.made.now.lent c.args.rows.now.steps c.requires.empty;
  lent = λ by g. ap (λ ss. map (stage_of c.args.made.now.lent.labels) ss) c.requires.empty;
}

pub put_one-requires-clause-later : goal.put_one-requires-clause-later
put_one-requires-clause-later c = λ t e. follow_here c.loop-i.made.lent c.args.rows.now.steps c.loop-i.i t e c.loop-i.invariant.follow

pub loop-i-preserved : goal.loop-i-preserved
loop-i-preserved c =
    let i = c.loop-i.invariant in
    let n = c.loop-i.i in
    let rows = c.args.rows.now in
    let arg = c.args.arg.now in
    let l : n < length rows.steps = omega (arith, c.len-i-end.ensures.len, c.loop-i-test.true) in
    let t = time_some rows.steps n l in
    let rows_count = count_of (stage_of rows.labels) rows.steps in
    let arg_count = count_of (stage_of arg.labels) arg.steps in
    record {
      left = c.put_one.ensures.left ∙ i.left;
      fed = c.put_one.ensures.fed ∙ i.fed;
      follow = follow_next c.put_one.new.made.lent rows.steps n t.0 t.1 c.len-i-end.ensures.lent.rising (λ u h. c.in_ok-put_one.ensures.later t.0 u t.1 h);
      lent = λ by g. lent_more (first_at c.args.ranking.now.down by) (stages arg) (stages rows) (stages c.loop-i.made.lent) (stages c.put_one.new.made.lent) n
          (omega (arith, l, arg_count, c.requires.args)) (omega (arith, l, rows_count)) (i.lent by g) (λ p s x y. c.in_ok-put_one.ensures.lent by p s g x y);
    }

pub returns-clause-lent : goal.returns-clause-lent
returns-clause-lent c = λ by g.
    let n = c.loop-i.i in
    let rows = c.args.rows.now in
    let arg = c.args.arg.now in
    let l : length rows.steps ≤ n = omega (arith, c.len-i-end.ensures.len, c.loop-i-test.false) in
    let rows_count = count_of (stage_of rows.labels) rows.steps in
    let arg_count = count_of (stage_of arg.labels) arg.steps in
    let all = whole (stages rows) n (omega (arith, l, rows_count)) in
    let args = whole (stages arg) n (omega (arith, l, arg_count, c.requires.args)) in
    let together : made_of_each (first_at c.args.ranking.now.down by) (take n (stages arg)) (take n (stages rows)) ≡ made_of_each (first_at c.args.ranking.now.down by) (stages arg) (stages rows) = λ j. made_of_each (first_at c.args.ranking.now.down by) (args j) (all j) in
    c.loop-i.invariant.lent by g ∙ together
