use Rattle.std.proofs.Common.{◌∙◌, ◌<◌, ◌≤◌, List, arith, length, map, refl, sym, ap, subst}
use Rattle.step_batch.specs.Lent.{stage_of, stages}
use Rattle.step_table.specs.Groups.{Names}
use Rattle.op_labels.specs.Rules.{AreMade, relabelled_at, relabellings}
use Rattle.step_put.specs.Feeding.{follow_here, follow_next, follow_none, time_some, whole}
use Rattle.op_labels.proofs.Feeding.{lent_more}
use Rattle.op_labels.proofs.Keeping.{mapped_count}
use Rattle.op_labels.proofs.relabelled.put_all.Goals as goal

pub loop-i-init : goal.loop-i-init
loop-i-init c = record {
  left = refl;
  fed = refl;
  follow = follow_none c.args.made.now.lent c.args.rows.now.steps c.requires.empty;
  lent = λ kept rule a. ap (map (stage_of c.args.made.now.lent.labels)) c.requires.empty;
}

pub put_one-requires : goal.put_one-requires
put_one-requires c =
    let i = c.loop-i.invariant in
    record {
      here = omega (arith, c.len-i-end.ensures.len, c.loop-i-test.true);
      fates = c.requires.fates;
      fed = ap length i.fed ∙ c.requires.fed;
      left = i.left ∙ c.requires.left;
      later = λ t e. follow_here c.loop-i.made.lent c.args.rows.now.steps c.loop-i.i t e i.follow;
    }

pub loop-i-preserved : goal.loop-i-preserved
loop-i-preserved c =
    let i = c.loop-i.invariant in
    let n = c.loop-i.i in
    let rows = c.args.rows.now in
    let l : n < length rows.steps = omega (arith, c.len-i-end.ensures.len, c.loop-i-test.true) in
    let t = time_some rows.steps n l in
    let count = mapped_count (stage_of rows.labels) rows.steps in
    record {
      left = c.put_one.ensures.left ∙ i.left;
      fed = c.put_one.ensures.fed ∙ i.fed;
      follow = follow_next c.put_one.new.made.lent rows.steps n t.0 t.1 c.len-i-end.ensures.lent.rising (λ u h. c.in_ok-put_one.ensures.later t.0 u t.1 h);
      lent = λ kept rule a.
          lent_more (relabelled_at kept rule) (stages rows) (stages c.loop-i.made.lent) (stages c.put_one.new.made.lent) n (omega (arith, l, count)) (i.lent kept rule a)
          (λ s h. c.in_ok-put_one.ensures.lent kept rule s (subst (λ (z : List Names). AreMade kept rule rows.labels z c.args.fates.now) (sym i.fed) a) h);
    }

pub returns-clause-lent : goal.returns-clause-lent
returns-clause-lent c = λ kept rule a.
    let n = c.loop-i.i in
    let rows = c.args.rows.now in
    let count = mapped_count (stage_of rows.labels) rows.steps in
    let l : length rows.steps ≤ n = omega (arith, c.len-i-end.ensures.len, c.loop-i-test.false) in
    c.loop-i.invariant.lent kept rule a ∙ ap (relabellings kept rule) (whole (stages rows) n (omega (arith, l, count)))
