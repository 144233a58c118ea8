use Rattle.std.proofs.Common.{◌≡◌, ◌∙◌, ◌<◌, ◌≤◌, List, arith, length, map, refl, ap, sym, subst, take}
use Rattle.std.specs.List.{IsDistinct}
use Rattle.label_set.specs.LabelEquality.{labels_eq}
use Rattle.step_batch.specs.Lent.{stage_of, stages}
use Rattle.step_put.specs.Puts.{AreAt}
use Rattle.step_table.specs.Groups.{Names}
use Rattle.op_buckets.specs.Histograms.{histogram_of}
use Rattle.op_buckets.specs.Rules.{all_quantiles}
use Rattle.step_put.specs.Feeding.{count_of, follow_here, follow_next, follow_none, time_some, whole}
use Rattle.op_buckets.proofs.Feeding.{lent_more}
use Rattle.op_buckets.proofs.buckets.put_all.Goals as goal

pub loop-i-init : goal.loop-i-init
loop-i-init c = record {
  left = refl;
  fed = refl;
  follow = follow_none c.args.made.now.lent c.args.rows.now.steps c.requires.empty;
  lent = ap (λ ss. map (stage_of c.args.made.now.lent.labels) ss) c.requires.empty;
}

pub put_one-requires : goal.put_one-requires
put_one-requires c =
    let i = c.loop-i.invariant in
    let n = c.loop-i.i in
    let rows = c.args.rows.now in
    let l : n < length rows.steps = omega (arith, c.len-i-end.ensures.len, c.loop-i-test.true) in
    record {
      here = l;
      quantiles = omega (arith, l, c.requires.quantiles);
      scalar = c.requires.scalar;
      fed = c.requires.fed;
      read = c.requires.read;
      there = subst (λ (ls : List Names). AreAt ls (map histogram_of rows.labels) c.args.groups.now) (sym i.fed) c.requires.there;
      distinct = subst (IsDistinct labels_eq) (sym i.fed) c.requires.distinct;
      left = i.left ∙ c.requires.left;
      later = λ t e. follow_here c.loop-i.made.lent rows.steps n t e i.follow;
    }

pub loop-i-preserved : goal.loop-i-preserved
loop-i-preserved c =
    let i = c.loop-i.invariant in
    let n = c.loop-i.i in
    let rows = c.args.rows.now in
    let quantile = c.args.quantile.now in
    let l : n < length rows.steps = omega (arith, c.len-i-end.ensures.len, c.loop-i-test.true) in
    let t = time_some rows.steps n l in
    let rows_count = count_of (stage_of rows.labels) rows.steps in
    let quantile_count = count_of (stage_of quantile.labels) quantile.steps in
    record {
      left = c.put_one.ensures.left ∙ i.left;
      fed = c.put_one.ensures.fed ∙ i.fed;
      follow = follow_next c.put_one.new.made.lent rows.steps n t.0 t.1 c.len-i-end.ensures.lent.rising (λ u h. c.in_ok-put_one.ensures.later t.0 u t.1 h);
      lent = lent_more (stages quantile) (stages rows) (stages c.loop-i.made.lent) (stages c.put_one.new.made.lent) n
          (omega (arith, l, quantile_count, c.requires.quantiles)) (omega (arith, l, rows_count)) i.lent c.in_ok-put_one.ensures.lent;
    }

pub returns-clause-lent : goal.returns-clause-lent
returns-clause-lent c =
    let n = c.loop-i.i in
    let rows = c.args.rows.now in
    let quantile = c.args.quantile.now in
    let l : length rows.steps ≤ n = omega (arith, c.len-i-end.ensures.len, c.loop-i-test.false) in
    let rows_count = count_of (stage_of rows.labels) rows.steps in
    let quantile_count = count_of (stage_of quantile.labels) quantile.steps in
    let all = whole (stages rows) n (omega (arith, l, rows_count)) in
    let asked = whole (stages quantile) n (omega (arith, l, quantile_count, c.requires.quantiles)) in
    let together : all_quantiles (take n (stages quantile)) (take n (stages rows)) ≡ all_quantiles (stages quantile) (stages rows) = λ j. all_quantiles (asked j) (all j) in
    c.loop-i.invariant.lent ∙ together
