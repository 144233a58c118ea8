use Rattle.std.proofs.Common.{◌≡◌, ◌∙◌, ◌<◌, ◌≤◌, ◌++◌, ◌∷◌, [], List, arith, length, map, refl, sym, ap, subst}
use Rattle.std.specs.Prelude.{IsTrue}
use Rattle.func_table.specs.declared.table.Aggregate.{Aggregate}
use Rattle.promql_meaning.specs.Ranks.{kept_labels}
use Rattle.step_batch.specs.Lent.{stage_of, stages}
use Rattle.step_put.specs.Puts.{AreAt}
use Rattle.step_table.specs.Groups.{Names}
use Rattle.op_aggregate.specs.OwedCells.{cells_at}
use Rattle.op_aggregate.specs.Rules.{aggregated_at, aggregations, is_grouped, owed_cells}
use Rattle.step_put.specs.Feeding.{count_of, follow_here, follow_next, follow_none, time_some, whole}
use Rattle.op_aggregate.proofs.Feeding.{lent_more, owed_next, owed_none}
use Rattle.op_aggregate.proofs.kernel.put_all.Goals as goal

pub loop-i-init : goal.loop-i-init
loop-i-init c = record {
  f = refl;
  many = refl;
  empty = c.requires.empty;
  labels = refl;
  follow = follow_none c.args.buffer.now c.args.rows.now.steps c.requires.steps;
  lent = λ by a. ap (map (stage_of c.args.buffer.now.labels)) c.requires.steps;
  wanted = refl;
  owed = λ by a. ap (map (cells_at c.args.buffer.now.labels)) c.requires.none ∙ sym (owed_none c.args.owed.now.wanted c.args.groups.now.f by);
}

pub put_one-requires : goal.put_one-requires
put_one-requires c =
    let i = c.loop-i.invariant in
    let rows = c.args.rows.now in
    record {
      here = omega (arith, c.len-i-end.ensures.len, c.loop-i-test.true);
      grouped = subst (λ (f : Aggregate). IsTrue (is_grouped f)) (sym i.f) c.requires.grouped;
      many = i.many ∙ c.requires.many ∙ ap length (sym i.labels);
      empty = i.empty;
      placed = (c.requires.placed.0, subst (λ (ls : List Names). AreAt ls (map (kept_labels c.requires.placed.0) rows.labels) c.args.places.now) (sym i.labels) c.requires.placed.1);
      later = λ t e. follow_here c.loop-i.buffer rows.steps c.loop-i.i t e i.follow;
    }

pub loop-i-preserved : goal.loop-i-preserved
loop-i-preserved c =
    let i = c.loop-i.invariant in
    let n = c.loop-i.i in
    let rows = c.args.rows.now in
    let l : n < length rows.steps = omega (arith, c.len-i-end.ensures.len, c.loop-i-test.true) in
    let t = time_some rows.steps n l in
    let count = count_of (stage_of rows.labels) rows.steps in
    record {
      f = c.put_one.ensures.f ∙ i.f;
      many = c.put_one.ensures.many ∙ i.many;
      empty = c.in_ok-put_one.ensures.empty;
      labels = c.put_one.ensures.labels ∙ i.labels;
      follow = follow_next c.put_one.new.buffer rows.steps n t.0 t.1 c.len-i-end.ensures.lent.rising (λ u h. c.in_ok-put_one.ensures.later t.0 u t.1 h);
      lent = λ by a.
          lent_more c.args.groups.now.f by (stages rows) (stages c.loop-i.buffer) (stages c.put_one.new.buffer) n (omega (arith, l, count)) (i.lent by a)
          (λ s h.
          c.in_ok-put_one.ensures.lent by s (subst (λ (ls : List Names). AreAt ls (map (kept_labels by) rows.labels) c.args.places.now) (sym i.labels) a) h
          ∙ ap (λ (f : Aggregate). stages c.loop-i.buffer ++ aggregated_at f by s ∷ []) i.f);
      wanted = c.put_one.ensures.wanted ∙ i.wanted;
      owed = λ by a.
          let labels = c.args.buffer.now.labels in
          owed_next c.args.owed.now.wanted c.args.groups.now.f by (stages rows) (map (cells_at labels) c.loop-i.owed.steps.items) (map (cells_at labels) c.put_one.new.owed.steps.items) n (omega (arith, l, count)) (i.owed by a)
          (λ s h.
          subst (λ (ls : List Names). map (cells_at ls) c.put_one.new.owed.steps.items ≡ map (cells_at ls) c.loop-i.owed.steps.items ++ owed_cells c.loop-i.owed.wanted c.loop-i.groups.f by (s ∷ [])) i.labels
          (c.in_ok-put_one.ensures.owed by s (subst (λ (ls : List Names). AreAt ls (map (kept_labels by) rows.labels) c.args.places.now) (sym i.labels) a) h)
          ∙ (λ j. map (cells_at labels) c.loop-i.owed.steps.items ++ owed_cells (i.wanted j) (i.f j) by (s ∷ [])));
    }

pub returns-clause-lent : goal.returns-clause-lent
returns-clause-lent c = λ by a.
    let n = c.loop-i.i in
    let rows = c.args.rows.now in
    let count = count_of (stage_of rows.labels) rows.steps in
    let l : length rows.steps ≤ n = omega (arith, c.len-i-end.ensures.len, c.loop-i-test.false) in
    c.loop-i.invariant.lent by a ∙ ap (aggregations c.args.groups.now.f by) (whole (stages rows) n (omega (arith, l, count)))

pub returns-in_err-put_one-clause-wanted : goal.returns-in_err-put_one-clause-wanted
returns-in_err-put_one-clause-wanted c = c.put_one.ensures.wanted ∙ c.loop-i.invariant.wanted

pub returns-clause-wanted : goal.returns-clause-wanted
returns-clause-wanted c = c.loop-i.invariant.wanted

pub returns-clause-owed : goal.returns-clause-owed
returns-clause-owed c = λ by a.
    let n = c.loop-i.i in
    let rows = c.args.rows.now in
    let count = count_of (stage_of rows.labels) rows.steps in
    let l : length rows.steps ≤ n = omega (arith, c.len-i-end.ensures.len, c.loop-i-test.false) in
    c.loop-i.invariant.owed by a ∙ ap (owed_cells c.args.owed.now.wanted c.args.groups.now.f by) (whole (stages rows) n (omega (arith, l, count)))
