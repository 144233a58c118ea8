use Rattle.std.proofs.Common.{◌≡◌, ◌∙◌, [], ◌∷◌, sym, ap, subst}
use Rattle.step_batch.specs.Lent.{Lent, stages}
use Rattle.plan_tree.specs.Nodes.{shape_of}
use Rattle.plan_tree.specs.Shapes.{rule}
use Rattle.plan_tree.proofs.Runs.{own_memory, ran}
use Rattle.plan_tree.proofs.arms.clamp_fed.Goals as goal

pub feed_clamp-requires-clause-together : goal.feed_clamp-requires-clause-together
feed_clamp-requires-clause-together g c =
    let t = c.requires.together in (
      rule t.1.w t.1.kept (shape_of c.args.rows.now),
      rule t.2.w t.2.kept (shape_of c.args.low.now),
      rule t.3.w t.3.kept (shape_of c.args.high.now),
      t.0,
      ap (λ (l : Lent). stages l) c.lend_from.ensures ∙ t.1.steps,
      ap (λ (l : Lent). stages l) c.lend_scalar.ensures.lent ∙ t.2.steps,
      ap (λ (l : Lent). stages l) c.lend_scalar-2.ensures.lent ∙ t.3.steps,
    )

pub feed_clamp-requires-clause-low : goal.feed_clamp-requires-clause-low
feed_clamp-requires-clause-low g c =
    let t = c.requires.together in
    c.lend_scalar.ensures.scalar t.2.w t.2.kept t.0 c.requires.scalars.0 t.2.steps

pub feed_clamp-requires-clause-high : goal.feed_clamp-requires-clause-high
feed_clamp-requires-clause-high g c =
    let t = c.requires.together in
    c.lend_scalar-2.ensures.scalar t.3.w t.3.kept t.0 c.requires.scalars.1 t.3.steps

pub returns-clause-lent : goal.returns-clause-lent
returns-clause-lent g c =
    ran c.feed_clamp.result c.or_memory.result c.or_memory.ensures c.feed_clamp.ensures.lent (λ e f h k at x y z. e f h k at (ap (λ (l : Lent). stages l) c.lend_from.ensures ∙ x) (ap (λ (l : Lent). stages l) c.lend_scalar.ensures.lent ∙ y) (ap (λ (l : Lent). stages l) c.lend_scalar-2.ensures.lent ∙ z))

pub returns-clause-memory : goal.returns-clause-memory
returns-clause-memory g c = own_memory c.feed_clamp.result c.or_memory.result c.or_memory.ensures
