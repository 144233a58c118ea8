use Rattle.std.proofs.Common.{◌≡◌, ◌∙◌, [], ◌∷◌, sym, ap, subst}
use Rattle.step_batch.specs.Lent.{Lent, stages}
use Rattle.plan_tree.specs.Nodes.{shape_of}
use Rattle.plan_tree.specs.Shapes.{rule}
use Rattle.plan_tree.proofs.Runs.{own_memory, ran}
use Rattle.plan_tree.proofs.arms.binary_fed.Goals as goal

pub feed_binary-requires-clause-together : goal.feed_binary-requires-clause-together
feed_binary-requires-clause-together g c =
    let t = c.requires.together in
    (rule t.1.w t.1.kept (shape_of c.args.rows.now), rule t.2.w t.2.kept (shape_of c.args.beside.now), t.0, ap (λ (l : Lent). stages l) c.lend_from.ensures ∙ t.1.steps, ap (λ (l : Lent). stages l) c.lend_scalar.ensures.lent ∙ t.2.steps)

pub feed_binary-requires-clause-scalar : goal.feed_binary-requires-clause-scalar
feed_binary-requires-clause-scalar g c =
    let t = c.requires.together in
    λ h. c.lend_scalar.ensures.scalar t.2.w t.2.kept t.0 (c.requires.scalar h) t.2.steps

pub returns-clause-lent : goal.returns-clause-lent
returns-clause-lent g c =
    ran c.feed_binary.result c.or_memory.result c.or_memory.ensures c.feed_binary.ensures.lent (λ e f h at x y. e f h at (ap (λ (l : Lent). stages l) c.lend_from.ensures ∙ x) (ap (λ (l : Lent). stages l) c.lend_scalar.ensures.lent ∙ y))

pub returns-clause-memory : goal.returns-clause-memory
returns-clause-memory g c = own_memory c.feed_binary.result c.or_memory.result c.or_memory.ensures
