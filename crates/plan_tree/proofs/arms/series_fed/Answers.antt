use Rattle.std.proofs.Common.{◌≡◌, ◌∙◌, [], ◌∷◌, sym, ap, subst}
use Rattle.op_window.specs.Rules.{windows_of_series}
use Rattle.step_batch.specs.Lent.{Lent, stages}
use Rattle.step_table.specs.Timed.{steps_over}
use Rattle.plan_tree.specs.Nodes.{shape_of}
use Rattle.plan_tree.specs.Shapes.{rule}
use Rattle.plan_tree.proofs.Beside.{scalars_at, windowed_over}
use Rattle.plan_tree.proofs.Runs.{own_memory, ran}
use Rattle.plan_tree.proofs.arms.series_fed.Goals as goal

pub feed_store-requires : goal.feed_store-requires
feed_store-requires g c =
    let l = c.requires.lends in
    let at = c.args.at.now in
    let arg = c.lend_scalar.result in
    let steps : stages arg ≡ steps_over (rule l.w l.kept (shape_of c.args.scalar.now)) at = ap (λ (l : Lent). stages l) c.lend_scalar.ensures.lent ∙ l.steps in
    c.requires.fed arg (λ h. scalars_at arg (rule l.w l.kept (shape_of c.args.scalar.now)) at (c.lend_scalar.ensures.scalar l.w l.kept at (c.requires.scalar h) l.steps) steps)

pub returns-clause-lent : goal.returns-clause-lent
returns-clause-lent g c =
    ran c.feed_store.result c.or_memory.result c.or_memory.ensures c.feed_store.ensures.lent (λ e f h.
    let k = c.args.kernel.now in
    e ∙ windowed_over k.f (windows_of_series c.args.store.now k.series k.moment k.range) f c.args.at.now (stages c.lend_scalar.result) (ap (λ (l : Lent). stages l) c.lend_scalar.ensures.lent ∙ h))

pub returns-clause-reached : goal.returns-clause-reached
returns-clause-reached g c =
    ran c.feed_store.result c.or_memory.result c.or_memory.ensures c.feed_store.ensures.reached (λ h. h)

pub returns-clause-memory : goal.returns-clause-memory
returns-clause-memory g c = own_memory c.feed_store.result c.or_memory.result c.or_memory.ensures

pub returns-clause-counted : goal.returns-clause-counted
returns-clause-counted g c =
    ran c.feed_store.result c.or_memory.result c.or_memory.ensures c.feed_store.ensures.counted (λ h. h)
