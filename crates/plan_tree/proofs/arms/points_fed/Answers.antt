use Rattle.std.proofs.Common.{◌≡◌, ◌∙◌, [], ◌∷◌, sym, ap, subst}
use Rattle.step_batch.specs.Lent.{Lent, stages}
use Rattle.step_table.specs.Timed.{steps_over}
use Rattle.subquery_rows.specs.Rings.{windows_of_points}
use Rattle.plan_tree.specs.Nodes.{shape_of}
use Rattle.plan_tree.specs.Shapes.{rule}
use Rattle.plan_tree.proofs.Beside.{scalars_at, windowed_over}
use Rattle.plan_tree.proofs.Runs.{own_memory, ran}
use Rattle.plan_tree.proofs.arms.points_fed.Goals as goal

pub give-requires-clause-scalars : goal.give-requires-clause-scalars
give-requires-clause-scalars g c =
    let l = c.requires.lends in
    let at = c.args.t ∷ [] in
    let arg = c.lend_scalar.result in
    let steps : stages arg ≡ steps_over (rule l.w l.kept (shape_of c.args.scalar.now)) at = ap (λ (l : Lent). stages l) c.lend_scalar.ensures.lent ∙ l.steps in
    λ h. scalars_at arg (rule l.w l.kept (shape_of c.args.scalar.now)) at (c.lend_scalar.ensures.scalar l.w l.kept at (c.requires.scalar h) l.steps) steps

pub returns-clause-lent : goal.returns-clause-lent
returns-clause-lent g c =
    ran c.give.result c.or_memory.result c.or_memory.ensures c.give.ensures.lent (λ e outer inner last f asked h.
    let k = c.args.kernel.now in
    e outer inner last asked ∙ windowed_over k.f (windows_of_points k inner) f (c.args.t ∷ []) (stages c.lend_scalar.result) (ap (λ (l : Lent). stages l) c.lend_scalar.ensures.lent ∙ h))

pub returns-clause-stands : goal.returns-clause-stands
returns-clause-stands g c =
    ran c.give.result c.or_memory.result c.or_memory.ensures c.give.ensures.stands (λ h. h)

pub returns-clause-memory : goal.returns-clause-memory
returns-clause-memory g c = own_memory c.give.result c.or_memory.result c.or_memory.ensures
