use Rattle.std.proofs.Common.{◌≡◌, ◌∙◌, [], ◌∷◌, refl, ap}
use Rattle.op_window.specs.Rules.{windows_of_lent}
use Rattle.step_batch.specs.Lent.{Lent, stages}
use Rattle.step_table.specs.Timed.{steps_over}
use Rattle.plan_tree.specs.Nodes.{shape_of}
use Rattle.plan_tree.specs.Shapes.{rule}
use Rattle.plan_tree.proofs.Beside.{scalars_at, windowed_over}
use Rattle.plan_tree.proofs.Runs.{own_memory, ran}
use Rattle.plan_tree.proofs.arms.given_fed.Goals as goal

pub feed_windows-requires : goal.feed_windows-requires
feed_windows-requires g c =
    let l = c.requires.lends in
    let at = c.args.windows.now.at ∷ [] in
    let arg = c.lend_scalar.result in
    let steps : stages arg ≡ steps_over (rule l.w l.kept (shape_of c.args.scalar.now)) at = ap (λ (l : Lent). stages l) c.lend_scalar.ensures.lent ∙ l.steps in
    record {
      instant = refl;
      time = c.requires.given.time;
      ends = c.requires.given.ends;
      within = c.requires.given.within;
      scalars = λ h. scalars_at arg (rule l.w l.kept (shape_of c.args.scalar.now)) at (c.lend_scalar.ensures.scalar l.w l.kept at (c.requires.scalar h) l.steps) steps;
    }

pub returns-clause-lent : goal.returns-clause-lent
returns-clause-lent g c =
    ran c.feed_windows.result c.or_memory.result c.or_memory.ensures c.feed_windows.ensures.lent (λ e f h.
    let k = c.args.kernel.now in
    let windows = c.args.windows.now in
    e ∙ windowed_over k.f (windows_of_lent windows k.moment k.range) f (windows.at ∷ []) (stages c.lend_scalar.result) (ap (λ (l : Lent). stages l) c.lend_scalar.ensures.lent ∙ h))

pub returns-clause-memory : goal.returns-clause-memory
returns-clause-memory g c = own_memory c.feed_windows.result c.or_memory.result c.or_memory.ensures
