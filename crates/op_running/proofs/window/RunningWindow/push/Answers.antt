use Rattle.std.proofs.Common.{◌∷◌, [], sym, ap, subst}
use Rattle.step_batch.specs.Columns.{Columns}
use Rattle.op_running.specs.Kept.{IsKept}
use Rattle.op_running.proofs.Keeping.{kept_more}
use Rattle.op_running.proofs.window.RunningWindow.push.Goals as goal

pub invariant_of-self-2 : goal.invariant_of-self-2
invariant_of-self-2 c =
    let was = c.self.inside.samples in
    subst (IsKept c.self.inside.kept) (sym (ap (λ (s : Columns). s.values) c.in_ok-push.ensures.ok)) (kept_more c.self.inside.kept was.values (c.args.value ∷ []) c.self.invariant)
