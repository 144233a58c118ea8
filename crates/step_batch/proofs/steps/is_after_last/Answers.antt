use Rattle.std.proofs.Common.{◌-◌, arith, length, rules, subst, sym}
use Rattle.std.specs.Prelude.{◌↔◌, IsTrue, ◌<◌}
use Rattle.step_batch.proofs.Lasts.{last_at}
use Rattle.step_batch.proofs.steps.is_after_last.Goals as goal

pub returns : goal.returns
returns c =
    let steps = c.args.steps.now in
    let some : 0 < length steps = search rules in
    subst (λ (P : Type 0). IsTrue c.is_before.result ↔ P) (sym (last_at steps (length steps - 1) c.index-steps-steps.result c.args.at (omega arith))) c.is_before.ensures
