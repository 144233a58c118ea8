use Rattle.std.proofs.Common.{◌≡◌, ◌∙◌, ◌-◌, ◌≤◌, length, drop, ap, subst, arith}
use Rattle.step_batch.specs.Columns.{Columns, early}
use Rattle.op_running.specs.Kept.{IsKept}
use Rattle.op_running.proofs.Keeping.{gone_values}
use Rattle.op_running.proofs.window.RunningWindow.forget.Goals as goal

pub invariant_of-self : goal.invariant_of-self
invariant_of-self c =
    let was = c.self.inside.samples in
    let left = c.forget.new.self in
    let gone : left.values ≡ drop (early c.args.edge.0 was.times) was.values = ap (λ (s : Columns). s.values) c.forget.ensures in
    let n = length c.values-before.result.now - length c.values-left.result.now in
    let same : n ≡ length was.values - length left.values = (let a = ap length c.values-before.ensures in let b = ap length c.values-left.ensures in omega arith) in
    let within : n ≤ length was.values = omega arith in
    subst (IsKept c.forget-2.new.self) (ap (λ k. drop k was.values) same ∙ gone_values (early c.args.edge.0 was.times) was.values left.values gone) (c.forget-2.ensures was.values within c.self.invariant)
