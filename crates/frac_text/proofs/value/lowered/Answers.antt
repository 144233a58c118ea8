use Rattle.std.proofs.Common.{◌≡◌, ◌+◌, ◌*◌, ◌^◌, arith, sym, subst, None, Some}
use Rattle.frac_text.specs.Scales.{IsScaled}
use Rattle.frac_text.proofs.Values.{lowered_step, lowered_beyond}
use Rattle.frac_text.proofs.value.lowered.Goals as goal

pub returns-in_err-lower : goal.returns-in_err-lower
returns-in_err-lower c =
    let gone : c.from_residual.result ≡ None = grind arith in
    subst (λ r. IsScaled r c.args.rest.n (c.args.rest.d * 10 ^ c.args.places)) (sym gone)
    (lowered_beyond c.args.rest (c.loop-done.done + 1) c.args.places (omega arith) (omega arith)
    (lowered_step c.args.rest c.loop-done.lower c.loop-done.done None (omega arith) c.loop-done.invariant.is c.in_err-lower.ensures))

pub loop-done-preserved : goal.loop-done-preserved
loop-done-preserved c =
    record {
      is = lowered_step c.args.rest c.loop-done.lower c.loop-done.done (Some c.in_ok-lower.lower) (omega arith) c.loop-done.invariant.is c.in_ok-lower.ensures;
      inside = omega arith;
    }
