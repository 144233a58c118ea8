use Rattle.std.proofs.Common.{rules, ◌≡◌, sym, subst, IfErr}
use Rattle.value_fn.specs.Elements.{element_of, MayFail}
use Rattle.value_fn.proofs.Faults.{fault_is_known}
use Rattle.value_fn.proofs.formulas.element.Goals as goal

pub returns-in_err-round-in-Round-clause-faults : goal.returns-in_err-round-in-Round-clause-faults
returns-in_err-round-in-Round-clause-faults c =
    let value : c.from_residual.result ≡ element_of c.args.f c.args.v.now c.args.first.now c.args.second.now = search rules in
    subst (λ r. IfErr r (MayFail c.args.f)) (sym value) (fault_is_known c.args.f c.args.v.now c.args.first.now c.args.second.now)
