use Rattle.std.proofs.Common.{Ok, Some, subst, sym, refl}
use Rattle.remote_api.specs.Seen.{HasDeclared}
use Rattle.step_table.specs.Groups.{Names}
use Rattle.engine_local.specs.Local.{Local, seen_of}
use Rattle.engine_local.proofs.Calls.{declared, undeclared}
use Rattle.engine_local.proofs.engine.LocalEngineEngine.declare.Goals as goal

pub invariant_of-self : goal.invariant_of-self
invariant_of-self c = c.self.invariant

pub same-self : goal.same-self
same-self c = refl

pub returns-in-Ok : goal.returns-in-Ok
returns-in-Ok c =
    let v : Local = record { samples = c.self.inside.store; declared = c.self.inside.declared; asks = c.self.inside.asks.items; spent = c.self.inside.spent } in
    subst (λ (l : Local). HasDeclared c.args.labels.now (Ok tt) (seen_of l) (seen_of (record v { declared = Some c.in-Ok.labels }))) c.self.view_is
    (subst (λ (names : Names). HasDeclared c.args.labels.now (Ok tt) (seen_of v) (seen_of (record v { declared = Some names }))) (sym c.in-Ok.ensures) (declared v c.args.labels.now))

pub returns-in-Err : goal.returns-in-Err
returns-in-Err c = undeclared c.args.self.now c.args.labels.now
