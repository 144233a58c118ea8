use Rattle.std.proofs.Common.{false, List, subst, sym}
use Rattle.remote_api.specs.Seen.{IsBegun}
use Rattle.engine_local.specs.Local.{AreAllowed, Local, seen_of}
use Rattle.engine_local.specs.declared.own.OwnAsk.{OwnAsk}
use Rattle.engine_local.proofs.Calls.{begun}
use Rattle.engine_local.proofs.engine.LocalEngineEngine.begin.Goals as goal

pub invariant_of-self : goal.invariant_of-self
invariant_of-self c = subst AreAllowed (sym c.clear.ensures.items) tt

pub returns : goal.returns
returns c =
    let v : Local = record { samples = c.self.inside.store; declared = c.self.inside.declared; asks = c.self.inside.asks.items; spent = c.self.inside.spent } in
    subst (λ (l : Local). IsBegun (seen_of l) (seen_of (record v { asks = c.clear.new.self.items; spent = false }))) c.self.view_is
    (subst (λ (all : List OwnAsk). IsBegun (seen_of v) (seen_of (record v { asks = all; spent = false }))) (sym c.clear.ensures.items) (begun v))
