use Rattle.std.proofs.Common.{◌≡◌, [], subst, sym}
use Rattle.remote_api.specs.Seen.{IsCleared}
use Rattle.promql_meaning.specs.Selecting.{AllSeries}
use Rattle.engine_local.specs.Local.{Local, seen_of}
use Rattle.engine_local.proofs.Calls.{emptied, with_samples}
use Rattle.engine_local.proofs.engine.LocalEngineEngine.clear.Goals as goal

pub invariant_of-self : goal.invariant_of-self
invariant_of-self c = c.self.invariant

pub returns : goal.returns
returns c =
    let v : Local = record { samples = c.self.inside.store; declared = c.self.inside.declared; asks = c.self.inside.asks.items; spent = c.self.inside.spent } in
    let none = subst (λ (l : Local). (seen_of l).asks ≡ []) (sym c.self.view_is) c.requires in
    subst (λ (l : Local). IsCleared (seen_of l) (seen_of (with_samples c.clear.new.self v))) c.self.view_is
    (subst (λ (s : AllSeries). IsCleared (seen_of v) (seen_of (with_samples s v))) (sym c.clear.ensures) (emptied v none))
