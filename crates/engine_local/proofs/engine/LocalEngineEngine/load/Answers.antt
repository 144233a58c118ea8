use Rattle.std.proofs.Common.{◌≡◌, [], Ok, Err, subst, sym}
use Rattle.remote_api.specs.Seen.{HasLoaded}
use Rattle.remote_api.specs.declared.engine.EngineFail.TheVariants as fail
use Rattle.promql_meaning.specs.Selecting.{AllSeries}
use Rattle.engine_local.specs.Local.{Local, seen_of}
use Rattle.engine_local.proofs.Calls.{loaded, unloaded, with_samples}
use Rattle.engine_local.proofs.engine.LocalEngineEngine.load.Goals as goal

pub invariant_of-self : goal.invariant_of-self
invariant_of-self c = c.self.invariant

pub invariant_of-self-2 : goal.invariant_of-self-2
invariant_of-self-2 c = c.self.invariant

pub returns : goal.returns
returns c =
    let v : Local = record { samples = c.self.inside.store; declared = c.self.inside.declared; asks = c.self.inside.asks.items; spent = c.self.inside.spent } in
    let none = subst (λ (l : Local). (seen_of l).asks ≡ []) (sym c.self.view_is) c.requires.unasked in
    subst (λ (l : Local). HasLoaded c.args.labels.now c.args.at c.args.held.now (Ok tt) (seen_of l) (seen_of (with_samples c.append.new.self v))) c.self.view_is
    (subst (λ (s : AllSeries). HasLoaded c.args.labels.now c.args.at c.args.held.now (Ok tt) (seen_of v) (seen_of (with_samples s v))) (sym c.in-Ok.ensures.ok) (loaded v c.args.labels.now c.args.at c.args.held.now none))

pub returns-in-Err : goal.returns-in-Err
returns-in-Err c =
    let v : Local = record { samples = c.self.inside.store; declared = c.self.inside.declared; asks = c.self.inside.asks.items; spent = c.self.inside.spent } in
    subst (λ (l : Local). HasLoaded c.args.labels.now c.args.at c.args.held.now (Err fail.Memory) (seen_of l) (seen_of (with_samples c.append.new.self v))) c.self.view_is
    (subst (λ (s : AllSeries). HasLoaded c.args.labels.now c.args.at c.args.held.now (Err fail.Memory) (seen_of v) (seen_of (with_samples s v))) (sym c.in-Err.ensures.err) (unloaded v c.args.labels.now c.args.at c.args.held.now))
