use Rattle.std.proofs.Common.{ℕ, [], ◌∷◌, ◌++◌, List, Ok, Err, true, subst, sym, refl}
use Rattle.remote_api.specs.Seen.{HasAsked}
use Rattle.remote_api.specs.declared.engine.EngineFail.TheVariants as fail
use Rattle.ticks.specs.Walks.{LeadsToTimes}
use Rattle.engine_local.specs.Local.{AreAllowed, IsAllowed, Local, seen_of}
use Rattle.engine_local.specs.declared.own.OwnAsk.{OwnAsk}
use Rattle.engine_local.proofs.Asking.{asked, fresh_allowed, spent_asked}
use Rattle.engine_local.proofs.Lists.{all_more}
use Rattle.engine_local.proofs.Pulls.{with_asks}
use Rattle.engine_local.proofs.engine.LocalEngineEngine.ask.Goals as goal

pub add_ask-requires-clause-times : goal.add_ask-requires-clause-times
add_ask-requires-clause-times c = let t = c.requires.times in subst LeadsToTimes t.1.walk_is t.2.walk

pub add_ask-requires-clause-form : goal.add_ask-requires-clause-form
add_ask-requires-clause-form c = c.requires.form

pub invariant_of-self : goal.invariant_of-self
invariant_of-self c =
    let t = c.in-Ok.ensures.added in
    let allowed = fresh_allowed c.args.part.now c.args.walk.now c.args.span.now c.args.patterns.now t.0 t.2 (seen_of c.args.self.now) c.requires in
    subst AreAllowed (sym t.1) (all_more IsAllowed c.self.inside.asks.items t.0 allowed c.self.invariant)

pub invariant_of-self-in-Err : goal.invariant_of-self-in-Err
invariant_of-self-in-Err c = subst AreAllowed (sym c.in-Err.ensures.err) c.self.invariant

pub returns-in-Ok-clause-same : goal.returns-in-Ok-clause-same
returns-in-Ok-clause-same c = refl

pub returns-in-Ok-clause-asked : goal.returns-in-Ok-clause-asked
returns-in-Ok-clause-asked c =
    let t = c.in-Ok.ensures.added in
    let v : Local = record { samples = c.self.inside.store; declared = c.self.inside.declared; asks = c.self.inside.asks.items; spent = c.self.inside.spent } in
    let told = asked c.args.part.now c.args.walk.now c.args.span.now c.args.patterns.now t.0 t.2 v c.walks_are_listed.ensures.no_other in
    subst (λ (l : Local). HasAsked c.args.part.now c.args.walk.now c.args.span.now c.args.patterns.now (Ok c.in-Ok.place) (seen_of l) (seen_of (with_asks c.add_ask.new.asks.items v))) c.self.view_is
    (subst (λ (all : List OwnAsk). HasAsked c.args.part.now c.args.walk.now c.args.span.now c.args.patterns.now (Ok c.in-Ok.place) (seen_of v) (seen_of (with_asks all v))) (sym t.1)
    (subst (λ (n : ℕ). HasAsked c.args.part.now c.args.walk.now c.args.span.now c.args.patterns.now (Ok n) (seen_of v) (seen_of (with_asks (v.asks ++ t.0 ∷ []) v))) (sym c.in-Ok.ensures.place) told))

pub returns-in-Err-clause-same : goal.returns-in-Err-clause-same
returns-in-Err-clause-same c = refl

pub returns-in-Err-clause-asked : goal.returns-in-Err-clause-asked
returns-in-Err-clause-asked c =
    let v : Local = record { samples = c.self.inside.store; declared = c.self.inside.declared; asks = c.self.inside.asks.items; spent = c.self.inside.spent } in
    let told = spent_asked c.args.part.now c.args.walk.now c.args.span.now c.args.patterns.now v in
    subst (λ (l : Local). HasAsked c.args.part.now c.args.walk.now c.args.span.now c.args.patterns.now (Err fail.Memory) (seen_of l) (seen_of (record (with_asks c.add_ask.new.asks.items v) { spent = true }))) c.self.view_is
    (subst (λ (all : List OwnAsk). HasAsked c.args.part.now c.args.walk.now c.args.span.now c.args.patterns.now (Err fail.Memory) (seen_of v) (seen_of (record (with_asks all v) { spent = true }))) (sym c.in-Err.ensures.err) told)
