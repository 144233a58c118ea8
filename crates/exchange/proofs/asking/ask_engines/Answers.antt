use Rattle.std.proofs.Common.{◌≡◌, ◌∙◌, Some, slice_get, length, map, take}
use Rattle.exchange.specs.declared.place.Asking.{Asking}
use Rattle.exchange.proofs.Keeping.{calm_trans, failed_from, grown_trans}
use Rattle.exchange.proofs.Lists.{map_inside, map_length, within_get}
use Rattle.exchange.proofs.Making.{asked_calm, asked_failed, asked_grown, asked_kept, behind_more, behind_now, may_now, not_yet, number_more, once_more, once_next, still_going}
use Rattle.exchange.proofs.asking.ask_engines.Goals as goal

pub ask_at-requires-clause-may : goal.ask_at-requires-clause-may
ask_at-requires-clause-may g c =
    let inv = c.loop-k.invariant in
    let es = map (λ b. (goal.Engine-dyn g (b.vtable, b.value)).seen b.value) c.args.engines.now in
    let fs = map (λ b. (goal.Engine-dyn g (b.vtable, b.value)).seen b.value) c.loop-k.engines in
    let long : length fs ≡ length es = map_length (λ b. (goal.Engine-dyn g (b.vtable, b.value)).seen b.value) c.loop-k.engines c.args.engines.now inv.len in
    λ e e_at. may_now _ _ c.args.span.now c.args.request.now e inv.same c.requires.may (still_going c.args.span.now _ c.args.request.now (take c.loop-k.k c.args.request.now.engines) es fs long c.requires.going inv.once c.number_at-engine.result e e_at)

pub returns-in-Err-clause-grown : goal.returns-in-Err-clause-grown
returns-in-Err-clause-grown g c = grown_trans _ _ _ c.loop-k.invariant.grown (asked_grown c.args.span.now _ c.args.request.now c.number_at-engine.result c.ask_at.result _ _ c.ask_at.ensures.asked)

pub returns-in-Err-clause-calm : goal.returns-in-Err-clause-calm
returns-in-Err-clause-calm g c = calm_trans _ _ _ c.loop-k.invariant.calm (asked_calm c.args.span.now _ c.args.request.now c.number_at-engine.result c.ask_at.result _ _ c.ask_at.ensures.asked)

pub returns-in-Err-Failed-clause-grown : goal.returns-in-Err-Failed-clause-grown
returns-in-Err-Failed-clause-grown g c = grown_trans _ _ _ c.loop-k.invariant.grown (asked_grown c.args.span.now _ c.args.request.now c.number_at-engine.result c.ask_at.result _ _ c.ask_at.ensures.asked)

pub returns-in-Err-Failed-clause-calm : goal.returns-in-Err-Failed-clause-calm
returns-in-Err-Failed-clause-calm g c = calm_trans _ _ _ c.loop-k.invariant.calm (asked_calm c.args.span.now _ c.args.request.now c.number_at-engine.result c.ask_at.result _ _ c.ask_at.ensures.asked)

pub returns-in-Err-Memory-clause-grown : goal.returns-in-Err-Memory-clause-grown
returns-in-Err-Memory-clause-grown g c = grown_trans _ _ _ c.loop-k.invariant.grown (asked_grown c.args.span.now _ c.args.request.now c.number_at-engine.result c.ask_at.result _ _ c.ask_at.ensures.asked)

pub returns-in-Err-Memory-clause-calm : goal.returns-in-Err-Memory-clause-calm
returns-in-Err-Memory-clause-calm g c = calm_trans _ _ _ c.loop-k.invariant.calm (asked_calm c.args.span.now _ c.args.request.now c.number_at-engine.result c.ask_at.result _ _ c.ask_at.ensures.asked)

pub returns-in-Err-Failed-clause-fault : goal.returns-in-Err-Failed-clause-fault
returns-in-Err-Failed-clause-fault g c =
    let inv = c.loop-k.invariant in
    let es = map (λ b. (goal.Engine-dyn g (b.vtable, b.value)).seen b.value) c.args.engines.now in
    let fs = map (λ b. (goal.Engine-dyn g (b.vtable, b.value)).seen b.value) c.loop-k.engines in
    let gs = map (λ b. (goal.Engine-dyn g (b.vtable, b.value)).seen b.value) c.ask_at.new.engines in
    let long : length fs ≡ length es = map_length (λ b. (goal.Engine-dyn g (b.vtable, b.value)).seen b.value) c.loop-k.engines c.args.engines.now inv.len in
    let at : slice_get c.args.request.now.engines c.loop-k.k ≡ Some c.number_at-engine.result = c.number_at-engine.ensures in
    let e = within_get fs c.number_at-engine.result (map_inside (λ b. (goal.Engine-dyn g (b.vtable, b.value)).seen b.value) c.args.engines.now c.loop-k.engines c.number_at-engine.result (c.requires.inside c.loop-k.k c.number_at-engine.result at) inv.len) in
    failed_from (λ b. (goal.Engine-dyn g (b.vtable, b.value)).seen b.value) c.args.engines.now c.loop-k.engines c.ask_at.new.engines c.number_at-engine.result inv.len inv.grown (asked_failed c.args.span.now _ c.args.request.now c.number_at-engine.result c.ask_at.result fs gs c.ask_at.ensures.asked e.0 e.1 (cc))

pub returns-in-Err-Failed-clause-blame : goal.returns-in-Err-Failed-clause-blame
returns-in-Err-Failed-clause-blame g c = (c.loop-k.k, c.number_at-engine.ensures)

pub loop-k-preserved : goal.loop-k-preserved
loop-k-preserved g c =
    let inv = c.loop-k.invariant in
    let es = map (λ b. (goal.Engine-dyn g (b.vtable, b.value)).seen b.value) c.args.engines.now in
    let fs = map (λ b. (goal.Engine-dyn g (b.vtable, b.value)).seen b.value) c.loop-k.engines in
    let gs = map (λ b. (goal.Engine-dyn g (b.vtable, b.value)).seen b.value) c.ask_at.new.engines in
    let long : length fs ≡ length es = map_length (λ b. (goal.Engine-dyn g (b.vtable, b.value)).seen b.value) c.loop-k.engines c.args.engines.now inv.len in
    let at : slice_get c.args.request.now.engines c.loop-k.k ≡ Some c.number_at-engine.result = c.number_at-engine.ensures in
    let x : Asking = record { engine = c.number_at-engine.result; place = c.in-Ok.place } in
    let called = asked_kept _ _ c.args.span.now c.args.request.now c.number_at-engine.result c.ask_at.result fs gs inv.same c.ask_at.ensures.asked in
    let fresh = not_yet c.args.request.now.engines c.loop-k.k c.number_at-engine.result c.requires.request.rising at in
    record {
      numbers = number_more c.loop-k.asks c.push.new.self x c.args.request.now.engines c.loop-k.k inv.numbers at c.in-Ok-push.ensures.ok;
      behind = behind_more es c.loop-k.asks c.push.new.self x inv.behind (behind_now c.args.span.now _ c.args.request.now c.number_at-engine.result c.in-Ok.place c.ask_at.result es fs gs (take c.loop-k.k c.args.request.now.engines) inv.once fresh called (cc)) c.in-Ok-push.ensures.ok;
      once = once_next c.args.span.now _ c.args.request.now c.args.request.now.engines c.loop-k.k c.number_at-engine.result es gs at (once_more c.args.span.now _ c.args.request.now c.number_at-engine.result c.in-Ok.place c.ask_at.result es fs gs (take c.loop-k.k c.args.request.now.engines) inv.once fresh called (cc));
      calm = calm_trans es fs gs inv.calm (asked_calm c.args.span.now _ c.args.request.now c.number_at-engine.result c.ask_at.result _ _ c.ask_at.ensures.asked);
      grown = grown_trans es fs gs inv.grown (asked_grown c.args.span.now _ c.args.request.now c.number_at-engine.result c.ask_at.result _ _ c.ask_at.ensures.asked);
      same = c.ask_at.ensures.same ∙ inv.same;
      len = c.ask_at.ensures.len ∙ inv.len;
    }
