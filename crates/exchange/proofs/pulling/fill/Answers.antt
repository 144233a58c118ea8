use Rattle.std.proofs.Common.{◌≡◌, ◌∙◌, Some, true, false, sym, ap, subst, slice_get}
use Rattle.std.specs.Prelude.{Err, ⊤}
use Rattle.op_gather.specs.Histories.{is_ready}
use Rattle.exchange.proofs.Keeping.{ask_stays_trans, calm_trans, faulted_from, grown_trans, same_asks_trans}
use Rattle.exchange.proofs.Filling.{as_few, live_there, never, same_stands, turned}
use Rattle.exchange.proofs.pulling.fill.Goals as goal

pub live_of-requires : goal.live_of-requires
live_of-requires g c = as_few _ _ c.loop-alloc.place c.requires.stands.0 (c.loop-alloc.invariant.stands c.requires.stands.0 c.requires.stands.1)

pub pick-k-requires : goal.pick-k-requires
pick-k-requires g c =
    let s = c.loop-alloc.invariant.stands c.requires.stands.0 c.requires.stands.1 in
    let e : is_ready c.loop-alloc.place.gather ≡ false = sym c.ready.ensures ∙ c.loop-alloc-test.true in
    let t = live_there _ _ c.loop-alloc.place c.requires.stands.0 c.room_is_left.ensures s c.requires.stands.2 e in
    (t.0, subst (λ l. slice_get l t.0 ≡ Some true) (sym (c.deref.ensures.value ∙ c.in-Ok.ensures)) t.1)

pub turn-requires-clause-stands : goal.turn-requires-clause-stands
turn-requires-clause-stands g c =
    let s = c.loop-alloc.invariant.stands c.requires.stands.0 c.requires.stands.1 in
    (c.requires.stands.0, same_stands _ _ _ c.loop-alloc.place c.requires.stands.0 c.loop-alloc.invariant.same s)

pub returns-in-Err-turn-clause-fault : goal.returns-in-Err-turn-clause-fault
returns-in-Err-turn-clause-fault g c = faulted_from {T = ⊤} (λ b. (goal.Engine-dyn g (b.vtable, b.value)).seen b.value) c.args.engines.now c.loop-alloc.engines c.turn.new.engines (Err c.in-Err-turn.fault) c.loop-alloc.invariant.len c.loop-alloc.invariant.grown c.loop-alloc.invariant.calm c.in-Err-turn.ensures.fault

pub returns-in-Err-turn-clause-grown : goal.returns-in-Err-turn-clause-grown
returns-in-Err-turn-clause-grown g c = grown_trans _ _ _ c.loop-alloc.invariant.grown c.turn.ensures.grown

pub loop-alloc-preserved : goal.loop-alloc-preserved
loop-alloc-preserved g c = record {
  stands = λ p s. turned _ _ _ _ c.loop-alloc.place c.turn.new.place p c.loop-alloc.invariant.same (c.in-Ok-turn.ensures.stands p) (c.loop-alloc.invariant.stands p s);
  alone = λ b h. ask_stays_trans b _ _ _ (c.loop-alloc.invariant.alone b h) (c.in-Ok-turn.ensures.alone b (λ k a at. h k a (ap (λ l. slice_get l k) (sym c.loop-alloc.invariant.asks) ∙ at)));
  calm = calm_trans _ _ _ c.loop-alloc.invariant.calm c.in-Ok-turn.ensures.calm;
  asked = same_asks_trans _ _ _ c.loop-alloc.invariant.asked c.in-Ok-turn.ensures.asked;
  grown = grown_trans _ _ _ c.loop-alloc.invariant.grown c.turn.ensures.grown;
  asks = c.turn.ensures.asks ∙ c.loop-alloc.invariant.asks;
  same_ask = c.turn.ensures.same_ask ∙ c.loop-alloc.invariant.same_ask;
  idle = λ r. absurd (never c.loop-alloc.place.gather c.args.place.now.gather (c.loop-alloc.invariant.idle r).1 r (sym c.ready.ensures ∙ c.loop-alloc-test.true));
  same = c.turn.ensures.same ∙ c.loop-alloc.invariant.same;
  len = c.turn.ensures.len ∙ c.loop-alloc.invariant.len;
}
