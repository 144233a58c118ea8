use Rattle.std.proofs.Common.{◌≡◌, List, ℕ, Some, false, length, map, slice_get, take}
use Rattle.remote_api.specs.Seen.{EngineSeen, KeepsStrays}
use Rattle.exchange.specs.Asked.{AreAsked}
use Rattle.exchange.specs.Calls.{Each, Grows}
use Rattle.exchange.specs.InOrder.{AreInSlots, in_order_of_asks}
use Rattle.exchange.specs.Opened.{AreOpened}
use Rattle.exchange.specs.Standing.{AreApart}
use Rattle.exchange.specs.declared.place.Place.{Place}
use Rattle.exchange.proofs.asking.ask_in_order.Given as goal

abbrev pub invariant-loop-j : goal.invariant-loop-j
invariant-loop-j g l = (let es = map (λ b. (goal.Engine-dyn g (b.vtable, b.value)).seen b.value) l.initial.engines in let fs = map (λ b. (goal.Engine-dyn g (b.vtable, b.value)).seen b.value) l.engines in record {
  size : length l.slots ≡ length l.initial.slots;
  opened : (made : List Place) × AreOpened l.span l.initial.patterns es fs (in_order_of_asks l.requests) made × AreApart made × AreInSlots (take l.j l.order) made l.slots;
  asked : AreAsked l.span l.initial.patterns (take l.j (in_order_of_asks l.requests)) es fs;
  free : (i : ℕ) (f : EngineSeen) → slice_get fs i ≡ Some f → f.spent ≡ false;
  calm : Each KeepsStrays es fs;
  grown : Each Grows es fs;
  same : l.patterns ≡ l.initial.patterns;
  len : length l.engines ≡ length l.initial.engines;
})
