use Rattle.std.proofs.Common.{◌≡◌, length, map, true}
use Rattle.op_gather.specs.Histories.{is_ready}
use Rattle.remote_api.specs.Seen.{KeepsStrays}
use Rattle.exchange.specs.declared.place.Asking.{Asking}
use Rattle.exchange.specs.Calls.{AskStays, Each, Grows, HasSameAsks}
use Rattle.exchange.specs.Standing.{IsApartFrom, PlaceStands, Progress, rooms}
use Rattle.exchange.proofs.pulling.fill.Given as goal

abbrev pub invariant-loop-alloc : goal.invariant-loop-alloc
invariant-loop-alloc g l = (let es = map (λ b. (goal.Engine-dyn g (b.vtable, b.value)).seen b.value) l.initial.engines in let fs = map (λ b. (goal.Engine-dyn g (b.vtable, b.value)).seen b.value) l.engines in record {
  stands : (p : Progress) → PlaceStands l.initial.patterns es l.initial.place p → PlaceStands l.initial.patterns fs l.place p;
  alone : (b : Asking) → IsApartFrom l.initial.place.asks b → AskStays b es fs;
  calm : Each KeepsStrays es fs;
  asked : Each HasSameAsks es fs;
  grown : Each Grows es fs;
  asks : l.place.asks ≡ l.initial.place.asks;
  same_ask : l.place.gather.ask ≡ l.initial.place.gather.ask;
  idle : is_ready l.initial.place.gather ≡ true → (l.engines ≡ l.initial.engines) × (l.place.gather ≡ l.initial.place.gather) × (l.courier ≡ l.initial.courier);
  same : l.patterns ≡ l.initial.patterns;
  len : length l.engines ≡ length l.initial.engines;
})

abbrev pub decreases-loop-alloc : goal.decreases-loop-alloc
decreases-loop-alloc g l = rooms l.place.gather.queues
