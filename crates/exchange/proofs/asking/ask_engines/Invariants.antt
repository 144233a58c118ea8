use Rattle.std.proofs.Common.{◌≡◌, length, map, take}
use Rattle.remote_api.specs.Seen.{KeepsStrays}
use Rattle.exchange.specs.Calls.{Each, Grows}
use Rattle.exchange.specs.Opened.{AreBehind, AskedOnce, engines_of}
use Rattle.exchange.proofs.asking.ask_engines.Given as goal

abbrev pub invariant-loop-k : goal.invariant-loop-k
invariant-loop-k g l = (let es = map (λ b. (goal.Engine-dyn g (b.vtable, b.value)).seen b.value) l.initial.engines in let fs = map (λ b. (goal.Engine-dyn g (b.vtable, b.value)).seen b.value) l.engines in record {
  numbers : engines_of l.asks ≡ take l.k l.request.engines;
  behind : AreBehind es l.asks;
  once : AskedOnce l.span l.initial.patterns l.request (take l.k l.request.engines) es fs;
  calm : Each KeepsStrays es fs;
  grown : Each Grows es fs;
  same : l.patterns ≡ l.initial.patterns;
  len : length l.engines ≡ length l.initial.engines;
})
