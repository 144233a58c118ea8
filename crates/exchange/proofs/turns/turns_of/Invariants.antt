use Rattle.std.proofs.Common.{◌≡◌, ℕ, map, take}
use Rattle.exchange.specs.declared.request.Request.{Request}
use Rattle.exchange.specs.InOrder.{begins_at, in_order, numbered, turn_key}
use Rattle.exchange.proofs.turns.turns_of.Given as goal

abbrev pub invariant-loop-k : goal.invariant-loop-k
invariant-loop-k l = l.turns.keys ≡ map turn_key (in_order (λ (t : ℕ × Request). begins_at t.1) (take l.k (numbered 0 l.requests)))
