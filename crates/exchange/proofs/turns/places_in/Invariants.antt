use Rattle.std.proofs.Common.{◌≡◌, ◌++◌, ℕ, map}
use Rattle.exchange.proofs.turns.places_in.Given as goal

abbrev pub invariant-loop-turn : goal.invariant-loop-turn
invariant-loop-turn l = l.order ++ map (λ (t : ℕ × ℕ). t.1) l.turn-iterator ≡ map (λ (t : ℕ × ℕ). t.1) l.initial.turn-iterator
