use Rattle.std.proofs.Common.{◌≡◌, length}
use Rattle.match_rule.proofs.room.PatternRoom.new.Given as goal

abbrev pub invariant-loop : goal.invariant-loop
invariant-loop l = length l.places.items ≡ l.counter
