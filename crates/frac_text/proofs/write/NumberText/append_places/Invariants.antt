use Rattle.std.proofs.Common.{◌≡◌, ◌<◌, ◌≤◌, ◌++◌, ◌-◌, ◌+◌, length}
use Rattle.frac_text.specs.Spellings.{places}
use Rattle.frac_text.proofs.write.NumberText.append_places.Given as goal

abbrev pub invariant-loop : goal.invariant-loop
invariant-loop l = record {
  is : l.self ++ places (100 - l.counter) l.left l.d ≡ l.fn.self ++ places 100 l.r l.d;
  below : l.left < l.d;
  room : length l.self ≤ length l.fn.self + l.counter;
}
