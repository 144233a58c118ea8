use Rattle.std.proofs.Common.{◌≡◌, ◌≤◌, length, take}
use Rattle.frac_text.specs.Digits.{digits_in}
use Rattle.frac_text.proofs.digits.end_of_digits.Given as goal

abbrev pub invariant-loop-i : goal.invariant-loop-i
invariant-loop-i l = record { seen : length (digits_in (take l.i l.text)) ≡ l.seen; few : l.seen ≤ l.count }
