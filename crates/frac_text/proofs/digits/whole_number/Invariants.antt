use Rattle.std.proofs.Common.{◌≡◌, ◌≤◌, take}
use Rattle.frac_text.specs.Digits.{number_in}
use Rattle.xfrac.specs.Fractions.{limit}
use Rattle.frac_text.proofs.digits.whole_number.Given as goal

abbrev pub invariant-loop-byte : goal.invariant-loop-byte
invariant-loop-byte l = record { is : l.n ≡ number_in l.base (take l.byte-index l.text); within : l.n ≤ limit }
