use Rattle.std.proofs.Common.{◌≤◌, ◌^◌, length, drop}
use Rattle.frac_text.specs.Digits.{digits_in, number}
use Rattle.frac_text.specs.Scales.{IsRest}
use Rattle.frac_text.proofs.value.fraction.Given as goal

abbrev pub invariant-loop-place : goal.invariant-loop-place
invariant-loop-place l = record { is : IsRest l.rest (number (digits_in (drop l.place l.text))) (10 ^ length (digits_in (drop l.place l.text))); inside : l.place ≤ length l.text }

abbrev pub decreases-loop-place : goal.decreases-loop-place
decreases-loop-place l = l.place
