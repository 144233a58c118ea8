use Rattle.std.proofs.Common.{◌≡◌, ◌<◌, ◌^◌}
use Rattle.frac_text.proofs.value.power_of_ten.Given as goal

abbrev pub invariant-loop : goal.invariant-loop
invariant-loop l = record { is : l.power ≡ 10 ^ l.counter; positive : 0 < l.power }
