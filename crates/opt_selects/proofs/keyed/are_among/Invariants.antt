use Rattle.std.proofs.Common.{◌≡◌, drop}
use Rattle.opt_selects.specs.RuleKeys.{has_keys}
use Rattle.opt_selects.proofs.keyed.are_among.Given as goal

abbrev pub invariant-loop-key : goal.invariant-loop-key
invariant-loop-key l = has_keys l.keys (drop l.key-index l.some) ≡ has_keys l.keys l.some
