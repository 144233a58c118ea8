use Rattle.std.proofs.Common.{◌≡◌, ◌<◌, drop}
use Rattle.opt_selects.specs.RuleKeys.{text_number}
use Rattle.opt_selects.proofs.keyed.text_number.Given as goal

abbrev pub invariant-loop-byte : goal.invariant-loop-byte
invariant-loop-byte l = record {
  number : text_number l.number (drop l.byte-index l.text) ≡ text_number l.start l.text;
  small : l.number < 36028797018963968;
}
