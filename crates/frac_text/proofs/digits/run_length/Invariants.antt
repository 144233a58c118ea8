use Rattle.std.proofs.Common.{◌≡◌, ◌+◌, drop}
use Rattle.std.specs.List.{prefix_len}
use Rattle.frac_text.specs.Digits.{is_part}
use Rattle.frac_text.proofs.digits.run_length.Given as goal

abbrev pub invariant-loop-i : goal.invariant-loop-i
invariant-loop-i l = l.i + prefix_len (is_part l.grouped) (drop l.i l.text) ≡ prefix_len (is_part l.grouped) l.text
