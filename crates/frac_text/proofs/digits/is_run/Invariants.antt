use Rattle.std.proofs.Common.{◌≡◌, drop}
use Rattle.frac_text.specs.Digits.{is_run_in}
use Rattle.frac_text.proofs.digits.is_run.Given as goal

abbrev pub invariant-loop-byte : goal.invariant-loop-byte
invariant-loop-byte l = is_run_in l.base l.after (drop l.byte-index l.text) ≡ is_run_in l.base l.joined l.text
