use Rattle.std.proofs.Common.{◌≡◌, ◌≤◌, length}
use Rattle.script_read.specs.Lines.{from_blank}
use Rattle.script_read.proofs.line.skip_blanks.Given as goal

abbrev pub invariant-loop-left : goal.invariant-loop-left
invariant-loop-left l = record {
  is : from_blank l.left ≡ from_blank l.text;
  shorter : length l.left ≤ length l.text;
}

abbrev pub decreases-loop-left : goal.decreases-loop-left
decreases-loop-left l = length l.left
