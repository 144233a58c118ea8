use Rattle.std.proofs.Common.{◌≡◌, ◌≤◌, ◌+◌, ◌++◌, length, map}
use Rattle.script_read.specs.Lines.{lines_of}
use Rattle.script_read.specs.Views.{numbered}
use Rattle.script_read.proofs.Lines.{numbered_left, length_left}
use Rattle.script_read.proofs.cut.lines_in.Given as goal

abbrev pub invariant-loop-left : goal.invariant-loop-left
invariant-loop-left l = record {
  read : map numbered l.lines.items ++ numbered_left l.number l.left ≡ lines_of l.bytes;
  number : l.number + length_left l.left ≤ length l.bytes + 2;
}

abbrev pub decreases-loop-left : goal.decreases-loop-left
decreases-loop-left l = length_left l.left
