use Rattle.std.proofs.Common.{◌≡◌, drop, take}
use Rattle.std.specs.List.{AllByRecursion}
use Rattle.step_batch.specs.LentWindows.{IsWindow}
use Rattle.op_gather.proofs.windows.put_all.Given as goal

abbrev pub invariant-loop-window : goal.invariant-loop-window
invariant-loop-window l = record {
  put : l.buffer ≡ record { at = l.initial.buffer.at; rows = take l.window-index l.windows; marks = l.initial.buffer.marks };
  left : AllByRecursion IsWindow (drop l.window-index l.windows);
}
