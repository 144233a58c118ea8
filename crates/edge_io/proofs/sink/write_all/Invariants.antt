use Rattle.std.proofs.Common.{length, ◌-◌, ◌≡◌, ◌≤◌, take}
use Rattle.edge_io.specs.Written.{appended}
use Rattle.edge_io.proofs.sink.write_all.Given as goal

abbrev pub invariant-loop-done : goal.invariant-loop-done
invariant-loop-done g l = record {
  within : l.done ≤ length l.piece;
  took : g.S.Sink.written l.sink ≡ appended (g.S.Sink.written l.fn.sink) (take l.done l.piece);
  later : g.S.Sink.faults l.fn.sink ≤ g.S.Sink.faults l.sink;
  sound : g.S.Sink.sound l.fn.sink → g.S.Sink.sound l.sink;
}

abbrev pub decreases-loop-done : goal.decreases-loop-done
decreases-loop-done g l = length l.piece - l.done
