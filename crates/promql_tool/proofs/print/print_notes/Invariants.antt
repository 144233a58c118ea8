use Rattle.std.proofs.Common.{◌≡◌, ◌≤◌, List, ℕ, take}
use Rattle.std.specs.List.{flat_map}
use Rattle.edge_io.specs.Written.{appended}
use Rattle.promql_tool.specs.Runs.{bytes_of}
use Rattle.promql_tool.proofs.print.print_notes.Given as goal

abbrev pub invariant-loop-line : goal.invariant-loop-line
invariant-loop-line g l = record {
  took : g.S.Sink.written l.out ≡ appended (g.S.Sink.written l.fn.out) (flat_map (λ (line : List ℕ). line) (bytes_of (take l.line-index l.notes)));
  later : g.S.Sink.faults l.fn.out ≤ g.S.Sink.faults l.out;
  sound : g.S.Sink.sound l.fn.out → g.S.Sink.sound l.out;
}
