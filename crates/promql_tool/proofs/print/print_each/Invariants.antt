use Rattle.std.proofs.Common.{◌≡◌, ◌≤◌, take}
use Rattle.std.specs.List.{flat_map}
use Rattle.edge_io.specs.Written.{appended}
use Rattle.promql_tool.specs.Query.{series_text}
use Rattle.promql_tool.proofs.print.print_each.Given as goal

abbrev pub invariant-loop-one : goal.invariant-loop-one
invariant-loop-one g l = record {
  took : g.S.Sink.written l.out ≡ appended (g.S.Sink.written l.fn.out) (flat_map (series_text l.scalar) (take l.one-index l.series));
  later : g.S.Sink.faults l.fn.out ≤ g.S.Sink.faults l.out;
  sound : g.S.Sink.sound l.fn.out → g.S.Sink.sound l.out;
}
