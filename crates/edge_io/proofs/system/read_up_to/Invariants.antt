use Rattle.std.proofs.Common.{◌≡◌, ◌+◌, length}
use Rattle.std.specs.Io.KnownBytes.{Consumes}
use Rattle.edge_io.proofs.system.read_up_to.Given as goal

abbrev pub invariant-loop-count : goal.invariant-loop-count
invariant-loop-count g l = record {
  room : l.room + length l.into.items ≡ l.limit;
  came : Consumes (g.F.Read.remaining l.fn.file) (g.F.Read.remaining l.file) l.into.items;
}

abbrev pub decreases-loop-count : goal.decreases-loop-count
decreases-loop-count g l = l.room
