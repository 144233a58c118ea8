use Rattle.std.proofs.Common.{◌≡◌, drop}
use Rattle.edge_io.specs.Held.{bytes_at}
use Rattle.edge_io.proofs.memory.find_file.Given as goal

abbrev pub invariant-loop-i : goal.invariant-loop-i
invariant-loop-i l = bytes_at (drop l.i l.paths) (drop l.i l.bytes) l.path ≡ bytes_at l.paths l.bytes l.path
