use Rattle.std.proofs.Common.{◌≡◌, take}
use Rattle.remote_api.specs.Strays.{named}
use Rattle.remote_api.proofs.checking.labels_of.Given as goal

abbrev pub invariant-loop-row : goal.invariant-loop-row
invariant-loop-row l = l.names ≡ named (take l.row-index l.rows)
