use Rattle.std.proofs.Common.{◌≡◌, drop}
use Rattle.remote_api.specs.Strays.{rise_from}
use Rattle.remote_api.proofs.checking.rise_from.Given as goal

abbrev pub invariant-loop-t : goal.invariant-loop-t
invariant-loop-t l = rise_from l.last (drop l.t-index l.times) ≡ rise_from l.fn.time l.times
