use Rattle.std.proofs.Common.{◌≡◌, drop}
use Rattle.std.specs.List.{list_all}
use Rattle.remote_api.specs.Strays.{is_in_window}
use Rattle.remote_api.proofs.checking.are_in_window.Given as goal

abbrev pub invariant-loop-t : goal.invariant-loop-t
invariant-loop-t l = list_all (is_in_window l.closed l.edge.0 l.moment.0) (drop l.t-index l.times) ≡ list_all (is_in_window l.closed l.edge.0 l.moment.0) l.times
