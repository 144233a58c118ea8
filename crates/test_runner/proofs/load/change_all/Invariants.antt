use Rattle.std.proofs.Common.{◌≡◌, drop, length}
use Rattle.std.specs.Prelude.{⊤, Ok}
use Rattle.test_runner.specs.Loads.{left_by_all}
use Rattle.test_runner.specs.Parts.{HasGone}
use Rattle.test_runner.proofs.Putting.{HasCome}
use Rattle.test_runner.proofs.load.change_all.Given as goal

abbrev pub invariant-loop-command : goal.invariant-loop-command
invariant-loop-command g l = record {
  come : HasCome g.T.Loaded.judges (g.T.Loaded.holds l.fn.into l.declared) (g.T.Loaded.holds l.into l.declared) (left_by_all l.declared l.commands) (left_by_all l.declared (drop l.command-index l.commands));
  gone : HasGone {X = ⊤} (length l.declared) (Ok tt) (g.T.Loaded.engines l.fn.into) (g.T.Loaded.engines l.into);
  names : g.T.Loaded.names l.into ≡ g.T.Loaded.names l.fn.into;
}
