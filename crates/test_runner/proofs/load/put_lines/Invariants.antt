use Rattle.std.proofs.Common.{◌≡◌, drop, length}
use Rattle.std.specs.Prelude.{⊤, Ok}
use Rattle.test_runner.specs.Loads.{lines_put}
use Rattle.test_runner.specs.Parts.{HasGone}
use Rattle.test_runner.proofs.Putting.{HasCome}
use Rattle.test_runner.proofs.load.put_lines.Given as goal

abbrev pub invariant-loop-line : goal.invariant-loop-line
invariant-loop-line g l = record {
  come : HasCome g.T.Loaded.judges (g.T.Loaded.holds l.fn.into l.declared) (g.T.Loaded.holds l.into l.declared) (lines_put l.declared l.interval l.lines) (lines_put l.declared l.interval (drop l.line-index l.lines));
  gone : HasGone {X = ⊤} (length l.declared) (Ok tt) (g.T.Loaded.engines l.fn.into) (g.T.Loaded.engines l.into);
  names : g.T.Loaded.names l.into ≡ g.T.Loaded.names l.fn.into;
}
