use Rattle.std.proofs.Common.{◌≡◌, ◌≤◌, ◌+◌, [], drop, take, Ok}
use Rattle.std.specs.List.{AllByRecursion}
use Rattle.script_check.specs.Verdicts.{HasItsPatterns}
use Rattle.script_read.specs.declared.script.Command.{Command}
use Rattle.test_runner.specs.Loads.{left_by_all}
use Rattle.test_runner.specs.Running.{CarriedOut}
use Rattle.test_runner.specs.Spending.{CommandsSpend}
use Rattle.ticks.specs.Works.{Counts}
use Rattle.test_runner.proofs.running.run_commands.Given as goal

-- the commands so far were carried out
abbrev pub invariant-loop-i : goal.invariant-loop-i
invariant-loop-i g l = record {
  ran : CarriedOut l.options.closed [] l.fn.searches l.path [] (take l.i l.commands) (g.S.Sink.written l.fn.out) (g.S.Sink.written l.out) l.totals;
  left : left_by_all [] (take l.i l.commands) [] ≡ Ok l.store;
  rests : l.totals.passed + l.totals.failed ≡ 0 → l.work ≡ l.fn.work;
  kept : AllByRecursion (λ (command : Command). HasItsPatterns l.fn.searches command.what) (drop l.i l.commands);
  same : l.searches ≡ l.fn.searches;
  later : g.S.Sink.faults l.fn.out ≤ g.S.Sink.faults l.out;
  sound : g.S.Sink.sound l.fn.out → g.S.Sink.sound l.out;
  spent : (after : Counts) → CommandsSpend l.options l.store (drop l.i l.commands) l.work after → CommandsSpend l.options [] l.commands l.fn.work after;
}
