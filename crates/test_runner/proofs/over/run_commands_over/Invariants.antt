use Rattle.std.proofs.Common.{◌≡◌, ◌≤◌, ◌+◌, [], drop, length, map, take, Ok}
use Rattle.std.specs.List.{AllByRecursion}
use Rattle.exchange.specs.Calls.{Each}
use Rattle.query_engine.specs.Engines.{DoNotRise}
use Rattle.sample_store.specs.Samples.{AllSeries}
use Rattle.script_check.specs.Verdicts.{HasItsPatterns}
use Rattle.script_read.specs.declared.script.Command.{Command}
use Rattle.test_runner.specs.Boxes.{AllTell}
use Rattle.test_runner.specs.Loads.{left_by_all}
use Rattle.test_runner.specs.Parts.{HoldParts, Stays}
use Rattle.test_runner.specs.Running.{CarriedOut}
use Rattle.test_runner.proofs.over.run_commands_over.Given as goal

-- the commands so far were carried out, and the engines hold what these leave
abbrev pub invariant-loop-i : goal.invariant-loop-i
invariant-loop-i g l = record {
  many : length (map (λ b. (goal.Engine-dyn g (b.vtable, b.value)).seen b.value) l.engines.items) ≡ length (map (λ b. (goal.Engine-dyn g (b.vtable, b.value)).seen b.value) l.fn.engines.items);
  stays : Each Stays (map (λ b. (goal.Engine-dyn g (b.vtable, b.value)).seen b.value) l.fn.engines.items) (map (λ b. (goal.Engine-dyn g (b.vtable, b.value)).seen b.value) l.engines.items);
  labels : l.declared ≡ l.fn.declared;
  mid : (series : AllSeries) × HoldParts l.fn.declared (map (λ b. (goal.Engine-dyn g (b.vtable, b.value)).seen b.value) l.engines.items) series × (left_by_all l.fn.declared (take l.i l.commands) [] ≡ Ok series);
  ran : AllTell (length l.fn.declared) (map (λ b. (goal.Engine-dyn g (b.vtable, b.value)).seen b.value) l.fn.engines.items) → CarriedOut l.options.closed l.fn.declared l.fn.searches l.path [] (take l.i l.commands) (g.S.Sink.written l.fn.out) (g.S.Sink.written l.out) l.totals;
  few : l.totals.passed + l.totals.failed ≤ l.i;
  rests : l.totals.passed + l.totals.failed ≡ 0 → l.work ≡ l.fn.work;
  kept : AllByRecursion (λ (command : Command). HasItsPatterns l.fn.searches command.what) (drop l.i l.commands);
  same : l.searches ≡ l.fn.searches;
  later : g.S.Sink.faults l.fn.out ≤ g.S.Sink.faults l.out;
  sound : g.S.Sink.sound l.fn.out → g.S.Sink.sound l.out;
  unmoved : DoNotRise l.fn.work l.work;
}
