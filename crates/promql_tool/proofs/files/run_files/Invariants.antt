use Rattle.std.proofs.Common.{◌≡◌, ◌≤◌, ◌<◌, ◌*◌, ◌^◌, [], drop, length, map, take}
use Rattle.edge_io.specs.Fetches.{Fetches}
use Rattle.promql_tool.specs.Boxes.{KeepsCalm}
use Rattle.promql_tool.specs.Chosen.{under}
use Rattle.promql_tool.specs.Found.{IsFound}
use Rattle.promql_tool.specs.Spending.{FilesSpend}
use Rattle.query_engine.specs.Engines.{DoNotRise}
use Rattle.test_runner.specs.Boxes.{AllTell, AreReady}
use Rattle.ticks.specs.Works.{Counts}
use Rattle.promql_tool.proofs.FilesRun.{RanSoFar, RunSoFar}
use Rattle.promql_tool.proofs.files.run_files.Given as goal

abbrev pub invariant-loop-file : goal.invariant-loop-file
invariant-loop-file g l = record {
  run : AllTell (length l.fn.declared) (map (λ b. (goal.Engine-dyn g (b.vtable, b.value)).seen b.value) l.fn.engines.items) → RunSoFar (under l.options.closed l.fn.declared) (IsFound (g.L.Library.told l.fn.library) (g.L.Library.sound l.fn.library)) l.files (drop l.file-index l.files) (g.S.Sink.written l.fn.out) (g.S.Sink.written l.out) (l.work ≡ l.fn.work)
      l.tally.passed l.tally.failed;
  ran : RanSoFar (under l.options.closed l.fn.declared) (IsFound (g.L.Library.told l.fn.library) (g.L.Library.sound l.fn.library)) (take l.file-index l.files) (l.work ≡ l.fn.work);
  unmoved : 0 < length l.fn.declared → DoNotRise l.fn.work l.work;
  kept : KeepsCalm (map (λ b. (goal.Engine-dyn g (b.vtable, b.value)).seen b.value) l.fn.engines.items) (map (λ b. (goal.Engine-dyn g (b.vtable, b.value)).seen b.value) l.engines.items);
  labels : l.declared ≡ l.fn.declared;
  ready : AreReady l.declared (map (λ b. (goal.Engine-dyn g (b.vtable, b.value)).seen b.value) l.engines.items);
  few_passed : l.tally.passed ≤ l.file-index * 2 ^ 32;
  few_failed : l.tally.failed ≤ l.file-index * 2 ^ 32;
  fetched : Fetches g.L.Library.fetches (take l.file-index l.files) l.fn.library l.library;
  told : g.L.Library.told l.library ≡ g.L.Library.told l.fn.library;
  library_sound : g.L.Library.sound l.fn.library → g.L.Library.sound l.library;
  library_later : g.L.Library.faults l.fn.library ≤ g.L.Library.faults l.library;
  sound : g.S.Sink.sound l.fn.out → g.S.Sink.sound l.out;
  later : g.S.Sink.faults l.fn.out ≤ g.S.Sink.faults l.out;
  spent : l.fn.declared ≡ [] → (after : Counts) → FilesSpend l.options (IsFound (g.L.Library.told l.fn.library) (g.L.Library.sound l.fn.library)) (drop l.file-index l.files) l.work after
      → FilesSpend l.options (IsFound (g.L.Library.told l.fn.library) (g.L.Library.sound l.fn.library)) l.files l.fn.work after;
}
