use Rattle.std.proofs.Common.{◌≡◌, ◌+◌, ◌-◌, length}
use Rattle.std.specs.Prelude.{IfSome, ⊤, Ok}
use Rattle.test_runner.specs.Loads.{run_slots, slots_put}
use Rattle.test_runner.specs.Parts.{HasGone}
use Rattle.test_runner.proofs.Putting.{HasCome}
use Rattle.test_runner.proofs.load.put_run.Given as goal

-- the values that are left go on from here as all of them do from the start
abbrev pub invariant-loop : goal.invariant-loop
invariant-loop g l = record {
  come : HasCome g.T.Loaded.judges (g.T.Loaded.holds l.fn.into l.target.declared.now) (g.T.Loaded.holds l.into l.target.declared.now)
      (slots_put l.target.line l.target.labels.now l.target.interval l.start (run_slots l.more l.first l.by))
      (slots_put l.target.line l.target.labels.now l.target.interval l.place (run_slots (l.more - l.counter) l.value l.by));
  here : l.place ≡ l.start + l.counter;
  long : l.counter + length (run_slots (l.more - l.counter) l.value l.by) ≡ length (run_slots l.more l.first l.by);
  known : IfSome l.series (g.T.Loaded.knows l.into l.target.declared.now l.target.labels.now);
  gone : HasGone {X = ⊤} (length l.target.declared.now) (Ok tt) (g.T.Loaded.engines l.fn.into) (g.T.Loaded.engines l.into);
  names : g.T.Loaded.names l.into ≡ g.T.Loaded.names l.fn.into;
}
