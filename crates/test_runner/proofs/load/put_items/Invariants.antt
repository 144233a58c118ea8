use Rattle.std.proofs.Common.{◌≡◌, ◌≤◌, ◌*◌, ◌^◌, drop, length}
use Rattle.std.specs.Prelude.{IfSome, ⊤, Ok}
use Rattle.test_runner.specs.Loads.{line_slots, slots_put}
use Rattle.test_runner.specs.Parts.{HasGone}
use Rattle.test_runner.proofs.Putting.{HasCome}
use Rattle.test_runner.proofs.load.put_items.Given as goal

abbrev pub invariant-loop-item : goal.invariant-loop-item
invariant-loop-item g l = record {
  come : HasCome g.T.Loaded.judges (g.T.Loaded.holds l.fn.into l.target.declared.now) (g.T.Loaded.holds l.into l.target.declared.now)
      (slots_put l.target.line l.target.labels.now l.target.interval 0 (line_slots l.items))
      (slots_put l.target.line l.target.labels.now l.target.interval l.place (line_slots (drop l.item-index l.items)));
  known : IfSome l.series (g.T.Loaded.knows l.into l.target.declared.now l.target.labels.now);
  near : l.place ≤ l.item-index * 2 ^ 32;
  gone : HasGone {X = ⊤} (length l.target.declared.now) (Ok tt) (g.T.Loaded.engines l.fn.into) (g.T.Loaded.engines l.into);
  names : g.T.Loaded.names l.into ≡ g.T.Loaded.names l.fn.into;
}
