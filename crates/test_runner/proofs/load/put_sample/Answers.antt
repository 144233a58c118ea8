use Rattle.std.specs.Prelude.{pos, ◌*ℤ◌, ⊤}
use Rattle.test_runner.proofs.Gone.{gone_same}
use Rattle.test_runner.proofs.Loading.{slot_beyond, slot_filled}
use Rattle.test_runner.proofs.Putting.{come_fail, come_here, has_as, may_as}
use Rattle.test_runner.proofs.load.put_sample.Goals as goal

pub put-requires-clause-may : goal.put-requires-clause-may
put-requires-clause-may g c =
    may_as g.T.Loaded.judges (g.T.Loaded.holds c.args.into.now c.args.target.declared.now) _ _
    (slot_filled c.args.target.line c.args.target.labels.now c.args.target.interval c.in-Some.at _ c.args.held.now c.in-Some.ensures.0 c.in-Some.ensures.1) c.requires.may

pub returns-in-Some-clause-put : goal.returns-in-Some-clause-put
returns-in-Some-clause-put g c =
    has_as g.T.Loaded.judges (g.T.Loaded.holds c.args.into.now c.args.target.declared.now) _ _
    (slot_filled c.args.target.line c.args.target.labels.now c.args.target.interval c.in-Some.at _ c.args.held.now c.in-Some.ensures.0 c.in-Some.ensures.1) _ _ _ c.put.ensures.put

pub returns-in-None-clause-put : goal.returns-in-None-clause-put
returns-in-None-clause-put g c =
    let judges = g.T.Loaded.judges in
    let Held = g.T.Loaded.holds c.args.into.now c.args.target.declared.now in
    rw c.out_of_range.ensures (come_fail judges Held _ Held _ (come_here judges Held _) ⊤ c.args.target.line Held
    (slot_beyond c.args.target.line c.args.target.labels.now c.args.target.interval (pos c.args.place *ℤ c.args.target.interval.0) c.args.held.now c.in-None.ensures))

pub returns-in-None-clause-gone : goal.returns-in-None-clause-gone
returns-in-None-clause-gone g c = rw c.out_of_range.ensures (gone_same ⊤ _ (g.T.Loaded.engines c.args.into.now) tt)
