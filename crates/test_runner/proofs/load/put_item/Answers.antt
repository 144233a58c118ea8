use Rattle.std.specs.Prelude.{ℕ, ◌+◌}
use Rattle.test_runner.proofs.Gone.{gone_none}
use Rattle.test_runner.proofs.Loading.{gaps}
use Rattle.test_runner.proofs.Putting.{come_end, come_here}
use Rattle.test_runner.proofs.load.put_item.Goals as goal

pub returns-in-Gap-clause-put : goal.returns-in-Gap-clause-put
returns-in-Gap-clause-put g c =
    let judges = g.T.Loaded.judges in
    let Held = g.T.Loaded.holds c.args.into.now c.args.target.declared.now in
    rw c.in-Gap.is (come_end judges Held _ Held _ (come_here judges Held _) ℕ (c.args.place + c.from.result) (gaps c.args.target.line c.args.target.labels.now c.args.target.interval c.in-Gap.places c.args.place))

pub returns-in-Gap-clause-gone : goal.returns-in-Gap-clause-gone
returns-in-Gap-clause-gone g c = gone_none ℕ _ (g.T.Loaded.engines c.args.into.now)
