use Rattle.std.specs.Prelude.{⊤}
use Rattle.test_runner.proofs.Gone.{gone_same}
use Rattle.test_runner.proofs.Loading.{placed_put, unplaced_put}
use Rattle.std.proofs.Common.{◌∙◌, sym}
use Rattle.test_runner.proofs.Putting.{come_here, come_refused, has_as, may_as}
use Rattle.test_runner.proofs.load.put_line.Goals as goal

pub put_series-requires-clause-may : goal.put_series-requires-clause-may
put_series-requires-clause-may g c =
    may_as g.T.Loaded.judges (g.T.Loaded.holds c.args.into.now c.args.declared.now) _ _
    (placed_put c.args.declared.now c.args.interval c.args.line.now (sym c.is_placed.ensures ∙ c.if-is_placed.true)) c.requires

pub returns-then-is_placed-clause-put : goal.returns-then-is_placed-clause-put
returns-then-is_placed-clause-put g c =
    has_as g.T.Loaded.judges (g.T.Loaded.holds c.args.into.now c.args.declared.now) _ _
    (placed_put c.args.declared.now c.args.interval c.args.line.now (sym c.is_placed.ensures ∙ c.if-is_placed.true)) _ _ _ c.put_series.ensures.put

pub returns-else-is_placed-clause-put : goal.returns-else-is_placed-clause-put
returns-else-is_placed-clause-put g c =
    let judges = g.T.Loaded.judges in
    let Held = g.T.Loaded.holds c.args.into.now c.args.declared.now in
    rw c.unplaced.ensures (come_refused judges Held _ Held _ (come_here judges Held _) ⊤ _ Held
    (unplaced_put c.args.declared.now c.args.interval c.args.line.now (sym c.is_placed.ensures ∙ c.if-is_placed.false)))

pub returns-else-is_placed-clause-gone : goal.returns-else-is_placed-clause-gone
returns-else-is_placed-clause-gone g c = rw c.unplaced.ensures (gone_same ⊤ _ (g.T.Loaded.engines c.args.into.now) tt)
