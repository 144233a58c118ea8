use Rattle.std.proofs.Common.{◌+◌, refl}
use Rattle.std.specs.Prelude.{⊤, ℕ}
use Rattle.test_runner.proofs.Gone.{gone_err, gone_ok}
use Rattle.test_runner.proofs.Putting.{come_end, come_here, come_may, come_on, come_stop}
use Rattle.test_runner.proofs.load.put_one.Goals as goal

pub put_sample-requires-clause-may : goal.put_sample-requires-clause-may
put_sample-requires-clause-may g c =
    let judges = g.T.Loaded.judges in
    let Held = g.T.Loaded.holds c.args.into.now c.args.target.declared.now in
    come_may judges Held _ Held _ (come_here judges Held _) _ _ (λ s. refl) c.requires.may

pub returns-in-Ok-clause-put : goal.returns-in-Ok-clause-put
returns-in-Ok-clause-put g c =
    let judges = g.T.Loaded.judges in
    let Held = g.T.Loaded.holds c.args.into.now c.args.target.declared.now in
    let Now = g.T.Loaded.holds c.put_sample.new.into c.args.target.declared.now in
    come_end judges Held _ Now _ (come_on judges Held _ Held _ (come_here judges Held _) _ _ (λ s. refl) ⊤ tt Now c.in-Ok.ensures.put) ℕ (c.args.place + 1) (λ s. refl)

pub returns-in-Err-clause-put : goal.returns-in-Err-clause-put
returns-in-Err-clause-put g c =
    let judges = g.T.Loaded.judges in
    let Held = g.T.Loaded.holds c.args.into.now c.args.target.declared.now in
    come_stop judges Held _ Held _ (come_here judges Held _) _ _ (λ s. refl) ⊤ ℕ c.in-Err.fault (g.T.Loaded.holds c.put_sample.new.into c.args.target.declared.now) (g.T.Loaded.holds c.put_sample.new.into c.args.target.declared.now) c.in-Err.ensures.put

pub returns-in-Ok-clause-gone : goal.returns-in-Ok-clause-gone
returns-in-Ok-clause-gone g c = gone_ok ⊤ tt (g.T.Loaded.engines c.args.into.now) (g.T.Loaded.engines c.put_sample.new.into) c.in-Ok.ensures.gone ℕ (c.args.place + 1)

pub returns-in-Err-clause-gone : goal.returns-in-Err-clause-gone
returns-in-Err-clause-gone g c = gone_err ⊤ ℕ c.in-Err.fault (g.T.Loaded.engines c.args.into.now) (g.T.Loaded.engines c.put_sample.new.into) c.in-Err.ensures.gone
