use Rattle.std.proofs.Common.{◌≡◌, ◌+◌, ◌-◌, suc, ◌∙◌, sym, arith, length}
use Rattle.std.specs.Prelude.{⊤, ℕ}
use Rattle.test_runner.specs.Loads.{run_slots}
use Rattle.test_runner.proofs.Gone.{gone_ended, gone_err, gone_then}
use Rattle.test_runner.proofs.Loading.{run_goes, run_last, run_longer, run_more, run_overflows}
use Rattle.test_runner.proofs.Putting.{come_as, come_fail, come_may, come_on, come_stop, last_may, last_put}
use Rattle.test_runner.proofs.load.put_run.Goals as goal

pub put_sample-requires-clause-may : goal.put_sample-requires-clause-may
put_sample-requires-clause-may g c =
    let e : c.args.more - c.loop.counter ≡ suc (c.args.more - (c.loop.counter + 1)) = omega arith in
    come_may g.T.Loaded.judges (g.T.Loaded.holds c.args.into.now c.args.target.declared.now) _ (g.T.Loaded.holds c.loop.into c.args.target.declared.now) _ c.loop.invariant.come _ _
    (run_more c.args.target.line c.args.target.labels.now c.args.target.interval c.loop.value c.args.by.now (c.args.more - c.loop.counter) c.loop.place _ e) c.requires.may

pub returns-in-Err-clause-put : goal.returns-in-Err-clause-put
returns-in-Err-clause-put g c =
    let e : c.args.more - c.loop.counter ≡ suc (c.args.more - (c.loop.counter + 1)) = omega arith in
    come_stop g.T.Loaded.judges (g.T.Loaded.holds c.args.into.now c.args.target.declared.now) _ (g.T.Loaded.holds c.loop.into c.args.target.declared.now) _ c.loop.invariant.come _ _
    (run_more c.args.target.line c.args.target.labels.now c.args.target.interval c.loop.value c.args.by.now (c.args.more - c.loop.counter) c.loop.place _ e) ⊤ ℕ c.in-Err.fault (g.T.Loaded.holds c.put_sample.new.into c.args.target.declared.now) (g.T.Loaded.holds c.put_sample.new.into c.args.target.declared.now) c.in-Err.ensures.put

pub returns-in-Err-next_value-clause-put : goal.returns-in-Err-next_value-clause-put
returns-in-Err-next_value-clause-put g c =
    let q = c.in-Err-next_value.ensures in
    let e : c.args.more - c.loop.counter ≡ suc (c.args.more - (c.loop.counter + 1)) = omega arith in
    let judges = g.T.Loaded.judges in
    let Held = g.T.Loaded.holds c.args.into.now c.args.target.declared.now in
    let Now = g.T.Loaded.holds c.put_sample.new.into c.args.target.declared.now in
    let on = come_on judges Held _ (g.T.Loaded.holds c.loop.into c.args.target.declared.now) _ c.loop.invariant.come _ _
    (run_more c.args.target.line c.args.target.labels.now c.args.target.interval c.loop.value c.args.by.now (c.args.more - c.loop.counter) c.loop.place _ e) ⊤ tt Now c.in-Ok.ensures.put in
    rw q.1 (come_fail judges Held _ Now _ on ℕ c.args.target.line Now (run_overflows c.args.target.line c.args.target.labels.now c.args.target.interval _ _ (c.loop.place + 1) q.0))

pub loop-preserved : goal.loop-preserved
loop-preserved g c =
    let e : c.args.more - c.loop.counter ≡ suc (c.args.more - (c.loop.counter + 1)) = omega arith in
    let judges = g.T.Loaded.judges in
    let Held = g.T.Loaded.holds c.args.into.now c.args.target.declared.now in
    let Now = g.T.Loaded.holds c.put_sample.new.into c.args.target.declared.now in
    let next = c.in-Ok-next_value.next in
    let on = come_on judges Held _ (g.T.Loaded.holds c.loop.into c.args.target.declared.now) _ c.loop.invariant.come _ _
    (run_more c.args.target.line c.args.target.labels.now c.args.target.interval c.loop.value c.args.by.now (c.args.more - c.loop.counter) c.loop.place _ e) ⊤ tt Now c.in-Ok.ensures.put in
    let longer = run_longer c.loop.value c.args.by.now next (c.args.more - c.loop.counter) (c.args.more - (c.loop.counter + 1)) e c.in-Ok-next_value.ensures in
    record {
      come = come_as judges Held _ Now _ on _ (run_goes c.args.target.line c.args.target.labels.now c.args.target.interval _ _ next (c.loop.place + 1) c.in-Ok-next_value.ensures);
      here = omega (arith, c.loop.invariant.here);
      long = omega (arith, longer, c.loop.invariant.long);
      known = c.put_sample.ensures.known;
      gone = gone_then ⊤ tt (g.T.Loaded.engines c.args.into.now) (g.T.Loaded.engines c.loop.into) c.loop.invariant.gone ⊤ _ (g.T.Loaded.engines c.put_sample.new.into) c.in-Ok.ensures.gone;
      names = c.in-Ok.ensures.names ∙ c.loop.invariant.names;
    }

pub put_one-requires-clause-may : goal.put_one-requires-clause-may
put_one-requires-clause-may g c =
    let e : c.args.more - c.loop.counter ≡ 0 = omega arith in
    last_may g.T.Loaded.judges (g.T.Loaded.holds c.args.into.now c.args.target.declared.now) _ (g.T.Loaded.holds c.loop.into c.args.target.declared.now) _ c.loop.invariant.come _
    (run_last c.args.target.line c.args.target.labels.now c.args.target.interval c.loop.value c.args.by.now (c.args.more - c.loop.counter) c.loop.place e) c.requires.may

pub returns-clause-put : goal.returns-clause-put
returns-clause-put g c =
    let e : c.args.more - c.loop.counter ≡ 0 = omega arith in
    last_put g.T.Loaded.judges (g.T.Loaded.holds c.args.into.now c.args.target.declared.now) _ (g.T.Loaded.holds c.loop.into c.args.target.declared.now) _ c.loop.invariant.come _
    (run_last c.args.target.line c.args.target.labels.now c.args.target.interval c.loop.value c.args.by.now (c.args.more - c.loop.counter) c.loop.place e) ℕ c.put_one.result (g.T.Loaded.holds c.put_one.new.into c.args.target.declared.now) c.put_one.ensures.put

pub returns-clause-gone : goal.returns-clause-gone
returns-clause-gone g c = gone_then ⊤ tt (g.T.Loaded.engines c.args.into.now) (g.T.Loaded.engines c.loop.into) c.loop.invariant.gone ℕ c.put_one.result (g.T.Loaded.engines c.put_one.new.into) c.put_one.ensures.gone

pub returns-in-Err-clause-gone : goal.returns-in-Err-clause-gone
returns-in-Err-clause-gone g c = gone_err ⊤ ℕ c.in-Err.fault (g.T.Loaded.engines c.args.into.now) (g.T.Loaded.engines c.put_sample.new.into)
    (gone_then ⊤ tt (g.T.Loaded.engines c.args.into.now) (g.T.Loaded.engines c.loop.into) c.loop.invariant.gone ⊤ _ (g.T.Loaded.engines c.put_sample.new.into) c.in-Err.ensures.gone)

pub returns-in-Err-next_value-clause-gone : goal.returns-in-Err-next_value-clause-gone
returns-in-Err-next_value-clause-gone g c =
    let q = c.in-Err-next_value.ensures in
    let on = gone_then ⊤ tt (g.T.Loaded.engines c.args.into.now) (g.T.Loaded.engines c.loop.into) c.loop.invariant.gone ⊤ _ (g.T.Loaded.engines c.put_sample.new.into) c.in-Ok.ensures.gone in
    rw q.1 (gone_ended _ _ (g.T.Loaded.engines c.args.into.now) (g.T.Loaded.engines c.put_sample.new.into) on ℕ _ tt)
