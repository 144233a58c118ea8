use Rattle.std.proofs.Common.{◌∙◌, arith, refl}
use Rattle.std.proofs.lemmas.List.{at_drop_all}
use Rattle.std.specs.Prelude.{⊤, ℕ}
use Rattle.test_runner.specs.Loads.{line_slots, slots_put}
use Rattle.test_runner.proofs.Gone.{gone_err, gone_ok, gone_then}
use Rattle.test_runner.proofs.Loading.{items_split}
use Rattle.test_runner.proofs.Putting.{come_end, come_may, come_on, come_stop}
use Rattle.test_runner.proofs.load.put_items.Goals as goal

pub put_item-requires-clause-may : goal.put_item-requires-clause-may
put_item-requires-clause-may g c =
    come_may g.T.Loaded.judges (g.T.Loaded.holds c.args.into.now c.args.target.declared.now) _ (g.T.Loaded.holds c.loop-item.into c.args.target.declared.now) _ c.loop-item.invariant.come _ _
    (items_split c.args.target.line c.args.target.labels.now c.args.target.interval c.args.items.now c.loop-item.item-index c.item-item.result c.loop-item-test.true c.item-item.is c.loop-item.place _ refl) c.requires.may

pub loop-item-preserved : goal.loop-item-preserved
loop-item-preserved g c = record {
  come = come_on g.T.Loaded.judges (g.T.Loaded.holds c.args.into.now c.args.target.declared.now) _ (g.T.Loaded.holds c.loop-item.into c.args.target.declared.now) _ c.loop-item.invariant.come _ _
      (items_split c.args.target.line c.args.target.labels.now c.args.target.interval c.args.items.now c.loop-item.item-index c.item-item.result c.loop-item-test.true c.item-item.is c.loop-item.place c.in-Ok.next c.in-Ok.ensures.behind) ℕ c.in-Ok.next (g.T.Loaded.holds c.put_item.new.into c.args.target.declared.now) c.in-Ok.ensures.put;
  known = c.put_item.ensures.known;
  near = omega (arith, c.loop-item.invariant.near, c.in-Ok.ensures.near);
  gone = gone_ok ℕ c.in-Ok.next (g.T.Loaded.engines c.args.into.now) (g.T.Loaded.engines c.put_item.new.into) (gone_then ⊤ tt (g.T.Loaded.engines c.args.into.now) (g.T.Loaded.engines c.loop-item.into) c.loop-item.invariant.gone ℕ _ (g.T.Loaded.engines c.put_item.new.into) c.in-Ok.ensures.gone) ⊤ tt;
  names = c.in-Ok.ensures.names ∙ c.loop-item.invariant.names;
}

pub returns-in-Err-clause-put : goal.returns-in-Err-clause-put
returns-in-Err-clause-put g c =
    come_stop g.T.Loaded.judges (g.T.Loaded.holds c.args.into.now c.args.target.declared.now) _ (g.T.Loaded.holds c.loop-item.into c.args.target.declared.now) _ c.loop-item.invariant.come _ _
    (items_split c.args.target.line c.args.target.labels.now c.args.target.interval c.args.items.now c.loop-item.item-index c.item-item.result c.loop-item-test.true c.item-item.is c.loop-item.place _ refl) ℕ ⊤ c.in-Err.fault (g.T.Loaded.holds c.put_item.new.into c.args.target.declared.now) (g.T.Loaded.holds c.put_item.new.into c.args.target.declared.now) c.in-Err.ensures.put

pub returns-in-Err-clause-gone : goal.returns-in-Err-clause-gone
returns-in-Err-clause-gone g c =
    gone_err ℕ ⊤ c.in-Err.fault (g.T.Loaded.engines c.args.into.now) (g.T.Loaded.engines c.put_item.new.into) (gone_then ⊤ tt (g.T.Loaded.engines c.args.into.now) (g.T.Loaded.engines c.loop-item.into) c.loop-item.invariant.gone ℕ _ (g.T.Loaded.engines c.put_item.new.into) c.in-Err.ensures.gone)

pub returns-clause-put : goal.returns-clause-put
returns-clause-put g c =
    come_end g.T.Loaded.judges (g.T.Loaded.holds c.args.into.now c.args.target.declared.now) _ (g.T.Loaded.holds c.loop-item.into c.args.target.declared.now) _ c.loop-item.invariant.come ⊤ tt
    (λ s. at_drop_all (λ xs. slots_put c.args.target.line c.args.target.labels.now c.args.target.interval c.loop-item.place (line_slots xs) s) c.args.items.now c.loop-item.item-index c.loop-item-test.false)
