use Rattle.std.proofs.Common.{◌∙◌}
use Rattle.std.proofs.lemmas.List.{at_drop_all}
use Rattle.std.specs.Prelude.{⊤}
use Rattle.test_runner.specs.Loads.{lines_put}
use Rattle.test_runner.proofs.Gone.{gone_then}
use Rattle.test_runner.proofs.Loading.{lines_split}
use Rattle.test_runner.proofs.Putting.{come_end, come_may, come_on, come_stop}
use Rattle.test_runner.proofs.load.put_lines.Goals as goal

pub put_line-requires : goal.put_line-requires
put_line-requires g c =
    come_may g.T.Loaded.judges (g.T.Loaded.holds c.args.into.now c.args.declared.now) _ (g.T.Loaded.holds c.loop-line.into c.args.declared.now) _ c.loop-line.invariant.come _ _
    (lines_split c.args.declared.now c.args.interval c.args.lines.now c.loop-line.line-index c.line-item.result c.loop-line-test.true c.line-item.is) c.requires

pub loop-line-preserved : goal.loop-line-preserved
loop-line-preserved g c = record {
  come = come_on g.T.Loaded.judges (g.T.Loaded.holds c.args.into.now c.args.declared.now) _ (g.T.Loaded.holds c.loop-line.into c.args.declared.now) _ c.loop-line.invariant.come _ _
      (lines_split c.args.declared.now c.args.interval c.args.lines.now c.loop-line.line-index c.line-item.result c.loop-line-test.true c.line-item.is) ⊤ tt (g.T.Loaded.holds c.put_line.new.into c.args.declared.now) c.in-Ok.ensures.put;
  gone = gone_then ⊤ tt (g.T.Loaded.engines c.args.into.now) (g.T.Loaded.engines c.loop-line.into) c.loop-line.invariant.gone ⊤ _ (g.T.Loaded.engines c.put_line.new.into) c.in-Ok.ensures.gone;
  names = c.in-Ok.ensures.names ∙ c.loop-line.invariant.names;
}

pub returns-in-Err-clause-put : goal.returns-in-Err-clause-put
returns-in-Err-clause-put g c =
    come_stop g.T.Loaded.judges (g.T.Loaded.holds c.args.into.now c.args.declared.now) _ (g.T.Loaded.holds c.loop-line.into c.args.declared.now) _ c.loop-line.invariant.come _ _
    (lines_split c.args.declared.now c.args.interval c.args.lines.now c.loop-line.line-index c.line-item.result c.loop-line-test.true c.line-item.is) ⊤ ⊤ c.in-Err.fault (g.T.Loaded.holds c.put_line.new.into c.args.declared.now) (g.T.Loaded.holds c.put_line.new.into c.args.declared.now) c.in-Err.ensures.put

pub returns-clause-put : goal.returns-clause-put
returns-clause-put g c =
    come_end g.T.Loaded.judges (g.T.Loaded.holds c.args.into.now c.args.declared.now) _ (g.T.Loaded.holds c.loop-line.into c.args.declared.now) _ c.loop-line.invariant.come ⊤ tt
    (λ s. at_drop_all (λ xs. lines_put c.args.declared.now c.args.interval xs s) c.args.lines.now c.loop-line.line-index c.loop-line-test.false)

pub returns-in-Err-clause-gone : goal.returns-in-Err-clause-gone
returns-in-Err-clause-gone g c =
    gone_then ⊤ tt (g.T.Loaded.engines c.args.into.now) (g.T.Loaded.engines c.loop-line.into) c.loop-line.invariant.gone ⊤ _ (g.T.Loaded.engines c.put_line.new.into) c.in-Err.ensures.gone
