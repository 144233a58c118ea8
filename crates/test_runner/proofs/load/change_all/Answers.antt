use Rattle.std.proofs.Common.{◌∙◌}
use Rattle.std.proofs.lemmas.List.{at_drop_all}
use Rattle.std.specs.Prelude.{⊤}
use Rattle.test_runner.specs.Loads.{left_by_all}
use Rattle.test_runner.proofs.Gone.{gone_then}
use Rattle.test_runner.proofs.Loading.{commands_split}
use Rattle.test_runner.proofs.Putting.{come_end, come_may, come_on, come_stop}
use Rattle.test_runner.proofs.load.change_all.Goals as goal

pub change-requires : goal.change-requires
change-requires g c =
    come_may g.T.Loaded.judges (g.T.Loaded.holds c.args.into.now c.args.declared.now) _ (g.T.Loaded.holds c.loop-command.into c.args.declared.now) _ c.loop-command.invariant.come _ _
    (commands_split c.args.declared.now c.args.commands.now c.loop-command.command-index c.command-item.result c.loop-command-test.true c.command-item.is) c.requires

pub loop-command-preserved : goal.loop-command-preserved
loop-command-preserved g c = record {
  come = come_on g.T.Loaded.judges (g.T.Loaded.holds c.args.into.now c.args.declared.now) _ (g.T.Loaded.holds c.loop-command.into c.args.declared.now) _ c.loop-command.invariant.come _ _
      (commands_split c.args.declared.now c.args.commands.now c.loop-command.command-index c.command-item.result c.loop-command-test.true c.command-item.is) ⊤ tt (g.T.Loaded.holds c.change.new.into c.args.declared.now) c.in-Ok.ensures.put;
  gone = gone_then ⊤ tt (g.T.Loaded.engines c.args.into.now) (g.T.Loaded.engines c.loop-command.into) c.loop-command.invariant.gone ⊤ _ (g.T.Loaded.engines c.change.new.into) c.in-Ok.ensures.gone;
  names = c.in-Ok.ensures.names ∙ c.loop-command.invariant.names;
}

pub returns-in-Err-clause-put : goal.returns-in-Err-clause-put
returns-in-Err-clause-put g c =
    come_stop g.T.Loaded.judges (g.T.Loaded.holds c.args.into.now c.args.declared.now) _ (g.T.Loaded.holds c.loop-command.into c.args.declared.now) _ c.loop-command.invariant.come _ _
    (commands_split c.args.declared.now c.args.commands.now c.loop-command.command-index c.command-item.result c.loop-command-test.true c.command-item.is) ⊤ ⊤ c.in-Err.fault (g.T.Loaded.holds c.change.new.into c.args.declared.now) (g.T.Loaded.holds c.change.new.into c.args.declared.now) c.in-Err.ensures.put

pub returns-clause-put : goal.returns-clause-put
returns-clause-put g c =
    come_end g.T.Loaded.judges (g.T.Loaded.holds c.args.into.now c.args.declared.now) _ (g.T.Loaded.holds c.loop-command.into c.args.declared.now) _ c.loop-command.invariant.come ⊤ tt
    (λ s. at_drop_all (λ xs. left_by_all c.args.declared.now xs s) c.args.commands.now c.loop-command.command-index c.loop-command-test.false)

pub returns-in-Err-clause-gone : goal.returns-in-Err-clause-gone
returns-in-Err-clause-gone g c =
    gone_then ⊤ tt (g.T.Loaded.engines c.args.into.now) (g.T.Loaded.engines c.loop-command.into) c.loop-command.invariant.gone ⊤ _ (g.T.Loaded.engines c.change.new.into) c.in-Err.ensures.gone
