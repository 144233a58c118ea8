use Rattle.std.proofs.Common.{◌∙◌, ◌≤◌, ◌+◌, ◌-◌, ◌≡◌, ap, arith, refl, length, sym}
use Rattle.script_read.specs.declared.script.Command.{Command}
use Rattle.test_runner.specs.Verdicts.{is_evaluation}
use Rattle.test_runner.proofs.Engines.{quiet_more, quiet_none, quiet_there, quiet_whole}
use Rattle.test_runner.proofs.over.count_to_last.Goals as goal

pub loop-k-init : goal.loop-k-init
loop-k-init c = quiet_none c.args.commands.now _ (omega arith)

pub loop-k-preserved : goal.loop-k-preserved
loop-k-preserved c =
    quiet_more c.args.commands.now _ c.loop-k.k _ c.index-commands-last.result (omega arith) c.loop-k-test.true (omega arith) c.index-commands-last.is
    (ap (λ (one : Command). is_evaluation one.what) c.index-commands-last.is ∙ sym c.is_evaluation.ensures ∙ c.if-is_evaluation.false) c.loop-k.invariant

pub returns-then-is_evaluation-clause-quiet : goal.returns-then-is_evaluation-clause-quiet
returns-then-is_evaluation-clause-quiet c = quiet_there c.args.commands.now _ c.loop-k.k _ _ c.loop-k-test.true refl (omega arith) c.loop-k.invariant

pub returns-clause-quiet : goal.returns-clause-quiet
returns-clause-quiet c = quiet_whole c.args.commands.now _ c.loop-k.k (omega arith) c.loop-k.invariant
