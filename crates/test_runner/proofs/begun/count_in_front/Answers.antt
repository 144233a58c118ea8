use Rattle.std.proofs.Common.{◌∙◌, sym}
use Rattle.test_runner.proofs.Beginning.{one_quiet_more}
use Rattle.test_runner.proofs.begun.count_in_front.Goals as goal

pub loop-i-preserved : goal.loop-i-preserved
loop-i-preserved c =
    one_quiet_more c.loop-i.i c.args.commands.now c.index-commands-i.result c.loop-i-test.true c.index-commands-i.is c.loop-i.invariant
    (sym c.is_evaluation.ensures ∙ c.if-is_evaluation.false)
