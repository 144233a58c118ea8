use Rattle.std.proofs.Common.{◌∙◌, sym}
use Rattle.step_table.specs.OneSides.{match_in, read}
use Rattle.step_table.proofs.Slices.{one_skipped, one_more}
use Rattle.step_table.proofs.matching.matches.Goals as goal

pub loop-row-preserved-in_default : goal.loop-row-preserved-in_default
loop-row-preserved-in_default c = one_skipped (match_in c.args.op c.args.p.now (read c.args.one_side.now.entries)) c.args.many.now c.loop-row.row-index c.row-item.result c.loop-row.pairs c.loop-row-test.true c.row-item.is c.loop-row.invariant (sym c.in_default.is ∙ c.in_ok-pair.ensures)

pub loop-row-preserved : goal.loop-row-preserved
loop-row-preserved c = one_more (match_in c.args.op c.args.p.now (read c.args.one_side.now.entries)) c.args.many.now c.loop-row.row-index c.row-item.result c.loop-row.pairs _ c.in-Some.pair c.loop-row-test.true c.row-item.is c.loop-row.invariant (sym c.in-Some.is ∙ c.in_ok-pair.ensures) c.in_ok-push.ensures.ok
