use Rattle.std.proofs.Common.{◌∙◌, sym}
use Rattle.tool_words.proofs.Declaring.{distinct_go}
use Rattle.tool_words.proofs.engines.are_distinct.Goals as goal

pub loop-i-preserved : goal.loop-i-preserved
loop-i-preserved c =
    c.loop-i.invariant
    ∙ distinct_go c.args.all.now c.loop-i.i c.index-all-i.result c.split_at.result.1.now c.loop-i-test.true c.index-all-i.is c.split_at.ensures.back
    (sym c.is_among-stands_twice.ensures ∙ c.if-stands_twice.false)
