use Rattle.std.proofs.Common.{◌∙◌, sym}
use Rattle.tool_words.proofs.Declaring.{pairs_go, pairs_stop}
use Rattle.tool_words.proofs.engines.labels_of.Goals as goal

pub loop-pair-preserved : goal.loop-pair-preserved
loop-pair-preserved c =
    sym (pairs_go (λ p. p.now) c.args.pairs.now c.loop-pair.pair-index _ c.loop-pair-test.true c.loop-pair.labels _ (rw c.if-not-taken.false at c.in_ok-taken.ensures)) ∙ c.loop-pair.invariant

pub returns-then-not-taken : goal.returns-then-not-taken
returns-then-not-taken c =
    sym (pairs_stop (λ p. p.now) c.args.pairs.now c.loop-pair.pair-index _ c.loop-pair-test.true c.loop-pair.labels (rw c.if-not-taken.true at c.in_ok-taken.ensures)) ∙ c.loop-pair.invariant
