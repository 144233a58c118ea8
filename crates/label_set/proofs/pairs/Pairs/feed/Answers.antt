use Rattle.std.proofs.Common.{◌++◌}
use Rattle.std.specs.Hash as fed
use Rattle.label_set.proofs.PairSteps.{fed_more}
use Rattle.label_set.proofs.pairs.Pairs.feed.Goals as goal

pub loop-i-preserved : goal.loop-i-preserved
loop-i-preserved g c =
    fed_more g.H.Hasher.write (λ p. fed.str p.0 ++ fed.str p.1) c.write_usize.new.self c.loop-i.state c.hash.new.state c.args.self.now c.loop-i.i _ c.pair.ensures c.loop-i.invariant c.hash.ensures
