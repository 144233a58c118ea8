use Rattle.std.proofs.Common.{arith}
use Rattle.sample_store.proofs.Stores.{below-count}
use Rattle.sample_store.proofs.store.put_at.Goals as goal

pub put-requires-clause-among : goal.put-requires-clause-among
put-requires-clause-among c =
    let below = below-count c.args.series.now.entries c.args.place c.pair_mut-samples.result.0.now c.pair_mut-samples.result.1.now c.pair_mut-samples.ensures.value in
    let all = c.requires.counted in
    omega (arith, below, all)
