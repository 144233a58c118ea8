use Rattle.std.proofs.Common.{arith}
use Rattle.std.proofs.lemmas.List.{length-take-le}
use Rattle.engine_local.proofs.Summing.{few}
use Rattle.engine_local.proofs.groups.sum_over.Goals as goal

pub with_value-sum-requires : goal.with_value-sum-requires
with_value-sum-requires c =
    few c.loop-value.sum _ c.loop-value.invariant.sum.kept (omega (arith, length-take-le c.loop-value.value-index c.args.values.now c.loop-value.auto.value-index-end))
