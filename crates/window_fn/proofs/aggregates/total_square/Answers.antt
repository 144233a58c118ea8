use Rattle.std.proofs.Common.{take, arith}
use Rattle.std.proofs.lemmas.List.{length-take-le, length-map}
use Rattle.window_fn.specs.Aggregates.{squared_distance}
use Rattle.window_fn.proofs.Adding.{few_answers}
use Rattle.window_fn.proofs.aggregates.total_square.Goals as goal

pub with_answer-sum-requires : goal.with_answer-sum-requires
with_answer-sum-requires c =
    few_answers c.loop-value.sum _ c.loop-value.invariant
    (omega (arith, length-map (take c.loop-value.value-index c.args.values.now) (squared_distance c.args.mean.now), length-take-le c.loop-value.value-index c.args.values.now c.loop-value.auto.value-index-end))
