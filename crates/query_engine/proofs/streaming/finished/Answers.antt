use Rattle.std.proofs.Common.{refl}
use Rattle.promql_type.specs.TypedTrees.{tree_of}
use Rattle.query_engine.proofs.Streamed.{by_answer}
use Rattle.query_engine.proofs.streaming.finished.Goals as goal

pub returns : goal.returns
returns c = λ steps taken.
    by_answer c.args.instant (tree_of c.args.typed.now) c.args.collected steps steps c.in_ok-answer.answer c.is_scalar.result _
    c.collected_is_judged.ensures taken (c.in_ok-answer.ensures steps taken) c.is_scalar.ensures c.in_ok-order.ensures refl
