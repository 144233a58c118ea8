use Rattle.std.proofs.Common.{◌∷◌, [], arith}
use Rattle.std.proofs.lemmas.List.Elements.{All-nil}
use Rattle.xfrac.specs.Laws.{IsNumber}
use Rattle.op_running.proofs.Sums.{few}
use Rattle.op_running.proofs.totals.added_two.Goals as goal

pub with_value-requires-2 : goal.with_value-requires-2
with_value-requires-2 c = few c.with_value.result (c.args.a.now ∷ []) (c.with_value.ensures [] (record { numbers = All-nil IsNumber; kept = c.new.ensures.value })) (omega arith)
