use Rattle.std.proofs.Common.{◌++◌, take}
use Rattle.std.proofs.lemmas.List.Sorted.{IsPermutation-sym, IsPermutation-trans}
use Rattle.std.proofs.lemmas.Map.Keys.{IsDistinct-from_sorted}
use Rattle.op_rank.specs.Contenders.{tidied_order}
use Rattle.op_rank.proofs.BestSorted.{best_are_one, first_are_best}
use Rattle.op_rank.proofs.Firsts.{contenders_total}
use Rattle.op_rank.proofs.laws.best_are_first.Goals as goal

pub returns : goal.returns
returns c = λ down k all best sorted are moved up.
    let order = c.order_is_total.ensures in
    let total = contenders_total order.equal order.reversed order.transitive down in
    best_are_one (tidied_order down) total k sorted best (take k sorted) (IsDistinct-from_sorted (tidied_order down) sorted up)
    (record { left_out = are.0.left_out; parted = IsPermutation-trans sorted all (best ++ are.0.left_out) (IsPermutation-sym all sorted moved) are.0.parted; ahead = are.0.ahead }, are.1)
    (first_are_best (tidied_order down) total k sorted up)
