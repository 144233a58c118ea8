use Rattle.std.proofs.Common.{rules, ◌≡◌, map, ◌<◌, length, [], arith}
use Rattle.label_set.specs.Labels.{labels_cmp}
use Rattle.std.proofs.lemmas.List.{length-map}
use Rattle.std.proofs.lemmas.Map.Keys.{sorted_from_all_adjacent}
use Rattle.std.specs.declared.cmp.Ordering.TheVariants.{Less}
use Rattle.step_table.specs.declared.cells.CellRow.{CellRow}
use Rattle.remote_api.proofs.Rising.{one_more}
use Rattle.remote_api.proofs.checking.are_rising.Goals as goal

pub loop-i-preserved : goal.loop-i-preserved
loop-i-preserved c =
    let less : labels_cmp c.index-rows-i.result.labels c.index-rows-i-in-loop-i.result.labels ≡ Less = search rules in
    let low = c.loop-i.auto.i in
    let high : c.loop-i.i < length c.args.rows.now = search rules in
    one_more c.args.rows.now c.loop-i.i c.index-rows-i.result c.index-rows-i-in-loop-i.result c.index-rows-i.is c.index-rows-i-in-loop-i.is high less c.loop-i.invariant

pub returns : goal.returns
returns c t =
    let n = length-map c.args.rows.now (λ (row : CellRow). row.labels) in
    sorted_from_all_adjacent c.order_is_total.ensures.total (map (λ (row : CellRow). row.labels) c.args.rows.now) [] (λ k h. c.loop-i.invariant k (let e = c.loop-i-test.false in omega (arith, n, h, e)))
