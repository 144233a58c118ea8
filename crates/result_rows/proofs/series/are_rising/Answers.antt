use Rattle.std.proofs.Common.{rules, ◌<◌, ◌-◌, length, arith}
use Rattle.std.proofs.lemmas.List.Elements.{pair_read}
use Rattle.std.proofs.lemmas.List.Sorted.{all_adjacent_more}
use Rattle.result_rows.proofs.Risen.{IsBelow, names_risen}
use Rattle.result_rows.proofs.series.are_rising.Goals as goal

pub loop-i-preserved : goal.loop-i-preserved
loop-i-preserved c =
    let series = c.args.series.now in
    let i = c.loop-i.i in
    let a = c.index-series-i.result in
    let b = c.index-series-i-in-loop-i.result in
    let low = c.loop-i.auto.i in
    let high : i < length series = search rules in
    let less : IsBelow a b = search rules in
    all_adjacent_more series IsBelow i (omega (arith, low)) c.loop-i.invariant
    (pair_read series IsBelow (i - 1) i a b (omega (arith, high)) high c.index-series-i.is c.index-series-i-in-loop-i.is less)

pub returns : goal.returns
returns c t = names_risen c.args.series.now (λ k d h. c.loop-i.invariant k d (let past = c.loop-i-test.false in omega (arith, h, past)))
