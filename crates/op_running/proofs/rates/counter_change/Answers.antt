use Rattle.std.proofs.Common.{◌≡◌, ◌∙◌, ◌-◌, ◌<◌, ◌≤◌, ◌∷◌, [], length, ap, arith, rules}
use Rattle.xfrac.specs.Forming.{negated}
use Rattle.xfrac.specs.declared.value.XFrac.{XFrac}
use Rattle.xfrac.specs.declared.value.XFrac.TheVariants.{NaN}
use Rattle.window_fn.specs.Aggregates.{total}
use Rattle.window_fn.specs.Increases.{lost}
use Rattle.window_fn.specs.Points.{first_of, last_of}
use Rattle.op_running.proofs.LostSums.{get_any, room_change}
use Rattle.op_running.proofs.rates.counter_change.Goals as goal

pub both-requires : goal.both-requires
both-requires c =
    let few : length c.args.values.now < 18446744073709551616 = search rules in
    room_change c.args.loss.now c.added_two-plain.result c.index-values-values.result c.neg.result c.args.values.now c.added_two-plain.ensures c.requires.kept few

pub returns : goal.returns
returns c =
    let values = c.args.values.now in
    let two : 2 ≤ length values = c.requires.two in
    let last : c.index-values-values.result ≡ last_of values = c.index-values-values.is ∙ get_any values (length values - 1) c.index-values-values.result NaN (omega arith) in
    let first : c.index-values-0.result ≡ first_of values = c.index-values-0.is ∙ get_any values 0 c.index-values-0.result NaN (omega arith) in
    c.sum_of.ensures (c.index-values-values.result ∷ c.neg.result ∷ lost values) (c.both.ensures (c.index-values-values.result ∷ c.neg.result ∷ []) (lost values) c.added_two-plain.ensures c.requires.kept.is_lost)
    ∙ ap (λ (v : XFrac). total (v ∷ c.neg.result ∷ lost values)) last ∙ ap (λ (v : XFrac). total (last_of values ∷ v ∷ lost values)) (c.neg.ensures ∙ ap negated first)
