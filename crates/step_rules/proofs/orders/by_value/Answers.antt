use Rattle.std.proofs.Common.{◌≡◌, ◌∙◌, ap, map, subst}
use Rattle.std.specs.Prelude.{IfOk}
use Rattle.step_rules.specs.declared.orders.Ranked.{Ranked}
use Rattle.step_rules.proofs.Sorting.{in_order_is}
use Rattle.step_rules.proofs.orders.by_value.Goals as goal

pub returns : goal.returns
returns c =
    let same = ap (map (λ (r : Ranked). r.series)) c.in_ok-sorted.ensures ∙ in_order_is c.args.order.now.down c.args.order.now.by c.in_ok-ranked.ranked.items c.args.series c.in_ok-ranked.ensures.series c.in_ok-ranked.ensures.ranked in
    subst (λ x. IfOk c.series_in.result (λ s. s ≡ x)) same c.series_in.ensures
