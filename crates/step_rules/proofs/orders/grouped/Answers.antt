use Rattle.std.proofs.Common.{sym, subst}
use Rattle.std.specs.List.{All}
use Rattle.std.proofs.lemmas.List.Elements.{All-push}
use Rattle.step_rules.specs.Ranked.{IsRanked}
use Rattle.step_rules.specs.declared.orders.Ranked.{Ranked}
use Rattle.step_rules.proofs.Each.{held_more}
use Rattle.step_rules.proofs.orders.grouped.Goals as goal

pub loop-series-preserved : goal.loop-series-preserved
loop-series-preserved c =
    let P = IsRanked c.args.by.now in
    let old = c.loop-series.ranked.items in
    let one = c.in_ok-in_group.field-0 in
    record {
      series = held_more (λ (r : Ranked). r.series) old c.push.new.self.items one c.in-Some.series _ _ _ c.in-Some.ensures.steps.0 c.in_ok-push.ensures.items c.in_ok-in_group.ensures.series c.loop-series.invariant.series;
      ranked = subst (All P) (sym c.in_ok-push.ensures.items) (All-push P old one c.loop-series.invariant.ranked c.in_ok-in_group.ensures.ranked);
    }
