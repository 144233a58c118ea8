use Rattle.std.proofs.Common.{◌≡◌, List, sym, subst, true}
use Rattle.label_set.specs.declared.rules.Rule.{Rule}
use Rattle.plan_bases.specs.Bases.{AreSeries, is_under}
use Rattle.plan_bases.proofs.Putting.{if_ok_all, on_ok_then, put_right, put_stays, put_there}
use Rattle.plan_bases.proofs.lists.SeriesLists.select_new.Goals as goal

pub returns-clause-right : goal.returns-clause-right
returns-clause-right g c =
    let kept = c.args.patterns.now in
    let store = c.args.store.now in
    let series = c.in_ok-series.series in
    let are : AreSeries kept store c.args.rules.now series = record { selected = c.in_ok-series.ensures.selected; these = c.in_ok-series.ensures.chosen } in
    on_ok_then c.put.result c.put.ensures (λ now.
    put_right c.in_ok-copy.field-0 series c.args.self.now c.put.new.self now kept store c.requires.right (subst (λ (rules : List Rule). AreSeries kept store rules series) (sym c.in_ok-copy.ensures) are))

pub returns-clause-stays : goal.returns-clause-stays
returns-clause-stays g c = on_ok_then c.put.result c.put.ensures (λ now. put_stays c.in_ok-copy.field-0 c.in_ok-series.series c.args.self.now c.put.new.self now)

pub returns-clause-there : goal.returns-clause-there
returns-clause-there g c = on_ok_then c.put.result c.put.ensures (λ now.
    subst (λ (rules : List Rule). is_under c.put.new.self rules ≡ true) c.in_ok-copy.ensures (put_there c.in_ok-copy.field-0 c.in_ok-series.series c.args.self.now c.put.new.self now))

pub returns-clause-counted : goal.returns-clause-counted
returns-clause-counted g c = if_ok_all c.put.result c.in_ok-series.ensures.tested
