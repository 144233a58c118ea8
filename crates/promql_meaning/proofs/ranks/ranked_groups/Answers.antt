use Rattle.std.proofs.Common.{◌∙◌, sym, ap, subst}
use Rattle.step_table.specs.Groups.{gathered}
use Rattle.promql_meaning.specs.RankedGroups.{AreRanked, IsByValue}
use Rattle.promql_meaning.proofs.Ranked.{ranked_are}
use Rattle.promql_meaning.proofs.ranks.ranked_groups.Goals as goal

pub returns : goal.returns
returns c =
    let order = c.order_is_total.ensures in
    let sorted : IsByValue c.args.down c.args.rows.now c.by_value-sorted.result.items = subst (λ rows. IsByValue c.args.down rows c.by_value-sorted.result.items) c.in_ok-refs.ensures.rows c.by_value-sorted.ensures in
    let is = c.in_ok-groups.ensures ∙ ap gathered c.in_ok-with_groups.ensures in
    subst (AreRanked c.args.down c.args.by.now c.args.rows.now) (sym is) (ranked_are order.equal order.reversed order.transitive c.args.down c.args.by.now c.args.rows.now c.by_value-sorted.result.items sorted)
