use Rattle.std.proofs.Common.{◌≡◌, ◌++◌, ap, map, rules, arith}
use Rattle.step_table.specs.Groups.{gathered}
use Rattle.promql_meaning.specs.Aggregations.{group_outcome}
use Rattle.promql_meaning.proofs.Filled.{filled_of}
use Rattle.promql_meaning.proofs.aggregates.summarised.Goals as goal

pub loop-labels-init : goal.loop-labels-init
loop-labels-init c =
    let gives = c.into_iter-labels-iterator.ensures.into_iter_gives in
    let items = c.in_ok-items.ensures in
    let all : c.into_iter-labels-iterator.result ≡ gathered c.in_ok-by_group.field-0 = first_of (cc, search (rules, gives, items), grind (arith, gives, items)) in
    record {
      outcomes = ap (λ out. out ++ map (group_outcome c.args.f c.args.q.now) c.into_iter-labels-iterator.result) c.new-outcomes.ensures;
      filled = filled_of c.into_iter-labels-iterator.result c.in_ok-by_group.field-0 all;
    }
