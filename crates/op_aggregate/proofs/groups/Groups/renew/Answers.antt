use Rattle.std.proofs.Common.{◌∙◌, [], Some, sym, ap}
use Rattle.func_table.specs.declared.table.Aggregate.{Aggregate}
use Rattle.op_aggregate.specs.Tallies.{group_of}
use Rattle.op_aggregate.proofs.Grouping.{none_tallied}
use Rattle.op_aggregate.proofs.groups.Groups.renew.Goals as goal

pub returns-clause-empty : goal.returns-clause-empty
returns-clause-empty c =
    let i = c.loop-place.invariant in
    none_tallied c.loop-place.self i.filled (λ q m. i.kept q m ∙ ap (λ (h : Aggregate). Some (group_of h [])) (sym i.f))
