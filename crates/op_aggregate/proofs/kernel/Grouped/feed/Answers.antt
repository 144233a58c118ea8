use Rattle.std.proofs.Common.{◌∙◌, List, ap, map}
use Rattle.std.proofs.lemmas.Result.{on_ok_weaker}
use Rattle.func_table.specs.declared.table.Aggregate.{Aggregate}
use Rattle.step_batch.specs.Lent.{stages}
use Rattle.op_aggregate.specs.Rules.{Aggregating, aggregations, owed_cells}
use Rattle.op_aggregate.specs.OwedCells.{cells_at}
use Rattle.step_table.specs.Groups.{Names}
use Rattle.op_aggregate.proofs.Feeding.{placed_by}
use Rattle.op_aggregate.proofs.kernel.Grouped.feed.Goals as goal

pub put_all-requires-clause-placed : goal.put_all-requires-clause-placed
put_all-requires-clause-placed c =
    let by = c.self.inside.by in
    let now = c.renew.new.self in
    (by, placed_by by c.renew.new.buffer.labels now.fed c.args.rows.now.labels now.left now.places c.places.result.now c.renew.ensures.named (c.renew.ensures.left ∙ c.self.invariant.0) (c.in_ok-renew.ensures.fed ∙ c.labels.ensures.labels) c.places.ensures)

pub returns-clause-lent : goal.returns-clause-lent
returns-clause-lent c =
    let by = c.self.inside.by in
    let now = c.renew.new.self in
    let rows = c.args.rows.now in
    let placed = placed_by by c.renew.new.buffer.labels now.fed rows.labels now.left now.places c.places.result.now c.renew.ensures.named (c.renew.ensures.left ∙ c.self.invariant.0) (c.in_ok-renew.ensures.fed ∙ c.labels.ensures.labels) c.places.ensures in
    on_ok_weaker c.put_all.result (λ lent.
    lent by placed ∙ ap (λ (f : Aggregate). aggregations f by (stages rows)) c.renew_groups.ensures.f ∙ ap (λ (k : Aggregating). aggregations k.f k.by (stages rows)) c.self.view_is) c.put_all.ensures.lent

pub returns-clause-owed : goal.returns-clause-owed
returns-clause-owed c =
    let by = c.self.inside.by in
    let now = c.renew.new.self in
    let rows = c.args.rows.now in
    let placed = placed_by by c.renew.new.buffer.labels now.fed rows.labels now.left now.places c.places.result.now c.renew.ensures.named (c.renew.ensures.left ∙ c.self.invariant.0) (c.in_ok-renew.ensures.fed ∙ c.labels.ensures.labels) c.places.ensures in
    on_ok_weaker c.put_all.result (λ owed.
    ap (λ (ls : List Names). map (cells_at ls) c.put_all.new.owed.steps.items) c.put_all.ensures.labels
    ∙ owed by placed ∙ ap (λ (f : Aggregate). owed_cells c.self.inside.owed.wanted f by (stages rows)) c.renew_groups.ensures.f ∙ ap (λ (k : Aggregating). owed_cells k.partial k.f k.by (stages rows)) c.self.view_is) c.put_all.ensures.owed
