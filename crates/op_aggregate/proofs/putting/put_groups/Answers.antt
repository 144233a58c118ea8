use Rattle.std.proofs.Common.{◌≡◌, ◌∙◌, ◌∷◌, ◌++◌, [], List, map, ap}
use Rattle.std.specs.List.{filter_map}
use Rattle.step_batch.specs.Lent.{Lent, entry_in, stages, step_of}
use Rattle.step_table.specs.Groups.{Names}
use Rattle.step_table.specs.Outcomes.{mark_of, row_of}
use Rattle.step_table.specs.Unions.{with_fatal}
use Rattle.op_aggregate.specs.Places.{groups_made, overflow_if}
use Rattle.op_aggregate.proofs.OneByOne.{unite_first, unite_overflow}
use Rattle.op_aggregate.proofs.putting.put_groups.Goals as goal

pub put_values-requires-clause-begun : goal.put_values-requires-clause-begun
put_values-requires-clause-begun c = (c.in_ok-unite.ensures.free 0 c.in_ok-begin.ensures.free).0

pub returns-clause-lent : goal.returns-clause-lent
returns-clause-lent c =
    let old = c.args.buffer.now in
    let groups = c.args.groups.now in
    let marks = c.args.marks.now in
    let same : c.unite.new.self.labels ≡ old.labels = c.unite.ensures.labels ∙ ap (λ (z : Lent). z.labels) c.in_ok-begin.ensures.ok in
    let made = groups_made groups.f c.unite.new.self.labels groups.all.items groups.filled.items in
    let first = unite_first (stages old) (stages c.begin.new.self) (stages c.unite.new.self) c.args.at marks c.in_ok-begin.ensures.stages c.in_ok-unite.ensures.stages in
    let values = c.in_ok-overflows.ensures.lent (stages old) c.args.at marks first in
    unite_overflow (stages old) (stages c.put_values.new.buffer) (stages c.unite-2.new.self) c.args.at marks c.in_ok-more.more (map entry_in (filter_map row_of made)) (overflow_if c.in_ok-overflows.overflows) (filter_map mark_of made)
    values c.in_ok-unite-2.ensures.stages c.in_ok-more.ensures c.in_ok-overflows.ensures.overflows
    ∙ ap (λ (ls : List Names). stages old ++ record { at = c.args.at; step = step_of (map entry_in (filter_map row_of (groups_made groups.f ls groups.all.items groups.filled.items))) (with_fatal marks (filter_map mark_of (groups_made groups.f ls groups.all.items groups.filled.items))) } ∷ []) same
