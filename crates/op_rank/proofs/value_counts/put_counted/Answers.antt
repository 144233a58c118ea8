use Rattle.std.proofs.Common.{◌≡◌, ◌∙◌, ◌∷◌, ◌++◌, [], List, ap}
use Rattle.step_batch.specs.Lent.{Lent, entries_of, stages, step_of}
use Rattle.step_table.specs.Groups.{Names}
use Rattle.step_table.specs.Unions.{united}
use Rattle.step_table.specs.declared.marks.Marks.{Marks}
use Rattle.op_rank.specs.ValueCounts.{overflow_if, slots_counted}
use Rattle.op_rank.proofs.PutCounts.{marks_put, more_put}
use Rattle.op_rank.proofs.value_counts.put_counted.Goals as goal

pub put_counts-requires-clause-begun : goal.put_counts-requires-clause-begun
put_counts-requires-clause-begun c = c.in_ok-unite.ensures.free 0 c.in_ok-begin.ensures.free

pub returns-clause-lent : goal.returns-clause-lent
returns-clause-lent c =
    let old = c.args.buffer.now in
    let at = c.args.at in
    let marks = c.args.marks.now in
    let counts = c.args.counts.now in
    let lost = c.args.lost in
    let same : c.unite.new.self.labels ≡ old.labels = c.unite.ensures.labels ∙ ap (λ (z : Lent). z.labels) c.in_ok-begin.ensures.ok in
    let first = marks_put (stages old) (stages c.begin.new.self) (stages c.unite.new.self) at marks c.in_ok-begin.ensures.stages c.in_ok-unite.ensures.stages in
    let values = c.in_ok-put_counts.ensures.lent (stages old) at marks first in
    more_put (stages old) (stages c.put_counts.new.buffer) (stages c.unite-2.new.self) at (entries_of c.unite.new.self.labels (slots_counted 0 counts)) marks c.in_ok-more.more values c.in_ok-unite-2.ensures.stages
    ∙ ap (λ (m : Marks). stages old ++ record { at = at; step = step_of (entries_of c.unite.new.self.labels (slots_counted 0 counts)) (united marks m) } ∷ []) c.in_ok-more.ensures
    ∙ ap (λ (ls : List Names). stages old ++ record { at = at; step = step_of (entries_of ls (slots_counted 0 counts)) (united marks (record { fatal = overflow_if lost; notes = [] })) } ∷ []) same
