use Rattle.std.proofs.Common.{◌∙◌, ◌-◌, ap, arith, slice_set, take}
use Rattle.step_table.specs.declared.marks.Marks.{Marks}
use Rattle.step_batch.specs.Lent.{with_marks}
use Rattle.step_batch.proofs.Lasts.{front_changed}
use Rattle.step_batch.proofs.steps.unite_at.Goals as goal

pub returns-clause-ok : goal.returns-clause-ok
returns-clause-ok c =
    let xs = c.args.all.now.items in
    let i = c.index_mut.result.now in
    ap (λ (marks : Marks). take c.args.count (slice_set xs (c.args.count - 1) (record { at = i.at; slots = i.slots; marks = marks }))) c.in_ok-join.ensures.ok
    ∙ front_changed (with_marks c.args.marks.now) xs (c.args.count - 1) c.args.count i (let h = c.requires.some in omega arith) c.requires.within c.index_mut.ensures.value
