use Rattle.std.proofs.Common.{◌≡◌, ◌∙◌, sym, ap, rules}
use Rattle.step_table.specs.KeySets.{merged-nil}
use Rattle.step_table.specs.Orders.{mark_cmp, note_cmp}
use Rattle.step_table.specs.Unions.{united}
use Rattle.step_table.specs.declared.marks.Marks.{Marks}
use Rattle.step_batch.specs.Lent.{no_marks}
use Rattle.result_rows.proofs.found.unite.Goals as goal

united_none : (marks more : Marks) → more ≡ no_marks → marks ≡ united marks more
united_none marks more none = sym (ap (united marks) none ∙ (λ i. record { fatal = merged-nil mark_cmp marks.fatal i; notes = merged-nil note_cmp marks.notes i }))

pub returns-then-has_none : goal.returns-then-has_none
returns-then-has_none c = let none : c.args.more.now ≡ no_marks = search rules in united_none c.args.marks.now c.args.more.now none
