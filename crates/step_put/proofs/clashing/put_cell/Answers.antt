use Rattle.std.proofs.Common.{◌∙◌, ◌++◌, ◌∷◌, [], List, ap, get_or, sym}
use Rattle.std.specs.Option.{option_to_list}
use Rattle.step_batch.specs.Lent.{entries_of, step_of}
use Rattle.step_put.specs.Clashes.{lone_slot}
use Rattle.step_put.specs.declared.cells.Cell.{Cell}
use Rattle.step_table.specs.Groups.{Names}
use Rattle.xfrac.specs.declared.value.XFrac.{XFrac}
use Rattle.step_put.proofs.Making.{entry_here, get_there}
use Rattle.step_put.proofs.Putting.{free_wider, stages_row}
use Rattle.step_put.proofs.clashing.put_cell.Goals as goal

pub returns-in-Empty-clause-free : goal.returns-in-Empty-clause-free
returns-in-Empty-clause-free c = free_wider c.args.place c.args.buffer.now c.requires.free

pub returns-in-Several-clause-free : goal.returns-in-Several-clause-free
returns-in-Several-clause-free c = free_wider c.args.place c.args.buffer.now c.requires.free

pub returns-in_ok-put-in-One-clause-stages : goal.returns-in_ok-put-in-One-clause-stages
returns-in_ok-put-in-One-clause-stages c = λ front at es marks was.
    let labels = c.args.buffer.now.labels in
    let names : Names = get_or labels c.args.place [] in
    let here = get_there labels c.args.place [] c.requires.there in
    stages_row _ _ front at es marks names c.in-One.value (c.in_ok-put-in-One.ensures.stages names here) was
    ∙ ap (λ (z : List (Names × XFrac)). front ++ record { at = at; step = step_of (es ++ z) marks } ∷ []) (sym (entry_here labels c.args.place c.in-One.value names here))
    ∙ ap (λ (z : Cell). front ++ record { at = at; step = step_of (es ++ entries_of labels (option_to_list (lone_slot c.args.place z))) marks } ∷ []) (sym c.in-One.is)
