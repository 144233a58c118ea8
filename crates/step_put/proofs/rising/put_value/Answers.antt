use Rattle.std.proofs.Common.{◌≡◌, ◌∙◌, ◌+◌, ◌∷◌, ◌++◌, [], List, Some, length, get_or, sym, ap, subst}
use Rattle.std.specs.Prelude.{Result, Option, Ok}
use Rattle.std.specs.List.{cons_option}
use Rattle.std.specs.Option.{option_to_list}
use Rattle.step_batch.specs.Lent.{SlotsRise, entries_of, step_of}
use Rattle.step_put.specs.Placed.{slot_at}
use Rattle.step_table.specs.Groups.{Names}
use Rattle.xfrac.specs.declared.value.NumFault.{NumFault}
use Rattle.xfrac.specs.declared.value.XFrac.{XFrac}
use Rattle.step_put.proofs.Making.{entry_here, get_there}
use Rattle.step_put.proofs.Putting.{stages_row}
use Rattle.step_put.proofs.rising.put_value.Goals as goal

pub returns-in_ok-put-in-Ok-Some-clause-room : goal.returns-in_ok-put-in-Ok-Some-clause-room
returns-in_ok-put-in-Ok-Some-clause-room c = λ low slots f r.
    let e : c.args.value ≡ Ok (Some c.in-Ok-Some.value) = c.in-Ok-Some.is ∙ ap Ok c.in-Ok-Some.field-0-is in
    let rise : SlotsRise low (length c.args.buffer.now.labels) (record { place = c.args.place; value = c.in-Ok-Some.value } ∷ slots) = subst (λ (z : Result (Option XFrac) NumFault). SlotsRise low (length c.args.buffer.now.labels) (cons_option (slot_at c.args.place z) slots)) e r in
    (c.args.place + 1, c.in_ok-put-in-Ok-Some.ensures.free low rise.0 f, rise.2)

pub returns-in_ok-put-in-Ok-Some-clause-stages : goal.returns-in_ok-put-in-Ok-Some-clause-stages
returns-in_ok-put-in-Ok-Some-clause-stages c = λ front at es marks was.
    let e : c.args.value ≡ Ok (Some c.in-Ok-Some.value) = c.in-Ok-Some.is ∙ ap Ok c.in-Ok-Some.field-0-is in
    let labels = c.args.buffer.now.labels in
    let room = c.requires.room in
    let rise : SlotsRise room.0 (length labels) (record { place = c.args.place; value = c.in-Ok-Some.value } ∷ []) = subst (λ (z : Result (Option XFrac) NumFault). SlotsRise room.0 (length labels) (option_to_list (slot_at c.args.place z))) e room.2 in
    let names : Names = get_or labels c.args.place [] in
    let here = get_there labels c.args.place [] rise.1 in
    stages_row _ _ front at es marks names c.in-Ok-Some.value (c.in_ok-put-in-Ok-Some.ensures.stages names here) was
    ∙ ap (λ (z : List (Names × XFrac)). front ++ record { at = at; step = step_of (es ++ z) marks } ∷ []) (sym (entry_here labels c.args.place c.in-Ok-Some.value names here))
    ∙ ap (λ (z : Result (Option XFrac) NumFault). front ++ record { at = at; step = step_of (es ++ entries_of labels (option_to_list (slot_at c.args.place z))) marks } ∷ []) (sym e)
