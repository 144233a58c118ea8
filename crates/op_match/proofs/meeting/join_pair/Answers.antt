use Rattle.std.proofs.Common.{◌∙◌, ◌++◌, ◌∷◌, [], ap, sym, refl}
use Rattle.std.specs.Prelude.{Ok, Err, Some, None}
use Rattle.step_batch.specs.Lent.{row_of}
use Rattle.step_table.specs.declared.marks.Mark.{Mark}
use Rattle.op_match.specs.declared.meeting.Found.{Found}
use Rattle.op_match.proofs.Finding.{added_as, found_none, found_fault}
use Rattle.op_match.proofs.Lists.{on_ok}
use Rattle.op_match.proofs.meeting.join_pair.Goals as goal

pub returns-in-Ok-Some-clause-added : goal.returns-in-Ok-Some-clause-added
returns-in-Ok-Some-clause-added c = on_ok c.join_value.result c.join_value.ensures.added (λ h set names m o k hm ho.
    added_as set c.args.rows.now.labels c.join_value.new.rows.labels c.args.found.now c.join_value.new.found names c.args.matching.now.op c.args.matching.now.pairing (row_of (m, c.args.many.now.value)) (row_of (o, c.args.one.now.value)) (Ok (Some c.in-Ok-Some.value))
    (sym (c.in-Ok-Some.is ∙ ap Ok c.in-Ok-Some.field-0-is) ∙ c.pair_value.ensures) (h set names m o k hm ho))

pub returns-in-Ok-None-clause-added : goal.returns-in-Ok-None-clause-added
returns-in-Ok-None-clause-added c = λ set names m o k hm ho.
    added_as set c.args.rows.now.labels c.args.rows.now.labels c.args.found.now c.args.found.now names c.args.matching.now.op c.args.matching.now.pairing (row_of (m, c.args.many.now.value)) (row_of (o, c.args.one.now.value)) (Ok None)
    (sym (c.in-Ok-None.is ∙ ap Ok c.in-Ok-None.field-0-is) ∙ c.pair_value.ensures) (found_none set c.args.rows.now.labels c.args.rows.now.labels c.args.found.now c.args.found.now names (λ j x e. e) refl refl refl)

pub returns-in_ok-push-in-Err-clause-added : goal.returns-in_ok-push-in-Err-clause-added
returns-in_ok-push-in-Err-clause-added c = λ set names m o k hm ho.
    let new : Found = record { slots = c.args.found.now.slots; numbers = c.args.found.now.numbers; fatal = c.push.new.self } in
    added_as set c.args.rows.now.labels c.args.rows.now.labels c.args.found.now new names c.args.matching.now.op c.args.matching.now.pairing (row_of (m, c.args.many.now.value)) (row_of (o, c.args.one.now.value)) (Err c.in-Err.fault)
    (sym c.in-Err.is ∙ c.pair_value.ensures)
    (found_fault set c.args.rows.now.labels c.args.rows.now.labels c.args.found.now new names c.in-Err.fault (λ j x e. e) refl refl (c.in_ok-push-in-Err.ensures.ok ∙ ap (λ (z : Mark). c.args.found.now.fatal ++ z ∷ []) c.fault_mark.ensures))
