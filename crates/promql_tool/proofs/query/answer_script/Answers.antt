use Rattle.std.proofs.Common.{ap, map}
use Rattle.promql_tool.proofs.Serving.{all_kept, all_still, fault_leaves, first_if_err, untouched_still, when_err}
use Rattle.promql_tool.proofs.query.answer_script.Goals as goal

pub returns-in-Ok-clause-boxes : goal.returns-in-Ok-clause-boxes
returns-in-Ok-clause-boxes g c = let h = c.in-Ok.ensures.boxes in all_still _ _ h.many h.boxes c.in-Ok.ensures.calm

pub returns-in-Err-Refused-clause-boxes : goal.returns-in-Err-Refused-clause-boxes
returns-in-Err-Refused-clause-boxes g c =
    let same = when_err _ _ _ c.answer.ensures.idle (rw c.in-Err-Refused.field-0-is at c.in-Err-Refused.ensures.explained) in
    untouched_still _ _ (ap (map (λ b. (goal.Engine-dyn g (b.vtable, b.value)).seen b.value)) same.1)

pub returns-in-Err-Range-clause-boxes : goal.returns-in-Err-Range-clause-boxes
returns-in-Err-Range-clause-boxes g c =
    let same = when_err _ _ _ c.answer.ensures.idle (rw c.in-Err-Range.field-0-is at c.in-Err-Range.ensures.explained) in
    untouched_still _ _ (ap (map (λ b. (goal.Engine-dyn g (b.vtable, b.value)).seen b.value)) same.1)

pub returns-in-Err-Write-clause-boxes : goal.returns-in-Err-Write-clause-boxes
returns-in-Err-Write-clause-boxes g c = let h = rw c.in-Err-Write.field-0-is at c.in-Err-Write.ensures.boxes in all_kept _ _ h.many h.boxes

pub returns-in-Err-Memory-clause-boxes : goal.returns-in-Err-Memory-clause-boxes
returns-in-Err-Memory-clause-boxes g c = let h = rw c.in-Err-Memory.field-0-is at c.in-Err-Memory.ensures.boxes in all_kept _ _ h.many h.boxes

pub returns-in-Err-Run-clause-boxes : goal.returns-in-Err-Run-clause-boxes
returns-in-Err-Run-clause-boxes g c =
    rw c.of.ensures (fault_leaves _ _ _ _ c.requires.ready.boxes c.in-Err-Run.fault (rw c.in-Err-Run.field-0-is at c.in-Err-Run.ensures.boxes) (rw c.in-Err-Run.field-0-is at c.in-Err-Run.ensures.faulted))

pub returns-in-Err-Run-clause-sure : goal.returns-in-Err-Run-clause-sure
returns-in-Err-Run-clause-sure g c = λ tell sound. absurd (rw c.in-Err-Run.field-0-is at (c.in-Err-Run.ensures.sure tell sound))

pub returns-in-Ok-clause-idle : goal.returns-in-Ok-clause-idle
returns-in-Ok-clause-idle g c = first_if_err _ _ _ _ c.answer.ensures.idle

pub returns-in-Err-Refused-clause-idle : goal.returns-in-Err-Refused-clause-idle
returns-in-Err-Refused-clause-idle g c = first_if_err _ _ _ _ c.answer.ensures.idle

pub returns-in-Err-Range-clause-idle : goal.returns-in-Err-Range-clause-idle
returns-in-Err-Range-clause-idle g c = first_if_err _ _ _ _ c.answer.ensures.idle

pub returns-in-Err-Run-clause-idle : goal.returns-in-Err-Run-clause-idle
returns-in-Err-Run-clause-idle g c = first_if_err _ _ _ _ c.answer.ensures.idle

pub returns-in-Err-Write-clause-idle : goal.returns-in-Err-Write-clause-idle
returns-in-Err-Write-clause-idle g c = first_if_err _ _ _ _ c.answer.ensures.idle

pub returns-in-Err-Memory-clause-idle : goal.returns-in-Err-Memory-clause-idle
returns-in-Err-Memory-clause-idle g c = first_if_err _ _ _ _ c.answer.ensures.idle
