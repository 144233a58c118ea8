use Rattle.std.proofs.Common.{ap, map, refl}
use Rattle.promql_tool.specs.Chosen.{under}
use Rattle.promql_tool.proofs.Judging.{script_cut, script_stopped, stopped_cut}
use Rattle.promql_tool.proofs.Serving.{all_kept, all_still, fault_leaves, ready_on, untouched_still, when_err, when_named}
use Rattle.test_runner.specs.Loads.{samples_left}
use Rattle.promql_tool.proofs.judge.run_script.Goals as goal

pub returns-in-Err-Write-clause-cut : goal.returns-in-Err-Write-clause-cut
returns-in-Err-Write-clause-cut g c = λ tell.
    script_cut _ g.S.Sink.written c.args.out.now c.run.new.out _ _ _ (under c.args.options.now.closed c.args.declared.now) c.args.searches.now c.args.path.now c.args.script.now (samples_left c.args.declared.now c.args.script.now) refl c.run.ensures.untouched
    (rw c.in-Err-Write.field-0-is at (c.in-Err-Write.ensures.cut tell))

pub returns-in-Err-Memory-clause-cut : goal.returns-in-Err-Memory-clause-cut
returns-in-Err-Memory-clause-cut g c = λ tell.
    script_cut _ g.S.Sink.written c.args.out.now c.run.new.out _ _ _ (under c.args.options.now.closed c.args.declared.now) c.args.searches.now c.args.path.now c.args.script.now (samples_left c.args.declared.now c.args.script.now) refl c.run.ensures.untouched
    (rw c.in-Err-Memory.field-0-is at (c.in-Err-Memory.ensures.cut tell))

pub returns-in-Err-Run-clause-cut : goal.returns-in-Err-Run-clause-cut
returns-in-Err-Run-clause-cut g c = λ tell.
    let stopped = script_stopped _ g.S.Sink.written c.args.out.now c.run.new.out _ _ _ (under c.args.options.now.closed c.args.declared.now) c.args.searches.now c.args.path.now c.args.script.now (samples_left c.args.declared.now c.args.script.now) refl c.run.ensures.untouched
    (rw c.in-Err-Run.field-0-is at (c.in-Err-Run.ensures.stopped tell)) in
    stopped_cut _ _ _ _ _ _ stopped

pub returns-in-Err-Run-clause-stopped : goal.returns-in-Err-Run-clause-stopped
returns-in-Err-Run-clause-stopped g c = λ tell.
    rw c.of.ensures (when_named c.in-Err-Run.fault _ (script_stopped _ g.S.Sink.written c.args.out.now c.run.new.out _ _ _ (under c.args.options.now.closed c.args.declared.now) c.args.searches.now c.args.path.now c.args.script.now (samples_left c.args.declared.now c.args.script.now) refl c.run.ensures.untouched
    (rw c.in-Err-Run.field-0-is at (c.in-Err-Run.ensures.stopped tell))))

pub returns-in-Ok-clause-boxes : goal.returns-in-Ok-clause-boxes
returns-in-Ok-clause-boxes g c = let h = c.in-Ok.ensures.boxes in all_still _ _ h.many h.boxes c.in-Ok.ensures.calm

pub returns-in-Err-Refused-clause-boxes : goal.returns-in-Err-Refused-clause-boxes
returns-in-Err-Refused-clause-boxes g c =
    let same = when_err _ _ _ c.run.ensures.untouched (rw c.in-Err-Refused.field-0-is at c.in-Err-Refused.ensures.explained) in
    untouched_still _ _ (ap (map (λ b. (goal.Engine-dyn g (b.vtable, b.value)).seen b.value)) same.2)

pub returns-in-Err-Range-clause-boxes : goal.returns-in-Err-Range-clause-boxes
returns-in-Err-Range-clause-boxes g c =
    let same = when_err _ _ _ c.run.ensures.untouched (rw c.in-Err-Range.field-0-is at c.in-Err-Range.ensures.explained) in
    untouched_still _ _ (ap (map (λ b. (goal.Engine-dyn g (b.vtable, b.value)).seen b.value)) same.2)

pub returns-in-Err-Write-clause-boxes : goal.returns-in-Err-Write-clause-boxes
returns-in-Err-Write-clause-boxes g c = let h = rw c.in-Err-Write.field-0-is at c.in-Err-Write.ensures.boxes in all_kept _ _ h.many h.boxes

pub returns-in-Err-Memory-clause-boxes : goal.returns-in-Err-Memory-clause-boxes
returns-in-Err-Memory-clause-boxes g c = let h = rw c.in-Err-Memory.field-0-is at c.in-Err-Memory.ensures.boxes in all_kept _ _ h.many h.boxes

pub returns-in-Err-Run-clause-boxes : goal.returns-in-Err-Run-clause-boxes
returns-in-Err-Run-clause-boxes g c =
    rw c.of.ensures (fault_leaves _ _ _ _ c.requires.ready.boxes c.in-Err-Run.fault (rw c.in-Err-Run.field-0-is at c.in-Err-Run.ensures.boxes) (rw c.in-Err-Run.field-0-is at c.in-Err-Run.ensures.faulted))

pub returns-in-Ok-clause-ready : goal.returns-in-Ok-clause-ready
returns-in-Ok-clause-ready g c = let h = c.in-Ok.ensures.boxes in ready_on _ _ _ h.many h.boxes c.requires.ready

pub returns-in-Err-Refused-clause-ready : goal.returns-in-Err-Refused-clause-ready
returns-in-Err-Refused-clause-ready g c = let h = rw c.in-Err-Refused.field-0-is at c.in-Err-Refused.ensures.boxes in ready_on _ _ _ h.many h.boxes c.requires.ready

pub returns-in-Err-Range-clause-ready : goal.returns-in-Err-Range-clause-ready
returns-in-Err-Range-clause-ready g c = let h = rw c.in-Err-Range.field-0-is at c.in-Err-Range.ensures.boxes in ready_on _ _ _ h.many h.boxes c.requires.ready

pub returns-in-Err-Refused-clause-labels : goal.returns-in-Err-Refused-clause-labels
returns-in-Err-Refused-clause-labels g c = (rw c.in-Err-Refused.field-0-is at c.in-Err-Refused.ensures.boxes).labels

pub returns-in-Err-Range-clause-labels : goal.returns-in-Err-Range-clause-labels
returns-in-Err-Range-clause-labels g c = (rw c.in-Err-Range.field-0-is at c.in-Err-Range.ensures.boxes).labels

pub returns-in-Err-Run-clause-sure : goal.returns-in-Err-Run-clause-sure
returns-in-Err-Run-clause-sure g c = λ tell sound. absurd (rw c.in-Err-Run.field-0-is at (c.in-Err-Run.ensures.sure tell sound))
