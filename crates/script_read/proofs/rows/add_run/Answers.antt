use Rattle.std.proofs.Common.{◌≡◌, ◌+◌, ◌-◌, suc, false, arith, sym, ◌∙◌}
use Rattle.std.proofs.lemmas.Result.{err_from_is_err_and}
use Rattle.script_read.specs.Results.{run_points}
use Rattle.ticks.specs.Moments.{moments_in}
use Rattle.script_read.proofs.Cells.{run_more, run_past}
use Rattle.script_read.proofs.Steps.{fails_when, front_refused}
use Rattle.script_read.proofs.rows.add_run.Goals as goal

pub returns-in_err-value : goal.returns-in_err-value
returns-in_err-value c =
    let p = err_from_is_err_and c.from_residual-in_err-value.result c.from_residual-in_err-value.ensures.1 in
    let m = moments_in c.args.grid.now false in
    let e = c.in_err-value.field-0.0 in
    let left : c.args.more - c.loop-done.done ≡ suc (c.args.more - (c.loop-done.done + 1)) = omega arith in
    rw (p.1, p.2) (fails_when e _ (front_refused c.args.points.now (run_points m c.args.place c.args.more c.args.first.now c.args.by.now) e
    (sym c.loop-done.invariant ∙ run_past m c.loop-done.points (c.args.place + c.loop-done.done) c.loop-done.value c.args.by.now (c.args.more - c.loop-done.done) _ e left (sym c.in_err-value.ensures))))

pub loop-done-preserved : goal.loop-done-preserved
loop-done-preserved c =
    let m = moments_in c.args.grid.now false in
    let left : c.args.more - c.loop-done.done ≡ suc (c.args.more - (c.loop-done.done + 1)) = omega arith in
    let after : c.args.place + (c.loop-done.done + 1) ≡ (c.args.place + c.loop-done.done) + 1 = omega arith in
    rw (c.in_ok-push.ensures.ok, c.instant_at.ensures)
    (sym (run_more m c.loop-done.points (c.args.place + c.loop-done.done) c.loop-done.value c.args.by.now (c.args.more - c.loop-done.done) (c.args.more - (c.loop-done.done + 1))
    (c.args.place + (c.loop-done.done + 1)) c.in_ok-value.value left after (sym c.in_ok-value.ensures)) ∙ c.loop-done.invariant)
