use Rattle.std.proofs.Common.{◌≡◌, ◌+◌, ◌-◌, false}
use Rattle.script_read.specs.Outcomes.{in_front}
use Rattle.script_read.specs.Results.{run_points}
use Rattle.ticks.specs.Moments.{moments_in}
use Rattle.script_read.proofs.rows.add_run.Given as goal

abbrev pub invariant-loop-done : goal.invariant-loop-done
invariant-loop-done l =
    in_front l.points (run_points (moments_in l.grid false) (l.place + l.done) (l.more - l.done) l.value l.by)
    ≡ in_front l.fn.points (run_points (moments_in l.grid false) l.place l.more l.first l.by)
