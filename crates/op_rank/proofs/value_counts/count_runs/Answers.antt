use Rattle.std.proofs.Common.{◌∙◌, ◌≤◌, List, ap, subst, sym, take}
use Rattle.op_rank.specs.ValueCounts.{has_lost, rows_in, rows_in_runs, runs_under}
use Rattle.op_rank.specs.declared.value_counts.Run.{Run}
use Rattle.op_rank.proofs.Runs.{lost_more, one_counted, take_here}
use Rattle.op_rank.proofs.value_counts.count_runs.Goals as goal

pub loop-run-preserved : goal.loop-run-preserved
loop-run-preserved c =
    let was = c.loop-run.invariant in
    let counting = c.args.counting.now in
    let n = c.loop-run.run-index in
    let r = c.run-item.result in
    let front = take n c.args.runs.now in
    let e = take_here c.args.runs.now n r c.loop-run-test.true c.run-item.is in
    let more = one_counted c.loop-run.made.labels c.count_run.new.made.labels c.count_run.ensures.kept counting front r c.loop-run.counts.items c.count_run.new.counts.items was.counts was.within was.few c.in_ok-missed.ensures.counted in
    record {
      steps = c.count_run.ensures.steps ∙ was.steps;
      stages = c.in_ok-missed.ensures.stages ∙ was.stages;
      counts = more.under ∙ ap (runs_under counting) (sym e);
      within = more.within;
      few = subst (λ (rs : List Run). rows_in c.count_run.new.counts.items ≤ rows_in_runs rs) (sym e) more.few;
      lost = lost_more counting front r c.loop-run.lost c.in_ok-missed.missed c.either-lost.result c.either-lost.ensures c.in_ok-missed.ensures.lost was.lost ∙ ap (has_lost counting) (sym e);
    }
