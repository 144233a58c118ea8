use Rattle.std.proofs.Common.{◌+◌, arith, rules}
use Rattle.op_rank.proofs.Runs.{rows_more, run_ends, run_goes_on, some_more}
use Rattle.op_rank.proofs.value_counts.find_runs.Goals as goal

pub loop-i-preserved-then-is_repeated : goal.loop-i-preserved-then-is_repeated
loop-i-preserved-then-is_repeated c =
    let was = c.loop-i.invariant in
    let es = c.args.entries.now in
    record {
      pending = run_goes_on c.loop-i.runs.items c.loop-i.rows c.loop-i.i es es c.index-entries-i.result c.loop-i-test.true c.index-entries-i.is (c.is_repeated.ensures.same (search rules)) was.pending;
      some = was.some;
      few = omega (arith, was.few);
    }

pub loop-i-preserved : goal.loop-i-preserved
loop-i-preserved c =
    let was = c.loop-i.invariant in
    let es = c.args.entries.now in
    let e = c.index-entries-i.result in
    let n = c.in_ok-push.ensures.items in
    let m = rows_more c.loop-i.runs.items c.push.new.self.items e (c.loop-i.rows + 1) n in
    record {
      pending = run_ends c.loop-i.runs.items c.push.new.self.items c.loop-i.rows c.loop-i.i es es e c.loop-i-test.true c.index-entries-i.is n was.pending;
      some = some_more c.loop-i.runs.items c.push.new.self.items e (c.loop-i.rows + 1) (omega arith) n was.some;
      few = omega (arith, m, was.few);
    }
