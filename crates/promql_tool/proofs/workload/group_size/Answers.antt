use Rattle.std.proofs.Common.{arith, ◌%◌, ◌==◌, true, false}
use Rattle.std.proofs.lemmas.Bool.{eq-eqb, ne_eqb}
use Rattle.promql_tool.proofs.Counted.{count_more}
use Rattle.promql_tool.proofs.workload.group_size.Goals.{then-counter-group, else-counter-group}
use Rattle.promql_tool.proofs.workload.group_size.Goals as goal

pub loop-counter-preserved : goal.loop-counter-preserved
loop-counter-preserved c =
    let i = c.loop-counter.counter in
    let group = c.args.group in
    let so_far = c.loop-counter.invariant.so_far in
    elim c.if-counter-group.branch [
      | then-counter-group w ↦ record {
        so_far = count_more (λ k. k % 4 == group) i _ _ true (eq-eqb (i % 4) group w.if-counter-group.true) so_far w.size-is;
        few = omega arith;
      }
      | else-counter-group w ↦ record {
        so_far = count_more (λ k. k % 4 == group) i _ _ false (ne_eqb (i % 4) group w.if-counter-group.false) so_far (omega arith);
        few = omega arith;
      }
    ]
