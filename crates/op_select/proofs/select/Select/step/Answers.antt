use Rattle.std.proofs.Common.{Some, arith, subst, sym}
use Rattle.series_marks.specs.Reads.{IsNoEarlier}
use Rattle.step_batch.specs.Lent.{stages}
use Rattle.ticks.specs.declared.moment.Ms.{Ms}
use Rattle.promql_meaning.specs.Selecting.{lookback}
use Rattle.series_marks.specs.Reaches.{IsReached}
use Rattle.series_marks.specs.Spent.{reached_on, reads_reach}
use Rattle.op_select.proofs.Instants.{stage_selected}
use Rattle.op_select.proofs.Picks.{picks_reach}
use Rattle.op_select.proofs.select.Select.step.Goals as goal

pub put_rows-requires-clause-soon : goal.put_rows-requires-clause-soon
put_rows-requires-clause-soon g c = subst (λ (m : Ms). IsNoEarlier c.args.self.now.reached m) (sym c.moment_of-m.ensures) c.requires.soon.0

pub returns-clause-lent : goal.returns-clause-lent
returns-clause-lent g c =
    stage_selected c.args.store.now c.args.self.now.series c.as_slice.result.now c.args.self.now.moment c.args.self.now.stamped c.args.self.now.reached c.edge_of_window-edge.result c.moment_of-m.result c.args.t (stages c.args.self.now.buffer) (stages c.put_rows.new.buffer)
    c.requires.rises c.edge_of_window-edge.ensures c.moment_of-m.ensures c.as_slice.ensures c.requires.reached c.requires.soon.0
    (c.in_ok-put_rows.ensures.lent (stages c.args.self.now.buffer) c.args.t c.in_ok-begin.ensures.stages)

pub returns-clause-edge : goal.returns-clause-edge
returns-clause-edge g c =
    let soon = subst (λ (m : Ms). IsNoEarlier c.args.self.now.reached m) (sym c.moment_of-m.ensures) c.requires.soon.0 in
    subst (λ (e : Ms). IsReached c.args.self.now.moment.closed lookback (Some (e, c.moment_of-m.result))) (sym c.edge_since.ensures)
    (reached_on c.args.self.now.moment.closed lookback c.args.self.now.reached c.edge_of_window-edge.result c.moment_of-m.result c.edge_of_window-edge.ensures c.requires.reached soon)

pub returns-in_err-begin-clause-fetched : goal.returns-in_err-begin-clause-fetched
returns-in_err-begin-clause-fetched g c =
    let h = reads_reach lookback c.args.store.now c.args.self.now.series c.args.self.now.reached c.args.self.now.moment c.args.t c.requires.soon in
    omega arith

pub returns-clause-counted : goal.returns-clause-counted
returns-clause-counted g c =
    picks_reach c.args.store.now c.args.self.now.series c.as_slice.result.now c.args.self.now.moment c.args.self.now.reached c.edge_of_window-edge.result c.moment_of-m.result c.args.t c.put_rows.new.work.fetched c.args.work.now.fetched
    c.edge_of_window-edge.ensures c.moment_of-m.ensures c.as_slice.ensures c.in_ok-put_rows.ensures.counted
