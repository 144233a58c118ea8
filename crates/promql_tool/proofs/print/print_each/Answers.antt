use Rattle.std.proofs.Common.{◌+◌, take, drop, get_or, subst, ap}
use Rattle.std.specs.List.{flat_map}
use Rattle.edge_io.specs.Written.{WroteFront}
use Rattle.promql_tool.specs.Query.{series_text}
use Rattle.edge_io.specs.Fronts.{front_more}
use Rattle.promql_tool.proofs.Pieces.{flat_parted}
use Rattle.holders.specs.Answers.{on_err}
use Rattle.promql_tool.proofs.print.print_each.Goals as goal

pub returns-in_err-print_one-clause-err : goal.returns-in_err-print_one-clause-err
returns-in_err-print_one-clause-err g c =
    let xs = c.args.series.now in
    let i = c.loop-one.one-index in
    let f = series_text c.args.scalar in
    let one = c.one-item.result in
    let before = g.S.Sink.written c.args.out.now in
    let now = g.S.Sink.written c.print_one.new.out in
    let piece = subst (WroteFront (g.S.Sink.written c.loop-one.out) now) (ap f c.one-item.is) c.in_err-print_one.ensures.err in
    let stopped = subst (WroteFront before now) (flat_parted f xs i one c.loop-one-test.true)
    (front_more (flat_map f (take i xs)) (f (get_or xs i one)) (flat_map f (drop (i + 1) xs)) c.loop-one.invariant.took piece) in
    on_err c.from_residual.result _ stopped
