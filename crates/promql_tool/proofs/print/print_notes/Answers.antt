use Rattle.std.proofs.Common.{◌+◌, List, ℕ, take, drop, get_or, subst, ap}
use Rattle.std.specs.Prelude.{Vec}
use Rattle.std.specs.List.{flat_map}
use Rattle.std.specs.declared.alloc.Global.{Global}
use Rattle.edge_io.specs.Written.{WroteFront}
use Rattle.promql_tool.specs.Runs.{bytes_of}
use Rattle.edge_io.specs.Fronts.{front_more}
use Rattle.promql_tool.proofs.Pieces.{lines_parted}
use Rattle.holders.specs.Answers.{on_err}
use Rattle.promql_tool.proofs.print.print_notes.Goals as goal

pub returns-in_err-write_all-clause-err : goal.returns-in_err-write_all-clause-err
returns-in_err-write_all-clause-err g c =
    let xs = c.args.notes.now in
    let i = c.loop-line.line-index in
    let one = c.line-item.result in
    let flat = flat_map (λ (line : List ℕ). line) in
    let before = g.S.Sink.written c.args.out.now in
    let now = g.S.Sink.written c.write_all.new.sink in
    let piece : WroteFront (g.S.Sink.written c.loop-line.out) now one.items = subst (WroteFront (g.S.Sink.written c.loop-line.out) now) c.deref.ensures.value c.in_err-write_all.ensures.err in
    let here = subst (WroteFront (g.S.Sink.written c.loop-line.out) now) (ap (λ (line : Vec ℕ Global). line.items) c.line-item.is) piece in
    let stopped = subst (WroteFront before now) (lines_parted xs i one c.loop-line-test.true)
    (front_more (flat (bytes_of (take i xs))) (get_or xs i one).items (flat (bytes_of (drop (i + 1) xs))) c.loop-line.invariant.took here) in
    on_err c.from_residual.result _ stopped
