use Rattle.std.proofs.Common.{◌≡◌, List, ℕ, subst}
use Rattle.std.specs.List.{flat_map}
use Rattle.edge_io.specs.Written.{appended, WroteFront}
use Rattle.promql_meaning.specs.declared.answer.ResultSeries.{ResultSeries}
use Rattle.promql_tool.specs.Query.{all_series_text}
use Rattle.promql_tool.specs.Runs.{bytes_of}
use Rattle.edge_io.specs.Fronts.{front_first, front_last}
use Rattle.holders.specs.Answers.{on_err}
use Rattle.promql_tool.proofs.print.print_answer.Goals as goal

pub returns-in_err-print_series-clause-err : goal.returns-in_err-print_series-clause-err
returns-in_err-print_series-clause-err g c =
    let answer = c.args.answer.now in
    let IsFront = λ (series : List ResultSeries). WroteFront (g.S.Sink.written c.args.out.now) (g.S.Sink.written c.print_series.new.out) (all_series_text answer.scalar series) in
    on_err c.from_residual.result _
    (front_first (all_series_text answer.scalar answer.series) (flat_map (λ (line : List ℕ). line) (bytes_of c.args.notes.now)) (subst IsFront c.as_slice.ensures c.in_err-print_series.ensures.err))

pub returns-in_err-print_notes-clause-err : goal.returns-in_err-print_notes-clause-err
returns-in_err-print_notes-clause-err g c =
    let answer = c.args.answer.now in
    let IsWritten = λ (series : List ResultSeries). g.S.Sink.written c.print_series.new.out ≡ appended (g.S.Sink.written c.args.out.now) (all_series_text answer.scalar series) in
    on_err c.from_residual-in_err-print_notes.result _
    (front_last (all_series_text answer.scalar answer.series) (flat_map (λ (line : List ℕ). line) (bytes_of c.args.notes.now)) (subst IsWritten c.as_slice.ensures c.in_ok-print_series.ensures.ok) c.in_err-print_notes.ensures.err)
