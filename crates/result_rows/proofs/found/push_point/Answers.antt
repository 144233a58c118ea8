use Rattle.std.proofs.Common.{◌∙◌, List, ap, slice_set}
use Rattle.promql_meaning.specs.declared.answer.Point.{Point}
use Rattle.result_rows.specs.Taken.{points_under}
use Rattle.result_rows.proofs.Under.{names_set, on_ok, point_set, series_with}
use Rattle.result_rows.proofs.found.push_point.Goals as goal

pub returns-clause-names : goal.returns-clause-names
returns-clause-names c = names_set c.args.series.now.items c.args.place c.index_mut.result.now c.push.new.self c.index_mut.ensures.value

pub returns-clause-point : goal.returns-clause-point
returns-clause-point c =
    let xs = c.args.series.now.items in
    let i = c.args.place in
    let y = c.index_mut.result.now in
    let p : Point = record { at = c.args.at; value = c.args.value } in
    on_ok c.push.result
    (λ pushed distinct own there q.
    ap (λ (ps : List Point). points_under q (slice_set xs i (series_with y.labels ps))) pushed
    ∙ point_set q own p xs i y distinct there c.index_mut.ensures.value) c.push.ensures.ok
