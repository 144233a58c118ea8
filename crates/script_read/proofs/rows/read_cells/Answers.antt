use Rattle.std.proofs.Common.{arith, sym, ◌∙◌, ap}
use Rattle.std.proofs.lemmas.Result.{err_from_is_err_and}
use Rattle.script_read.specs.Results.{total_places}
use Rattle.script_read.proofs.Cells.{cell_more, cell_refused, cell_within, cells_start}
use Rattle.script_read.proofs.Steps.{fails_when}
use Rattle.script_read.proofs.rows.read_cells.Goals as goal

pub loop-word-init : goal.loop-word-init
loop-word-init c = record {
  said = cells_start c.args.steps c.args.words.now c.new-cells.result c.new-cells.ensures (sym c.is_empty.ensures ∙ c.if-is_empty.false);
  within = omega (arith, ap total_places c.new-cells.ensures);
}

pub returns-in_err-cell-clause-said : goal.returns-in_err-cell-clause-said
returns-in_err-cell-clause-said c =
    let p = err_from_is_err_and c.from_residual.result c.from_residual.ensures.1 in
    rw (p.1, p.2) (fails_when c.in_err-cell.field-0.0 _ (sym c.loop-word.invariant.said
    ∙ cell_refused c.args.words.now c.loop-word.word-index _ c.loop-word-test.true c.loop-word.cells c.loop-word.room c.in_err-cell.field-0.0 (sym c.in_err-cell.ensures)))

pub loop-word-preserved : goal.loop-word-preserved
loop-word-preserved c = record {
  said = rw c.in_ok-push.ensures.ok (sym (cell_more c.args.words.now c.loop-word.word-index _ c.loop-word-test.true c.loop-word.cells c.loop-word.room (c.in_ok-cell.cell, c.in_ok-cell.left) (sym c.in_ok-cell.ensures)) ∙ c.loop-word.invariant.said);
  within = cell_within c.args.words.now c.loop-word.word-index _ c.loop-word.room c.args.steps c.loop-word.cells _ (c.in_ok-cell.cell, c.in_ok-cell.left) (sym c.in_ok-cell.ensures) c.in_ok-push.ensures.ok c.loop-word.invariant.within;
}
