use Rattle.std.proofs.lemmas.Result.{err_from_is_err_and}
use Rattle.promql_tool.specs.Found.{IsFound}
use Rattle.promql_tool.proofs.BoxLists.{kept_leaves}
use Rattle.promql_tool.proofs.FilesRun.{ends_cut}
use Rattle.promql_tool.proofs.Querying.{answered_came, gone_alone, query_ends}
use Rattle.promql_tool.proofs.query.run_query.Goals as goal

pub returns-clause-ends : goal.returns-clause-ends
returns-clause-ends g c = λ tell.
    let found = IsFound (g.L.Library.told c.args.library.now) (g.L.Library.sound c.args.library.now) in
    rw c.or_cut.ensures.is (ends_cut _ _ _ _ c.print_answered.result (query_ends _ c.args.path.now _ _ _ _ found _ _ c.in_ok-answered.answered (c.in_ok-answered.ensures.answered tell) c.print_answered.result c.print_answered.ensures.ends))

pub returns-clause-gone : goal.returns-clause-gone
returns-clause-gone g c = rw c.or_cut.ensures.is (gone_alone c.args.path.now c.in_ok-answered.answered _ _ _ _ c.print_answered.result c.in_ok-answered.ensures.gone c.print_answered.ensures.ends)

pub returns-clause-came : goal.returns-clause-came
returns-clause-came g c =
    let found = IsFound (g.L.Library.told c.args.library.now) (g.L.Library.sound c.args.library.now) in
    rw c.or_cut.ensures.is (answered_came _ c.args.path.now _ found c.in_ok-answered.answered _ _ _ c.print_answered.result c.in_ok-answered.ensures.came c.print_answered.ensures.ends)

pub returns-clause-boxes : goal.returns-clause-boxes
returns-clause-boxes g c = kept_leaves _ _ c.or_cut.result c.or_cut.ensures.none c.in_ok-answered.ensures.boxes

pub returns-in_err-answered-clause-boxes : goal.returns-in_err-answered-clause-boxes
returns-in_err-answered-clause-boxes g c =
    let p = err_from_is_err_and c.from_residual.result c.from_residual.ensures.1 in
    rw (p.1, p.2) (c.in_err-answered.ensures.boxes)
