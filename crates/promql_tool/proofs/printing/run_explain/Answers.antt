use Rattle.std.proofs.Common.{length, subst}
use Rattle.promql_tool.specs.Printed.{Explained, rewrites_in}
use Rattle.promql_tool.specs.Runs.{page_report}
use Rattle.promql_tool.proofs.Formatting.{page_ends}
use Rattle.promql_tool.proofs.printing.run_explain.Goals as goal

pub returns-clause-ends : goal.returns-clause-ends
returns-clause-ends g c =
    let said = subst (λ n. Explained n (rewrites_in c.args.optimisers) c.args.expr.now (page_report c.in_ok-page.page)) c.engine_count-engines.ensures c.in_ok-page.ensures in
    page_ends (Explained (length c.args.declared.now) (rewrites_in c.args.optimisers) c.args.expr.now) (page_report c.in_ok-page.page) _ _ c.print_page.result said c.print_page.ensures.ok c.print_page.ensures.err
