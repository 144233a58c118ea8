use Rattle.std.proofs.Common.{false, subst}
use Rattle.promql_type.specs.Answers.{MayFault}
use Rattle.query_engine.specs.Evaluating.{IsRefusedWith}
use Rattle.promql_tool.proofs.Formatting.{refusal_formatted, tree_formatted}
use Rattle.promql_tool.proofs.printing.formatted_page.Goals as goal

pub returns-in-Ok : goal.returns-in-Ok
returns-in-Ok c = tree_formatted c.args.expr.now c.typed_tree.new.patterns false c.in-Ok.typed c.tree_page.result c.in-Ok.ensures.tree c.tree_page.ensures

pub returns-in-Err-Refused : goal.returns-in-Err-Refused
returns-in-Err-Refused c =
    let why = subst (MayFault (IsRefusedWith c.args.expr.now)) c.in-Err-Refused.field-0-is c.in-Err-Refused.ensures.refused in
    refusal_formatted c.args.expr.now c.in-Err-Refused.refusal c.refused_page.result why c.refused_page.ensures
