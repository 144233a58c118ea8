use Rattle.std.proofs.Common.{subst}
use Rattle.query_engine.specs.Evaluating.{IsRefusedWith}
use Rattle.query_engine.specs.Planning.{MayRefuse, choices_of}
use Rattle.promql_tool.proofs.Formatting.{plan_explained, refusal_explained}
use Rattle.promql_tool.proofs.printing.explained_page.Goals as goal

pub returns-in-Ok : goal.returns-in-Ok
returns-in-Ok c =
    let options = c.plan_options-options.result in
    plan_explained c.args.expr.now c.args.engines c.args.optimisers c.rewritten.new.patterns (choices_of options) options.closed c.in-Ok.plan c.plan_page.result c.plan_options-options.ensures.rewrites c.plan_options-options.ensures.open c.in-Ok.ensures.plan
    c.plan_page.ensures

pub returns-in-Err-Refused : goal.returns-in-Err-Refused
returns-in-Err-Refused c =
    let why = subst (MayRefuse (IsRefusedWith c.args.expr.now)) c.in-Err-Refused.field-0-is c.in-Err-Refused.ensures.refused in
    refusal_explained c.args.expr.now c.args.engines c.args.optimisers c.in-Err-Refused.refusal c.refused_page.result why c.refused_page.ensures
