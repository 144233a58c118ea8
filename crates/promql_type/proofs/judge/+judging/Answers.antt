use Rattle.std.proofs.Common.{◌∙◌, map, length, sym, ap, ap₂, arith}
use Rattle.promql_type.specs.Judging.{arguments_refusals, judged, strings_refusals}
use Rattle.promql_type.specs.Refusals.{least, lesser}
use Rattle.promql_type.specs.Rules.{argument_refusals, count_refusals}
use Rattle.promql_type.specs.Signatures.{signature}
use Rattle.promql_type.proofs.Judged.{least_set, least_subquery, least_three, next_argument}
use Rattle.std.proofs.Math.ListN.{length-map}
use Rattle.promql_type.proofs.judge.+judging.Goals as goal

pub judge-returns-in-Subquery-clause-least : goal.judge-returns-in-Subquery-clause-least
judge-returns-in-Subquery-clause-least t c =
    let equation = least_subquery c.args.e.now c.in-Subquery.inner c.in-Subquery.range c.in-Subquery.step c.in-Subquery.moment c.in-Subquery.is in
    grind (arith, equation)

pub judge-returns-in-Set-clause-least : goal.judge-returns-in-Set-clause-least
judge-returns-in-Set-clause-least t c =
    let equation = least_set c.args.e.now c.in-Set.field-0 c.in-Set.left c.in-Set.right c.in-Set.pairing c.in-Set.is in
    grind (arith, equation)

pub judge_arguments-loop-number-preserved : goal.judge_arguments-loop-number-preserved
judge_arguments-loop-number-preserved t c =
    next_argument (signature c.args.callee) c.loop-number.least c.lesser-least.result c.args.arguments.now c.loop-number.number c.index-arguments-number.result c.loop-number-test.true c.index-arguments-number.is
    (c.lesser-least.ensures ∙ ap (lesser c.loop-number.least) (c.lesser.ensures ∙ ap₂ lesser c.judge-judged.ensures.least
    (c.argument_refusal-wrong.ensures ∙ ap₂ (λ wanted o. least (argument_refusals wanted o)) c.argument.ensures c.judge-judged.ensures.operand)))
    ∙ c.loop-number.invariant

pub judge_call-returns-clause-least : goal.judge_call-returns-clause-least
judge_call-returns-clause-least t c =
    let arguments = map judged c.args.arguments.now in
    ap (λ j. j.least) c.placed.ensures ∙ c.lesser-2.ensures ∙ ap (lesser c.count_refusal-count.result) c.lesser.ensures
    ∙ least_three (count_refusals (signature c.args.callee) (length arguments) c.args.at) (arguments_refusals (signature c.args.callee) 0 arguments) (strings_refusals c.args.callee arguments)
    c.count_refusal-count.result c.judge_arguments-inner.result c.strings_refusal-strings.result
    (c.count_refusal-count.ensures ∙ ap (λ n. least (count_refusals (signature c.args.callee) n c.args.at)) (sym (length-map c.args.arguments.now judged)))
    c.judge_arguments-inner.ensures c.strings_refusal-strings.ensures
