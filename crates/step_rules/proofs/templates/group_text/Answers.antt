use Rattle.std.proofs.Common.{◌≡◌, ◌≤◌, ◌^◌, ◌∙◌, true, arith, rules}
use Rattle.std.specs.Prelude.{is_some}
use Rattle.promql_meaning.specs.Templates.{group_number}
use Rattle.step_rules.proofs.Templated.{too_far}
use Rattle.step_rules.proofs.templates.group_text.Goals as goal

pub returns-in-Err : goal.returns-in-Err
returns-in-Err c =
    let few : c.len.result ≤ 2 ^ 64 = omega arith in
    let number : is_some (group_number c.args.name.now) ≡ true = search rules in
    c.span_text-in-Err.ensures ∙ too_far c.args.spans.now c.args.value.now c.args.name.now c.len.result c.in-Err.field-0 c.parse.result c.len.ensures few number c.parse.ensures.value.0 c.in-Err.is
