use Rattle.std.proofs.Common.{◌≡◌, ◌++◌, Some, None, arith, rules}
use Rattle.std.specs.Prelude.{string_bytes}
use Rattle.std.proofs.lemmas.Str.Pattern.{split_parts}
use Rattle.promql_meaning.specs.Templates.{expanded}
use Rattle.step_rules.proofs.Templated.{expanded_all, expanded_more}
use Rattle.step_rules.proofs.templates.expanded.Goals as goal

pub loop-plain-preserved : goal.loop-plain-preserved
loop-plain-preserved c =
    let spans = c.args.spans.now in
    let value = c.args.value.now in
    let old = string_bytes c.loop-plain.text in
    let first = string_bytes c.push_str.new.self in
    let second = c.reference_text.result.now in
    let new = string_bytes c.push_str-in-Some.new.self in
    let parts = split_parts 36 c.loop-plain.rest.now (Some (c.in-Some.plain, c.in-Some.behind)) c.in-Some.ensures.cases (omega arith) in
    let plain_put : first ≡ old ++ c.in-Some.plain.now = search rules in
    let text_put : new ≡ first ++ second = search rules in (
      search rules,
      expanded_more spans value c.loop-plain.rest.now c.in-Some.plain.now c.in-Some.behind.now old first second new c.after_reference-rest.result.now (expanded spans value c.args.template.now)
          parts.0 parts.1 plain_put text_put c.reference_text.ensures c.after_reference-rest.ensures c.loop-plain.invariant.1,
    )

pub returns : goal.returns
returns c =
    let old = string_bytes c.loop-plain.text in
    let new = string_bytes c.push_str-2.new.self in
    let lacks = split_parts 36 c.loop-plain.rest.now None c.in_default.ensures.cases (omega arith) in
    let rest_put : new ≡ old ++ c.loop-plain.rest.now = search rules in
    expanded_all c.args.spans.now c.args.value.now c.loop-plain.rest.now old new (expanded c.args.spans.now c.args.value.now c.args.template.now) lacks rest_put c.loop-plain.invariant.1
