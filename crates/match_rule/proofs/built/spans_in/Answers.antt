use Rattle.std.proofs.Common.{◌∙◌, ℕ, List, Some, length, sym, ap, subst}
use Rattle.std.specs.Option.{option_map}
use Rattle.regex.specs.Strings.{captures_names, matcher_names}
use Rattle.match_rule.specs.Patterns.{AreCutFrom, group_spans}
use Rattle.match_rule.proofs.Finders.{captures_groups}
use Rattle.match_rule.proofs.built.spans_in.Goals as goal

pub returns-in_ok-copied-in-Some-clause-spans : goal.returns-in_ok-copied-in-Some-clause-spans
returns-in_ok-copied-in-Some-clause-spans c =
    let found = c.in-Some.ensures.found in
    let spans = captures_groups c.args.value.now found.0 c.in-Some.captures found.2 (length (captures_names c.in-Some.captures)) in
    ap Some (c.in_ok-copied-in-Some.ensures.spans ∙ spans ∙ ap (λ names. group_spans (length names) found.0) c.in-Some.ensures.names)
    ∙ sym (ap (option_map (group_spans (length (matcher_names c.args.matcher.now)))) found.1)

pub returns-in_ok-copied-in-Some-clause-cut : goal.returns-in_ok-copied-in-Some-clause-cut
returns-in_ok-copied-in-Some-clause-cut c = subst (λ (hay : List ℕ). AreCutFrom hay c.in_ok-copied-in-Some.field-0.items) c.in-Some.ensures.found.2.0 c.in_ok-copied-in-Some.ensures.cut
