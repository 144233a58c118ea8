use Rattle.std.proofs.Common.{◌∙◌, ◌≤◌, ap, length, subst, sym, []}
use Rattle.match_rule.specs.Patterns.{passes_by}
use Rattle.promql_parts.specs.Patterned.{Kept}
use Rattle.promql_parts.specs.Patterned.IsPattern.{kept, refused, too_many}
use Rattle.promql_parts.proofs.pattern.pattern_of.Goals as goal

pub returns-in_ok-passes_empty-in-Ok-clause-pattern : goal.returns-in_ok-passes_empty-in-Ok-clause-pattern
returns-in_ok-passes_empty-in-Ok-clause-pattern c =
    rw (← c.as_str.ensures)
    (kept _ c.in-Ok.id _ c.in-Ok.ensures.readable (c.matches.ensures.same ∙ c.in-Ok.ensures.ok) (subst (λ (k : Kept). length k ≤ 32) (sym c.matches.ensures.same) c.in-Ok.ensures.most) c.in-Ok.ensures.number
    (c.in_ok-passes_empty-in-Ok.ensures.answer ∙ ap (λ o. passes_by o []) c.in-Ok.ensures.there))

pub returns-in-Err-BadPattern-clause-pattern : goal.returns-in-Err-BadPattern-clause-pattern
returns-in-Err-BadPattern-clause-pattern c =
    let why = rw c.in-Err-BadPattern.field-0-is at c.in-Err-BadPattern.ensures.refused in
    rw (← c.as_str.ensures) (refused _ why.0 why.1 c.in-Err-BadPattern.ensures.err)

pub returns-in-Err-TooManyPatterns-clause-pattern : goal.returns-in-Err-TooManyPatterns-clause-pattern
returns-in-Err-TooManyPatterns-clause-pattern c =
    let why = rw c.in-Err-TooManyPatterns.field-0-is at c.in-Err-TooManyPatterns.ensures.refused in
    rw (← c.as_str.ensures) (too_many _ why.0 why.1 why.2 c.in-Err-TooManyPatterns.ensures.err)
