use Rattle.std.proofs.Common.{ap, subst, sym, ◌∙◌}
use Rattle.std.specs.Str.{IsCharBoundary}
use Rattle.promql_meaning.specs.Templates.{reference_size}
use Rattle.step_rules.proofs.Templated.{reference_boundary}
use Rattle.step_rules.proofs.templates.after_reference.Goals as goal

pub split_at-requires : goal.split_at-requires
split_at-requires c =
    subst (IsCharBoundary c.args.behind.now) (sym (c.reference_size.ensures ∙ ap reference_size c.as_bytes.ensures.value)) (reference_boundary c.args.behind.now c.utf8.behind)
