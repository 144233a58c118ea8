use Rattle.std.proofs.Common.{ap, length, ◌∙◌}
use Rattle.promql_meaning.specs.Templates.{name_in}
use Rattle.step_rules.proofs.Templated.{name_boundary}
use Rattle.step_rules.proofs.templates.name_in.Goals as goal

pub split_at-requires : goal.split_at-requires
split_at-requires c =
    name_boundary c.args.text.now c.name_size.result c.utf8.text (c.name_size.ensures.size ∙ ap (λ t. length (name_in t)) c.as_bytes.ensures.value)
