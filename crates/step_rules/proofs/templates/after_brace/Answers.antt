use Rattle.step_rules.proofs.Templated.{brace_boundary}
use Rattle.step_rules.proofs.templates.after_brace.Goals as goal

pub split_at-requires : goal.split_at-requires
split_at-requires c = brace_boundary c.args.behind.now c.utf8.behind c.requires
