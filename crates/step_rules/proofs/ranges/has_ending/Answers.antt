use Rattle.std.proofs.lemmas.Str.Pattern.{ends_text}
use Rattle.step_rules.proofs.ranges.has_ending.Goals as goal

pub returns : goal.returns
returns c = ends_text c.ends_with.result c.args.ending.now c.args.name.now c.ends_with.ensures.cases
