use Rattle.std.proofs.Common.{◌∙◌}
use Rattle.op_match.proofs.Keeping.{forgotten}
use Rattle.op_match.proofs.renewal.take_sides.Goals as goal

pub take_both-requires-clause-matching : goal.take_both-requires-clause-matching
take_both-requires-clause-matching c = forgotten c.forget.new.matching (c.forget.ensures.kept ∙ c.requires.none) c.forget.ensures.many c.forget.ensures.ones
