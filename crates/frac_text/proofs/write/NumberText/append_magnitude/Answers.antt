use Rattle.frac_text.proofs.Ends.{rest_apart}
use Rattle.frac_text.proofs.write.NumberText.append_magnitude.Goals as goal

pub ends-requires-clause-lowest : goal.ends-requires-clause-lowest
ends-requires-clause-lowest c = rest_apart c.args.m c.args.d _ c.requires.reduced.lowest c.divided-whole.ensures.rest
