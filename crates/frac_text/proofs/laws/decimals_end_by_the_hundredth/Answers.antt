use Rattle.frac_text.proofs.Ends.{ends_if_ever}
use Rattle.frac_text.proofs.laws.decimals_end_by_the_hundredth.Goals as goal

pub returns : goal.returns
returns c = ends_if_ever
