use Rattle.average_laws.proofs.Splits.{splits_keep_averages}
use Rattle.average_laws.proofs.laws.split_averages_are_averages.Goals as goal

pub returns : goal.returns
returns c = splits_keep_averages
