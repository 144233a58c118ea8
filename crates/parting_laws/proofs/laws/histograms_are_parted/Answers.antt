use Rattle.parting_laws.proofs.LabelsParted.{histograms_parted}
use Rattle.parting_laws.proofs.laws.histograms_are_parted.Goals as goal

pub returns : goal.returns
returns c = histograms_parted c.unions_are_sets.ensures.marks c.unions_are_sets.ensures.notes
