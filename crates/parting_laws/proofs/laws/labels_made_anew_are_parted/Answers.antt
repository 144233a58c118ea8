use Rattle.parting_laws.proofs.LabelsParted.{label_joins_parted, replacements_parted}
use Rattle.parting_laws.proofs.laws.labels_made_anew_are_parted.Goals as goal

pub returns-clause-replacements : goal.returns-clause-replacements
returns-clause-replacements c = replacements_parted c.unions_are_sets.ensures.marks c.unions_are_sets.ensures.notes

pub returns-clause-joins : goal.returns-clause-joins
returns-clause-joins c = label_joins_parted c.unions_are_sets.ensures.marks c.unions_are_sets.ensures.notes
