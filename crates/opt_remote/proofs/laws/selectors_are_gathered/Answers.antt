use Rattle.opt_remote.proofs.Gathered.{no_selector_is_left}
use Rattle.opt_remote.proofs.Parts.{all_are_asked}
use Rattle.opt_remote.proofs.laws.selectors_are_gathered.Goals as goal

pub returns : goal.returns
returns c = record { none_left = no_selector_is_left; all_asked = all_are_asked }
