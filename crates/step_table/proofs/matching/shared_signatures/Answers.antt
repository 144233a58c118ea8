use Rattle.std.proofs.Common.{◌∙◌}
use Rattle.step_table.proofs.Partners.{shared_read}
use Rattle.step_table.proofs.matching.shared_signatures.Goals as goal

pub returns : goal.returns
returns c = c.in_ok-parted.ensures.shared ∙ shared_read c.args.one_side.entries
