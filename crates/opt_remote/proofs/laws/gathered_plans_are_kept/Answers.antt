use Rattle.opt_remote.proofs.Measures.{validity_is_kept}
use Rattle.opt_remote.proofs.Onces.{onces_are_kept}
use Rattle.opt_remote.proofs.Types.{types_are_kept}
use Rattle.opt_remote.proofs.laws.gathered_plans_are_kept.Goals as goal

pub returns : goal.returns
returns c = record { types = types_are_kept; validity = validity_is_kept; onces = onces_are_kept }
