use Rattle.std.proofs.Common.{arith}
use Rattle.std.proofs.lemmas.Int.{to_z-of_z}
use Rattle.xfrac.specs.Reduced.{whole_is_reduced}
use Rattle.xfrac.proofs.value.whole.Goals as goal

pub of-requires : goal.of-requires
of-requires c =
    whole_is_reduced _ (grind (arith, to_z-of_z))
