use Rattle.step_kernels.proofs.Scalars.{binaries_stay_scalars, unaries_make_scalars, unaries_stay_scalars}
use Rattle.step_kernels.proofs.laws.scalars_stay.Goals as goal

pub returns : goal.returns
returns c = record { unary = unaries_stay_scalars; binary = binaries_stay_scalars; made = unaries_make_scalars }
