use Rattle.step_kernels.proofs.Sides.{binaries_go_over, sides_are_together, unaries_go_over}
use Rattle.step_kernels.proofs.laws.steps_go_over.Goals as goal

pub returns : goal.returns
returns c = record { unary = unaries_go_over; binary = binaries_go_over; sides = sides_are_together }
