use Rattle.kernel_tests.proofs.Times.{has_times}
use Rattle.kernel_tests.proofs.gathers.gather_over.Goals as goal

pub new-requires : goal.new-requires
new-requires c =
    let grid = c.args.grid in
    record { walk = tt; windows = λ k at i. has_times grid.start.0 grid.end.0 grid.step.0 grid.in_range at.0 i }
