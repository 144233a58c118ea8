use Rattle.std.proofs.Common.{refl}
use Rattle.engine_tests.proofs.Askables.{in_times}
use Rattle.engine_tests.proofs.Moving.{both_rise, fitting_more}
use Rattle.engine_tests.proofs.gathers.add.Goals as goal

pub add-requires-clause-times : goal.add-requires-clause-times
add-requires-clause-times c = in_times c.walks_keep_to_times.ensures.grids c.args.grid.now c.in_ok-part.part.kind

pub add-requires-clause-rising : goal.add-requires-clause-rising
add-requires-clause-rising c = both_rise _ c.in_ok-numbers.ensures

pub returns : goal.returns
returns c = fitting_more c.args.grid.now c.args.count c.args.exchange.now _ c.add.new.self c.in_ok-add.ensures.added c.requires
    (record { askable = c.in_ok-part.ensures; walk_is = refl; moment_is = refl; range_is = refl; engines_are = c.in_ok-numbers.ensures })
