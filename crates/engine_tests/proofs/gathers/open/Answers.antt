use Rattle.std.proofs.Common.{◌≡◌, length, rules}
use Rattle.engine_tests.proofs.Moving.{may_open, opened, still_going, two_seen}
use Rattle.engine_tests.proofs.gathers.open.Goals as goal

pub open-requires : goal.open-requires
open-requires g c = may_open c.walks_keep_to_times.ensures.grids c.args.grid.now c.args.patterns.now c.args.count _ c.args.exchange.now c.requires.fitting c.requires.unasked (let two : length c.args.engines.now ≡ 2 = search rules in two_seen _ c.args.engines.now two)

pub returns : goal.returns
returns g c = λ first is.
    let owed = c.in_ok-open.ensures.owed in
    still_going _ _ _ _ _ _ _ _ _ c.open.ensures.same
    (opened c.walks_are_listed.ensures.first c.args.grid.now c.args.patterns.now c.args.count _ _ c.args.exchange.now _ c.requires.fitting owed.0 owed.1 (c.in_ok-open.ensures.stand owed.0 owed.1) first is)
