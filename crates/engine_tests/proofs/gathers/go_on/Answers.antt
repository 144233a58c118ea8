use Rattle.engine_tests.proofs.Moving.{all_moved, may_advance, moved, none_moved, places_are, still_going}
use Rattle.engine_tests.proofs.gathers.go_on.Goals as goal

pub loop-k-init : goal.loop-k-init
loop-k-init g c = none_moved _ _ _ _ _ _ _ _ c.requires

pub advance-requires : goal.advance-requires
advance-requires g c = may_advance _ _ _ _ c.args.count c.loop-k.k _ c.args.at c.loop-k-test.true c.loop-k.invariant

pub loop-k-preserved : goal.loop-k-preserved
loop-k-preserved g c =
    still_going _ _ _ _ _ _ _ _ _ c.advance.ensures.same
    (moved c.walks_are_listed.ensures.next _ _ _ _ _ _ c.args.count c.loop-k.k _ c.args.at c.loop-k-test.true c.next_of-next.ensures c.loop-k.invariant c.in_ok-advance.ensures.stand)

pub returns-clause-going : goal.returns-clause-going
returns-clause-going g c = all_moved _ _ _ _ _ c.loop-k.k _ _ c.loop-k-test.false c.loop-k.invariant

pub returns-clause-many : goal.returns-clause-many
returns-clause-many g c = places_are _ _ _ _ _ _ _ _ c.loop-k.invariant
