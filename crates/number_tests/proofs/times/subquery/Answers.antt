use Rattle.std.proofs.Common.{arith, subst, sym, ◌+◌, ◌^◌}
use Rattle.std.proofs.lemmas.Int.{ints}
use Rattle.ticks.specs.Near.{AreNear}
use Rattle.ticks.specs.Walks.{LeadsToTimes}
use Rattle.number_tests.proofs.Walked.{leads, stays}
use Rattle.number_tests.proofs.times.subquery.Goals as goal

pub returns-clause-times : goal.returns-clause-times
returns-clause-times c =
    leads c.walks_keep_to_times.ensures.subqueries c.in_ok-outer.outer (10 ^ 14) (omega arith) (subst (AreNear (10 ^ 14)) (sym c.in_ok-outer.ensures) c.requires.near)
    (subst LeadsToTimes (sym c.in_ok-outer.ensures) c.requires.times) _ _ _ _ (omega (arith, ints)) (omega (arith, ints)) (omega (arith, ints, c.requires.range)) (omega (arith, ints))
    (omega (arith, ints, c.requires.step))

pub returns-clause-near : goal.returns-clause-near
returns-clause-near c =
    stays c.walks_keep_to_times.ensures.subqueries c.in_ok-outer.outer (10 ^ 14) (omega arith) (subst (AreNear (10 ^ 14)) (sym c.in_ok-outer.ensures) c.requires.near)
    (subst LeadsToTimes (sym c.in_ok-outer.ensures) c.requires.times) _ _ _ _ (omega (arith, ints)) (omega (arith, ints)) (omega (arith, ints, c.requires.range)) (omega (arith, ints))
    (omega (arith, ints, c.requires.step))
