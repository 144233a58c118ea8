use Rattle.std.proofs.Common.{arith, subst, sym, ◌+◌, ◌^◌}
use Rattle.std.proofs.lemmas.Int.{ints}
use Rattle.ticks.specs.Near.{AreNear}
use Rattle.ticks.specs.Walks.{LeadsToTimes}
use Rattle.number_tests.proofs.Walked.{leads}
use Rattle.number_tests.proofs.times.over_subquery.Goals as goal

pub returns : goal.returns
returns c =
    leads c.walks_keep_to_times.ensures.subqueries c.in_ok-outer.outer (10 ^ 14 + 2 ^ 41) (omega arith) (subst (AreNear (10 ^ 14 + 2 ^ 41)) (sym c.in_ok-outer.ensures) c.requires.near)
    (subst LeadsToTimes (sym c.in_ok-outer.ensures) c.requires.times) _ _ _ _ (omega (arith, ints)) (omega (arith, ints)) (omega (arith, ints, c.requires.range)) (omega (arith, ints))
    (omega (arith, ints, c.requires.step))
