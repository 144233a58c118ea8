use Rattle.std.proofs.Common.{arith, subst, sym}
use Rattle.std.proofs.lemmas.Int.{ints}
use Rattle.ticks.specs.Walks.{LeadsToTimes}
use Rattle.number_tests.proofs.Walked.{pinned-leads}
use Rattle.number_tests.proofs.times.pinned.Goals as goal

pub returns : goal.returns
returns c =
    pinned-leads c.walks_keep_to_times.ensures.subqueries c.in_ok-outer.outer (subst LeadsToTimes (sym c.in_ok-outer.ensures) c.requires.times) _ _ _ _ _
    (omega (arith, ints)) (omega (arith, ints)) (omega (arith, ints)) (omega (arith, ints)) (omega (arith, ints, c.requires.range)) (omega (arith, ints))
    (omega (arith, ints, c.requires.step))
