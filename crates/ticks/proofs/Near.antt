-- Walks near the time 0 lead to times.
use Rattle.std.proofs.Common.{◌+◌, ◌≤◌, ◌^◌, ℕ, arith}
use Rattle.std.specs.Prelude.{ℤ, pos, ◌+ℤ◌, ◌-ℤ◌, ◌<ℤ◌, ◌≤ℤ◌}
use Rattle.std.proofs.lemmas.Int.{ints}
use Rattle.ticks.specs.Edges.{from-edge}
use Rattle.ticks.specs.Near.{AreNear, GridsAreNear, IsNear, SubqueriesStayNear}
use Rattle.ticks.specs.Walks.{HasTimes, IsInstant, LeadsToTimes, moment_at, multiples-instants, multiples-times}
use Rattle.ticks.specs.declared.moment.Ms.{Ms}
use Rattle.ticks.specs.declared.walk.Walk.{Walk}
use Rattle.ticks.specs.declared.walk.Walk.TheVariants.{Multiples}
use Rattle.ticks.specs.declared.walk.WalkMoment.{WalkMoment}

pub grids-near : GridsAreNear
grids-near g t i =
    let r = g.in_range in
    record { low = omega (arith, ints, r.first, i.from_start); high = omega (arith, ints, r.last, i.to_end) }

module _ (outer : Walk) (moment : WalkMoment) (range step : Ms) (bound far : ℕ) (small : bound + far ≤ 2 ^ 60)
    (near : (o : ℤ) → IsInstant outer o → IsNear bound (moment_at moment o)) (some : pos 0 <ℤ range.0) (short : range.0 ≤ℤ pos far) where
  has-times : (o : ℤ) → IsInstant outer o → HasTimes (moment_at moment o) range.0
  has-times o i =
      let n = near o i in
      record {
        ends = record { low = omega (arith, ints, n.low, small); high = omega (arith, ints, n.high, small) };
        begins = record { low = omega (arith, ints, n.low, some, short, small); high = omega (arith, ints, n.high, some, small) };
      }

  subquery-leads : LeadsToTimes outer → pos 0 <ℤ step.0 → LeadsToTimes (Multiples outer moment range step)
  subquery-leads times p = coe 1 0 (k. multiples-times outer moment range step k) (times, some, p, has-times)

  subquery-near : AreNear (bound + far) (Multiples outer moment range step)
  subquery-near t i =
      let j = coe 0 1 (k. multiples-instants outer moment range step t k) i in
      let n = near j.0 j.1 in
      let from = from-edge moment.closed _ t j.2.from_edge in
      record { low = omega (arith, ints, n.low, short, from); high = omega (arith, ints, n.high, j.2.to_moment) }

pub subqueries-near : SubqueriesStayNear
subqueries-near outer moment range step bound far small times near some short p =
    (subquery-leads outer moment range step bound far small near some short times p, subquery-near outer moment range step bound far small near some short)
