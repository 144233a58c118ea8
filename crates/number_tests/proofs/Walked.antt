-- Subqueries over walks whose instants are near the time 0.
use Rattle.std.proofs.Common.{◌+◌, ◌≤◌, ◌^◌, ℕ, arith}
use Rattle.std.specs.Prelude.{Bool, ℤ, pos, ◌+ℤ◌, ◌-ℤ◌, ◌<ℤ◌, ◌≤ℤ◌, None, Some}
use Rattle.std.proofs.lemmas.Int.{ints}
use Rattle.ticks.specs.Near.{AreNear, IsNear, SubqueriesStayNear}
use Rattle.ticks.specs.Walks.{IsInstant, LeadsToTimes}
use Rattle.ticks.specs.declared.moment.Ms.{Ms}
use Rattle.ticks.specs.declared.walk.Walk.{Walk}
use Rattle.ticks.specs.declared.walk.Walk.TheVariants.{Multiples}

-- one at the instants themselves
module _ (law : SubqueriesStayNear) (outer : Walk) (bound : ℕ) (small : bound ≤ 2 ^ 50) (near : AreNear bound outer) (times : LeadsToTimes outer) (offset : Ms) (closed : Bool) (range step : Ms)
    (a : offset.0 <ℤ pos (2 ^ 40)) (b : pos 0 <ℤ (offset.0 +ℤ pos (2 ^ 40))) (r : pos 0 <ℤ range.0) (s : range.0 ≤ℤ pos (2 ^ 40)) (p : pos 0 <ℤ step.0) where
  moments : (o : ℤ) → IsInstant outer o → IsNear (bound + 2 ^ 40) (o -ℤ offset.0)
  moments o i = let n = near o i in record { low = omega (arith, ints, a, b, n.low); high = omega (arith, ints, a, b, n.high) }

  both : LeadsToTimes (Multiples outer (record { fixed = None; offset = offset; closed = closed }) range step)
      × AreNear (bound + 2 ^ 40 + 2 ^ 40) (Multiples outer (record { fixed = None; offset = offset; closed = closed }) range step)
  both = law outer (record { fixed = None; offset = offset; closed = closed }) range step (bound + 2 ^ 40) (2 ^ 40) (omega (arith, small)) times moments r s p

  pub leads : LeadsToTimes (Multiples outer (record { fixed = None; offset = offset; closed = closed }) range step)
  leads = both.0

  pub stays : AreNear (bound + 2 ^ 41) (Multiples outer (record { fixed = None; offset = offset; closed = closed }) range step)
  stays t i = let n = both.1 t i in record { low = omega (arith, ints, n.low); high = omega (arith, ints, n.high) }

-- one at a fixed time
pub pinned-leads : SubqueriesStayNear → (outer : Walk) → LeadsToTimes outer → (at offset : Ms) (closed : Bool) (range step : Ms) → at.0 <ℤ pos (2 ^ 40) → pos 0 <ℤ (at.0 +ℤ pos (2 ^ 40)) → offset.0 <ℤ pos (2 ^ 40)
    → pos 0 <ℤ (offset.0 +ℤ pos (2 ^ 40)) → pos 0 <ℤ range.0 → range.0 ≤ℤ pos (2 ^ 40) → pos 0 <ℤ step.0
    → LeadsToTimes (Multiples outer (record { fixed = Some at; offset = offset; closed = closed }) range step)
pinned-leads law outer times at offset closed range step f g a b r s p =
    (law outer (record { fixed = Some at; offset = offset; closed = closed }) range step (2 ^ 41) (2 ^ 40) (omega arith) times
    (λ o i. record { low = omega (arith, ints, f, g, a, b); high = omega (arith, ints, f, g, a, b) }) r s p).0
