-- Windows of instants that lie between two times.
use Rattle.std.proofs.Common.{◌≡◌, Option, None, Some, arith, refl}
use Rattle.std.specs.Prelude.{ℤ, pos, ◌-ℤ◌, ◌<ℤ◌}
use Rattle.std.proofs.lemmas.Int.{ints}
use Rattle.ticks.specs.Edges.{from-edge}
use Rattle.ticks.specs.Walks.{IsInWindow, IsInstant, IsTime, LeadsToTimes, moment_at, multiples-instants, multiples-times}
use Rattle.ticks.specs.declared.moment.Ms.{Ms}
use Rattle.ticks.specs.declared.walk.Walk.{Walk}
use Rattle.ticks.specs.declared.walk.Walk.TheVariants.{Multiples}
use Rattle.ticks.specs.declared.walk.WalkMoment.{WalkMoment}
use Rattle.plan_parts.specs.Courses.{AreSpread, AreWindows, BasesLieBetween, IsBetween, LiesBetween, base_at}

-- a moment is its base less the offset
moment_is : (moment : WalkMoment) (t : ℤ) → moment_at moment t ≡ base_at moment t -ℤ moment.offset.0
moment_is moment t = by moment.fixed
  where
    by : (fixed : Option Ms) → moment_at (record { fixed = fixed; offset = moment.offset; closed = moment.closed }) t ≡ base_at (record { fixed = fixed; offset = moment.offset; closed = moment.closed }) t -ℤ moment.offset.0
    by None = refl
    by (Some at) = refl

windows_between : (low high offset range first last b m : ℤ) → AreSpread low high offset range first last → IsBetween low high b → m ≡ b -ℤ offset → IsBetween first last (m -ℤ range) × IsBetween first last m
windows_between low high offset range first last b m s k e =
    let f = s.forward in let i = s.begins in let j = s.ends in let l = k.0 in let h = k.1 in
    ((omega (arith, ints), omega (arith, ints)), (omega (arith, ints), omega (arith, ints)))

within_times : (first last u : ℤ) → IsTime first → IsTime last → IsBetween first last u → IsTime u
within_times first last u a b k =
    let l = a.low in let h = b.high in let p = k.0 in let q = k.1 in
    record { low = omega (arith, ints); high = omega (arith, ints) }

pub windows_spread : (walk : Walk) (moment : WalkMoment) (low high range first last : ℤ) → BasesLieBetween walk moment low high → AreSpread low high moment.offset.0 range first last → AreWindows walk moment range first last
windows_spread walk moment low high range first last bases s = record {
  early = s.early;
  late = s.late;
  forward = s.forward;
  times = λ t i. let k = windows_between low high moment.offset.0 range first last (base_at moment t) (moment_at moment t) s (bases t i) (moment_is moment t) in
      record { ends = within_times first last (moment_at moment t) s.early s.late k.1; begins = within_times first last (moment_at moment t -ℤ range) s.early s.late k.0 };
  between = λ t u i p q. let k = windows_between low high moment.offset.0 range first last (base_at moment t) (moment_at moment t) s (bases t i) (moment_is moment t) in
      let a = k.0.0 in let b = k.1.1 in (omega (arith, ints), omega (arith, ints));
}

-- ---- the instants of a subquery

pub inner_between : (walk : Walk) (moment : WalkMoment) (range step : Ms) (low high : ℤ) → AreWindows walk moment range.0 low high → LiesBetween (Multiples walk moment range step) low high
inner_between walk moment range step low high windows u i =
    let found : (t : ℤ) × IsInstant walk t × IsInWindow moment.closed (moment_at moment t) range.0 step.0 u = coe 0 1 (k. multiples-instants walk moment range step u k) i in
    windows.between found.0 u found.1 (from-edge moment.closed (moment_at moment found.0 -ℤ range.0) u found.2.from_edge) found.2.to_moment

pub inner_times : (walk : Walk) (moment : WalkMoment) (range step : Ms) (low high : ℤ) → LeadsToTimes walk → AreWindows walk moment range.0 low high → pos 0 <ℤ step.0 → LeadsToTimes (Multiples walk moment range step)
inner_times walk moment range step low high times windows forward =
    coe 1 0 (k. multiples-times walk moment range step k) (times, windows.forward, forward, windows.times)
