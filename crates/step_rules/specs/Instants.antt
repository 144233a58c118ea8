-- Where the instants of subqueries and grids lie.
use Rattle.std.proofs.Common.{◌≡◌, ℕ, zero, suc, ◌<◌, ◌+◌, Bool, true, false, List, [], ◌∷◌, sym, subst, arith, add-one, refl}
use Rattle.std.specs.Prelude.{◌/◌, ◌%◌, ◌*◌, unsigned_abs, ℤ, pos, negsuc, ◌-ℤ◌, ◌+ℤ◌, ◌<ℤ◌, ◌≤ℤ◌, int_lt, if◌then◌else◌}
use Rattle.std.specs.Int.{int_rem_euclid}
use Rattle.std.specs.List.{AllByRecursion}
use Rattle.std.proofs.lemmas.Int.{ints}
use Rattle.std.proofs.lemmas.Nat.{div-add-mod'}
use Rattle.std.proofs.Math.Nat.{mod-lt}
use Rattle.ticks.specs.Edges.{before, before-near}
use Rattle.ticks.specs.Grids.{IsInRange}
use Rattle.ticks.specs.Walks.{IsTime}
use Rattle.ticks.specs.declared.moment.Ms.{Ms}
use Rattle.promql_meaning.specs.Subqueries.{as_times, first_multiple, instants, instants_up_to, multiples}

-- a time from the left edge of a range on, up to its moment
abbrev pub IsIn : ℤ → ℤ → Ms → Type 0
IsIn edge m t = (edge ≤ℤ t.0) × (t.0 ≤ℤ m)

rem_below : (z : ℤ) (n : ℕ) → 0 < n → int_rem_euclid z (pos n) <ℤ pos n
rem_below (pos a) n h = let b : a % n < n = mod-lt a h in omega (arith, ints, b)
rem_below (negsuc a) n h = let b : a % n < n = mod-lt a h in omega (arith, ints, b)

-- a first instant that isn't before an edge and those after it, where the last one is not behind a moment
instants_in : (edge m first : ℤ) (s n : ℕ) → edge ≤ℤ first → (first +ℤ pos (n * s)) ≤ℤ m → AllByRecursion (IsIn edge m) (as_times (instants first (pos s) (suc n)))
instants_in edge m first s zero behind last = ((omega (arith, ints, behind), omega (arith, ints, last)), tt)
instants_in edge m first s (suc n) behind last =
    ((omega (arith, ints, behind), omega (arith, ints, last)), instants_in edge m (first +ℤ pos s) s n (omega (arith, ints, behind)) (omega (arith, ints, last)))

pub up_to_in : (edge m first : ℤ) (s : ℕ) → 0 < s → edge ≤ℤ first → AllByRecursion (IsIn edge m) (as_times (instants_up_to first m (pos s)))
up_to_in edge m first s positive behind =
    let k = unsigned_abs (m -ℤ first) in
    let e : k / s * s + k % s ≡ k = div-add-mod' k s in
    elim (int_lt m first) as (λ b. int_lt m first ≡ b → AllByRecursion (IsIn edge m) (as_times (if b then [] else instants first (pos s) (k / s + 1)))) [
      | true ↦ λ h. tt
      | false ↦ λ h.
          let abs : pos k ≡ m -ℤ first = omega (arith, ints, h) in
          subst (λ c. AllByRecursion (IsIn edge m) (as_times (instants first (pos s) c))) (sym (add-one (k / s))) (instants_in edge m first s (k / s) behind (omega (arith, ints, e, abs)))
    ] refl

-- the multiples of a step in a range lie in it
pub multiples_in : (closed : Bool) (m range step : ℤ) → pos 0 <ℤ step → AllByRecursion (IsIn (m -ℤ range) m) (as_times (multiples closed m range step))
multiples_in closed m range (pos s) positive =
    let edge = m -ℤ range in
    let some : 0 < s = omega (arith, ints, positive) in
    let near = before-near closed edge in
    let b = rem_below (before closed edge) s some in
    up_to_in edge m (first_multiple closed (pos s) edge) s some (omega (arith, ints, b, near.0))
multiples_in closed m range (negsuc s) positive = absurd (omega (arith, ints, positive))

-- ---- a grid

between_times : (edge m : ℤ) (us : List ℤ) → IsTime edge → IsTime m → AllByRecursion (IsIn edge m) (as_times us) → AllByRecursion IsTime us
between_times edge m [] low high all = tt
between_times edge m (u ∷ us) low high all =
    (record { low = omega (arith, ints, low.low, all.0.0); high = omega (arith, ints, high.high, all.0.1) }, between_times edge m us low high all.1)

-- the instants of a grid are times
pub grid_instants : (start end step : ℤ) → IsInRange start end step → AllByRecursion IsTime (instants_up_to start end step)
grid_instants start end (pos s) range =
    let edge = start -ℤ pos 1 in
    let low : IsTime edge = record { low = omega (arith, ints, range.first); high = omega (arith, ints, range.ordered, range.last) } in
    let high : IsTime end = record { low = omega (arith, ints, range.first, range.ordered); high = omega (arith, ints, range.last) } in
    let some : 0 < s = omega (arith, ints, range.forward) in
    between_times edge end (instants_up_to start end (pos s)) low high (up_to_in edge end start s some (omega (arith, ints)))
grid_instants start end (negsuc s) range = absurd (omega (arith, ints, range.forward))
