-- The instants of a grid, as the result of a query has them, are those of its walk.
use Rattle.std.proofs.Common.{◌≡◌, ℕ, zero, suc, ◌+◌, ◌*◌, ◌<◌, Bool, true, false, List, [], length, refl, sym, subst, arith}
use Rattle.std.specs.Prelude.{◌↔◌, ℤ, pos, negsuc, ◌+ℤ◌, ◌*ℤ◌, ◌<ℤ◌, int_lt, if◌then◌else◌}
use Rattle.std.specs.List.{AllByRecursion, Contains}
use Rattle.std.proofs.lemmas.Int.{ints}
use Rattle.std.proofs.lemmas.List.Elements.{All-contains, All-from_recursion}
use Rattle.promql_meaning.specs.Results.{grid_times}
use Rattle.promql_meaning.specs.Subqueries.{as_times, instants, instants_up_to}
use Rattle.ticks.specs.Grids.{IsInRange, IsNumbered, step_count}
use Rattle.ticks.specs.Listed.{AreRising, IsListed}
use Rattle.ticks.specs.declared.grid.Grid.{Grid}
use Rattle.ticks.specs.declared.moment.Ms.{Ms}
use Rattle.ticks.specs.declared.walk.Walk.{Grid as GridWalk}
use Rattle.tree_results.specs.Drained.{GridsAreNumbered}

above : (low first : ℤ) (s n : ℕ) → low <ℤ first → AllByRecursion (λ (u : Ms). low <ℤ u.0) (as_times (instants first (pos s) n))
above low first s zero below = tt
above low first s (suc n) below = (below, above low (first +ℤ pos s) s n (omega (arith, ints, below)))

rises : (first : ℤ) (s n : ℕ) → 0 < s → AreRising (as_times (instants first (pos s) n))
rises first s zero some = tt
rises first s (suc n) some = (above first (first +ℤ pos s) s n (omega (arith, ints, some)), rises (first +ℤ pos s) s n some)

-- the first time and so many steps
abbrev IsStep : ℤ → ℕ → ℕ → Ms → Type 0
IsStep first s n t = (k : ℕ) × (k < n) × (t.0 ≡ first +ℤ (pos k *ℤ pos s))

all_steps : (start first : ℤ) (s j n count : ℕ) → first ≡ start +ℤ pos (j * s) → j + n ≡ count → AllByRecursion (IsStep start s count) (as_times (instants first (pos s) n))
all_steps start first s j zero count is all = tt
all_steps start first s j (suc n) count is all = (
  (j, omega (arith, all), is),
  all_steps start (first +ℤ pos s) s (suc j) n count (let e : pos (suc j * s) ≡ pos (j * s) +ℤ pos s = omega (arith, ints) in omega (arith, ints, is, e)) (omega (arith, all)),
)

there : (first : ℤ) (s n k : ℕ) → k < n → Contains (as_times (instants first (pos s) n)) (record { 0 = first +ℤ pos (k * s) })
there first s zero k less = absurd (omega (arith, less))
there first s (suc n) zero less =
    let e : first ≡ first +ℤ pos (0 * s) = omega (arith, ints) in
    subst (λ (z : ℤ). Contains (as_times (instants first (pos s) (suc n))) (record { 0 = z })) e (0, omega arith, refl)
there first s (suc n) (suc k) less =
    let later = there (first +ℤ pos s) s n k (omega (arith, less)) in
    let e : (first +ℤ pos s) +ℤ pos (k * s) ≡ first +ℤ pos (suc k * s) = omega (arith, ints) in
    subst (λ (z : ℤ). Contains (as_times (instants first (pos s) (suc n))) (record { 0 = z })) e
    (suc later.0, (let l : later.0 < length (as_times (instants (first +ℤ pos s) (pos s) n)) = later.1 in omega (arith, l)), later.2)

record AreNumbered (start end step : ℤ) (times : List Ms) : Type 0 where
  pub rising : AreRising times
  pub instants : (t : Ms) → Contains times t ↔ IsNumbered start end step t.0

of_step : (start end step : ℤ) → IsInRange start end step → AreNumbered start end step (as_times (instants_up_to start end step))
of_step start end (negsuc s) r = absurd (omega (arith, ints, r.forward))
of_step start end (pos s) r = by (int_lt end start) refl
  where
    some : 0 < s
    some = omega (arith, ints, r.forward)

    count : ℕ
    count = step_count start end (pos s)

    by : (b : Bool) → int_lt end start ≡ b → AreNumbered start end (pos s) (as_times (if b then [] else instants start (pos s) count))
    by true h = let o = r.ordered in absurd (omega (arith, ints, h, o))
    by false h = record {
      rising = rises start s count some;
      instants = λ t. (
        (λ inside.
            All-contains (IsStep start s count) (as_times (instants start (pos s) count)) t
            (All-from_recursion (IsStep start s count) (as_times (instants start (pos s) count)) (all_steps start start s 0 count count (omega (arith, ints)) (omega arith))) inside),
        (λ is. subst (λ (z : ℤ). Contains (as_times (instants start (pos s) count)) (record { 0 = z })) (sym is.2) (there start s count is.0 is.1)),
      );
    }

pub grid_listed : GridsAreNumbered → (grid : Grid) → IsListed (GridWalk grid) (grid_times grid)
grid_listed numbered grid =
    let a = of_step grid.start.0 grid.end.0 grid.step.0 grid.in_range in
    record {
      rising = a.rising;
      instants = λ t. (
        (λ inside. (numbered grid.start.0 grid.end.0 grid.step.0 grid.in_range t.0).1 ((a.instants t).0 inside)),
        (λ on. (a.instants t).1 ((numbered grid.start.0 grid.end.0 grid.step.0 grid.in_range t.0).0 on)),
      );
    }
