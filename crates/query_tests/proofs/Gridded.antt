-- The instants of a grid lie from its start to its end, and at each of them a tree's needs are met.
use Rattle.std.proofs.Common.{◌≡◌, ℕ, Bool, zero, suc, ◌+◌, ◌-◌, ◌*◌, ◌/◌, ◌≤◌, true, false, List, [], ◌∷◌, refl, sym, subst, arith, add-one}
use Rattle.std.specs.Prelude.{◌^◌, ℤ, pos, negsuc, ◌+ℤ◌, ◌-ℤ◌, ◌≤ℤ◌, int_lt, unsigned_abs, if◌then◌else◌}
use Rattle.std.specs.List.{AllByRecursion}
use Rattle.std.proofs.lemmas.Int.{ints}
use Rattle.std.proofs.Math.Nat.{div-mul-le_self}
use Rattle.frac_text.specs.Times.{time_limit}
use Rattle.holders.specs.Joins.{both_of}
use Rattle.label_set.specs.Entries.{recursion_map}
use Rattle.match_rule.specs.Patterns.{HaveTheirPatterns}
use Rattle.promql_ast.specs.Depth.{depth}
use Rattle.promql_ast.specs.Parts.{AreWithin, IsAtMost, parts_of}
use Rattle.promql_ast.specs.declared.tree.Expr.{Expr}
use Rattle.promql_meaning.specs.Conditions.{AreMet, IsMet, Need, needs_of, needs_over}
use Rattle.promql_meaning.specs.Reaches.{EndsWithin, NeedsAreMet, reach}
use Rattle.promql_meaning.specs.Results.{grid_times}
use Rattle.promql_meaning.specs.Selecting.{AllSeries, Asked, asked_over}
use Rattle.promql_meaning.specs.Subqueries.{as_times, instants, instants_up_to}
use Rattle.ticks.specs.Durations.{hundred_years}
use Rattle.ticks.specs.Grids.{IsInRange}
use Rattle.ticks.specs.declared.grid.Grid.{Grid}

-- ---- instants

abbrev Between : ℤ → ℤ → ℤ → Type 0
Between low high t = (low ≤ℤ t) × (t ≤ℤ high)

all_in : (low high first : ℤ) (s n : ℕ) → low ≤ℤ first → (first +ℤ pos (n * s)) ≤ℤ high → AllByRecursion (Between low high) (instants first (pos s) (suc n))
all_in low high first s zero from last = ((from, omega (arith, ints, last)), tt)
all_in low high first s (suc n) from last =
    ((from, omega (arith, ints, last)), all_in low high (first +ℤ pos s) s n (omega (arith, ints, from)) (omega (arith, ints, last)))

grid_in : (start end : ℤ) (s : ℕ) → AllByRecursion (Between start end) (instants_up_to start end (pos s))
grid_in start end s =
    elim (int_lt end start) as (λ b. int_lt end start ≡ b → AllByRecursion (Between start end) (if b then [] else instants start (pos s) (unsigned_abs (end -ℤ start) / s + 1))) [
      | true ↦ λ h. tt
      | false ↦ λ h.
          let span : pos (unsigned_abs (end -ℤ start)) ≡ end -ℤ start = omega (arith, ints, h) in
          let within : unsigned_abs (end -ℤ start) / s * s ≤ unsigned_abs (end -ℤ start) = div-mul-le_self (unsigned_abs (end -ℤ start)) s in
          subst (λ c. AllByRecursion (Between start end) (instants start (pos s) c)) (sym (add-one (unsigned_abs (end -ℤ start) / s)))
          (all_in start end start s (unsigned_abs (end -ℤ start) / s) (omega (arith, ints)) (omega (arith, ints, within, span)))
    ] refl

all_between : (start end step : ℤ) → IsInRange start end step → AllByRecursion (λ t. IsAtMost time_limit (record { 0 = t })) (instants_up_to start end step)
all_between start end (pos s) r =
    recursion_map (Between start end) (λ t. IsAtMost time_limit (record { 0 = t })) (λ t b. (omega (arith, ints, b.0, r.first), omega (arith, ints, b.1, r.last)))
    (instants_up_to start end (pos s)) (grid_in start end s)
all_between start end (negsuc s) r = absurd (omega (arith, ints, r.forward))

-- ---- how far a tree reaches

reach_rises : (longest d more : ℕ) → reach longest d ≤ reach longest (more + d)
reach_rises longest d zero = let e : 0 + d ≡ d = omega arith in subst (λ n. reach longest d ≤ reach longest n) (sym e) (omega arith)
reach_rises longest d (suc more) =
    let h = reach_rises longest d more in
    let e : suc more + d ≡ suc (more + d) = omega arith in
    subst (λ n. reach longest d ≤ reach longest n) (sym e) (omega (arith, h))

reach_few : (d : ℕ) → d ≤ 128 → time_limit + reach hundred_years d ≤ 2 ^ 60
reach_few d few =
    let h : reach hundred_years d ≤ reach hundred_years ((128 - d) + d) = reach_rises hundred_years d (128 - d) in
    let all : (128 - d) + d ≡ 128 = omega (arith, few) in
    let most : reach hundred_years d ≤ reach hundred_years 128 = subst (λ n. reach hundred_years d ≤ reach hundred_years n) all h in
    omega (arith, most)

-- ---- needs

each_met : (asked : Asked) (needs : ℤ → List Need) (us : List ℤ) → AllByRecursion (λ u. AreMet asked (needs u)) us → AreMet asked (needs_over needs (as_times us))
each_met asked needs [] all = tt
each_met asked needs (u ∷ us) all = both_of (IsMet asked.kept) (needs u) (needs_over needs (as_times us)) all.0 (each_met asked needs us all.1)

pub grid_met : (samples : AllSeries) (kept : List (Bool × List ℕ)) (grid : Grid) (e : Expr) → NeedsAreMet → depth e ≤ 128
    → AreWithin (HaveTheirPatterns kept) hundred_years time_limit (parts_of e)
    → AreMet (asked_over samples kept grid) (needs_over (needs_of (asked_over samples kept grid) e) (grid_times grid))
grid_met samples kept grid e law few within =
    let asked = asked_over samples kept grid in
    let r = grid.in_range in
    let ends : EndsWithin time_limit asked = record {
      start = (omega (arith, ints, r.first), omega (arith, ints, r.ordered, r.last));
      end = (omega (arith, ints, r.ordered, r.first), omega (arith, ints, r.last));
    } in
    each_met asked (needs_of asked e) (instants_up_to grid.start.0 grid.end.0 grid.step.0)
    (recursion_map (λ t. IsAtMost time_limit (record { 0 = t })) (λ t. AreMet asked (needs_of asked e t))
    (λ t near. law asked e t hundred_years time_limit (omega arith) (reach_few (depth e) few) ends near within)
    (instants_up_to grid.start.0 grid.end.0 grid.step.0) (all_between grid.start.0 grid.end.0 grid.step.0 r))
