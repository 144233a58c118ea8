-- The instants of a subquery's walk as a list, from those of the outer walk.
use Rattle.std.proofs.Common.{◌≡◌, ◌∙◌, ℕ, zero, suc, ◌+◌, ◌<◌, get_or, Bool, true, false, cond, List, [], ◌∷◌, length, Option, None, Some, refl, sym, ap, subst, arith}
use Rattle.std.specs.Prelude.{◌↔◌, ◌&&◌, ℤ, pos, negsuc, ◌+ℤ◌, ◌-ℤ◌, ◌<ℤ◌, ◌≤ℤ◌, filter, int_le, int_lt, if◌then◌else◌}
use Rattle.std.specs.List.{AllByRecursion, Contains, list_any}
use Rattle.std.proofs.lemmas.Int.{ints}
use Rattle.std.proofs.lemmas.List.Elements.{All-contains, All-contains_itself, All-filter, All-from_recursion, filter_passes}
use Rattle.std.proofs.lemmas.List.Folds.{Any-from_list_any, list_any-from_Any}
use Rattle.promql_ast.specs.declared.tree.Fixed.{Fixed}
use Rattle.promql_ast.specs.declared.tree.Fixed.TheVariants.{At, Start, End}
use Rattle.promql_ast.specs.declared.tree.Moment.{Moment}
use Rattle.promql_meaning.specs.Laws.{IsMultipleIn, MultiplesAreAll}
use Rattle.promql_meaning.specs.Selecting.{Asked, base_of, moment_of}
use Rattle.promql_meaning.specs.Subqueries.{as_times, first_multiple, instants, instants_up_to}
use Rattle.promql_meaning.specs.WalkMoments.{IsMomentOf, WalkMomentIsMoment}
use Rattle.series_marks.specs.Reaches.{last_instant}
use Rattle.ticks.specs.Edges.{IsFrom, is_from}
use Rattle.ticks.specs.Grids.{step_count}
use Rattle.ticks.specs.Listed.{AreRising, IsListed}
use Rattle.ticks.specs.Walks.{IsInWindow, IsInstant, moment_at, multiples-instants}
use Rattle.ticks.specs.declared.moment.Ms.{Ms}
use Rattle.ticks.specs.declared.walk.Walk.{Walk}
use Rattle.ticks.specs.declared.walk.Walk.TheVariants.{Multiples}
use Rattle.ticks.specs.declared.walk.WalkMoment.{WalkMoment}
use Rattle.plan_work.specs.PlanBounds.{inner_times, is_in_range}
use Rattle.plan_work.specs.PlanLaws.{InnerTimesAreListed}

-- ---- what a list has

none_there : {X P : Type 0} (x : X) → Contains [] x → P
none_there x (k, less, e) = absurd (omega (arith, less))

module _ {X : Type 0} (p : X → Bool) where
  in_filter : (xs : List X) (x : X) → Contains (filter p xs) x → Contains xs x × (p x ≡ true)
  in_filter xs x h = (
    All-contains (Contains xs) (filter p xs) x (All-filter p (Contains xs) xs (All-contains_itself xs)) h,
    All-contains (λ y. p y ≡ true) (filter p xs) x (filter_passes p xs) h,
  )

  more_kept : (b : Bool) (y : X) (ys : List X) (x : X) → Contains ys x → Contains (cond b (y ∷ ys) ys) x
  more_kept true y ys x (k, less, e) = (suc k, omega (arith, less), e)
  more_kept false y ys x h = h

  kept_at : (xs : List X) (x : X) (k : ℕ) → k < length xs → get_or xs k x ≡ x → p x ≡ true → Contains (filter p xs) x
  kept_at [] x k less e h = absurd (omega (arith, less))
  kept_at (y ∷ xs) x zero less e h = subst (λ (b : Bool). Contains (cond b (y ∷ filter p xs) (filter p xs)) x) (sym (ap p e ∙ h)) (0, omega arith, e)
  kept_at (y ∷ xs) x (suc k) less e h = more_kept (p y) y (filter p xs) x (kept_at xs x k (omega (arith, less)) e h)

to_times_at : (us : List ℤ) (t : Ms) (k : ℕ) → k < length us → get_or us k t.0 ≡ t.0 → Contains (as_times us) t
to_times_at [] t k less e = absurd (omega (arith, less))
to_times_at (u ∷ us) t zero less e = (0, omega arith, λ j. record { 0 = e j })
to_times_at (u ∷ us) t (suc k) less e = let rest = to_times_at us t k (omega (arith, less)) e in (suc rest.0, (let l = rest.1 in omega (arith, l)), rest.2)

from_times_at : (us : List ℤ) (t : Ms) (k : ℕ) → k < length (as_times us) → get_or (as_times us) k t ≡ t → Contains us t.0
from_times_at [] t k less e = absurd (omega (arith, less))
from_times_at (u ∷ us) t zero less e = (0, omega arith, ap (λ (z : Ms). z.0) e)
from_times_at (u ∷ us) t (suc k) less e = let rest = from_times_at us t k (omega (arith, less)) e in (suc rest.0, (let l = rest.1 in omega (arith, l)), rest.2)

-- ---- what passes a test rises where all do

module _ (p : ℤ → Bool) where
  above : (low first : ℤ) (s n : ℕ) → low <ℤ first → AllByRecursion (λ (u : Ms). low <ℤ u.0) (as_times (filter p (instants first (pos s) n)))
  above low first s zero below = tt
  above low first s (suc n) below = one (p first) (above low (first +ℤ pos s) s n (omega (arith, ints, below)))
    where
      one : (b : Bool) → AllByRecursion (λ (u : Ms). low <ℤ u.0) (as_times (filter p (instants (first +ℤ pos s) (pos s) n)))
          → AllByRecursion (λ (u : Ms). low <ℤ u.0) (as_times (cond b (first ∷ filter p (instants (first +ℤ pos s) (pos s) n)) (filter p (instants (first +ℤ pos s) (pos s) n))))
      one true rest = (below, rest)
      one false rest = rest

  rises : (first : ℤ) (s n : ℕ) → 0 < s → AreRising (as_times (filter p (instants first (pos s) n)))
  rises first s zero some = tt
  rises first s (suc n) some = one (p first) (rises (first +ℤ pos s) s n some)
    where
      one : (b : Bool) → AreRising (as_times (filter p (instants (first +ℤ pos s) (pos s) n)))
          → AreRising (as_times (cond b (first ∷ filter p (instants (first +ℤ pos s) (pos s) n)) (filter p (instants (first +ℤ pos s) (pos s) n))))
      one true rest = (above first (first +ℤ pos s) s n (omega (arith, ints, some)), rest)
      one false rest = rest

  rise_up_to : (first last step : ℤ) → pos 0 <ℤ step → AreRising (as_times (filter p (instants_up_to first last step)))
  rise_up_to first last (negsuc s) forward = absurd (omega (arith, ints, forward))
  rise_up_to first last (pos s) forward = by (int_lt last first)
    where
      by : (b : Bool) → AreRising (as_times (filter p (if b then [] else instants first (pos s) (step_count first last (pos s)))))
      by true = tt
      by false = rises first s (step_count first last (pos s)) (omega (arith, ints, forward))

-- ---- instants lie from the first one to the last

first_least : (t : Ms) (at : List Ms) (o : Ms) (k : ℕ) → AreRising (t ∷ at) → k < length (t ∷ at) → get_or (t ∷ at) k o ≡ o → t.0 ≤ℤ o.0
first_least t at o zero r less e = let same : t.0 ≡ o.0 = ap (λ (z : Ms). z.0) e in omega (arith, ints, same)
first_least t at o (suc k) r less e =
    let later : t.0 <ℤ o.0 = All-contains (λ (u : Ms). t.0 <ℤ u.0) at o (All-from_recursion (λ (u : Ms). t.0 <ℤ u.0) at r.0) (k, omega (arith, less), e) in
    omega (arith, ints, later)

last_greatest : (t : Ms) (at : List Ms) (o : Ms) (k : ℕ) → AreRising (t ∷ at) → k < length (t ∷ at) → get_or (t ∷ at) k o ≡ o → o.0 ≤ℤ (last_instant t at).0
last_greatest t [] o zero r less e = let same : t.0 ≡ o.0 = ap (λ (z : Ms). z.0) e in omega (arith, ints, same)
last_greatest t [] o (suc k) r less e = absurd (omega (arith, less))
last_greatest t (u ∷ at) o zero r less e =
    let same : t.0 ≡ o.0 = ap (λ (z : Ms). z.0) e in
    let next : t.0 <ℤ u.0 = r.0.0 in
    let last : u.0 ≤ℤ (last_instant u at).0 = last_greatest u at u zero r.1 (omega arith) refl in
    omega (arith, ints, same, next, last)
last_greatest t (u ∷ at) o (suc k) r less e = last_greatest u at o k r.1 (omega (arith, less)) e

-- ---- moments and ranges

moments_rise : (asked : Asked) (moment : Moment) (s t : ℤ) → s ≤ℤ t → moment_of asked moment s ≤ℤ moment_of asked moment t
moments_rise asked moment s t h = by moment.fixed
  where
    by : (fixed : Option Fixed) → (base_of asked.start asked.end s fixed -ℤ moment.offset.0) ≤ℤ (base_of asked.start asked.end t fixed -ℤ moment.offset.0)
    by None = omega (arith, ints, h)
    by (Some (At at)) = omega (arith, ints)
    by (Some Start) = omega (arith, ints)
    by (Some End) = omega (arith, ints)

from_test : (closed : Bool) (edge t : ℤ) → is_from closed edge t ≡ true → IsFrom closed edge t
from_test true edge t h = grind (arith, ints, h)
from_test false edge t h = grind (arith, ints, h)

test_from : (closed : Bool) (edge t : ℤ) → IsFrom closed edge t → is_from closed edge t ≡ true
test_from true edge t h = grind (arith, ints, h)
test_from false edge t h = grind (arith, ints, h)

up_to_test : (t m : ℤ) → int_le t m ≡ true → t ≤ℤ m
up_to_test t m h = grind (arith, ints, h)

test_up_to : (t m : ℤ) → t ≤ℤ m → int_le t m ≡ true
test_up_to t m h = grind (arith, ints, h)

earlier : (closed : Bool) (edge from t : ℤ) → edge ≤ℤ from → IsFrom closed from t → IsFrom closed edge t
earlier true edge from t e h = omega (arith, ints, e, h)
earlier false edge from t e h = omega (arith, ints, e, h)

both_true : (a b : Bool) → (a && b) ≡ true → (a ≡ true) × (b ≡ true)
both_true true b h = (refl, h)
both_true false b h = absurd (cc)

true_both : (a b : Bool) → a ≡ true → b ≡ true → (a && b) ≡ true
true_both true b h k = k
true_both false b h k = absurd (cc)

back : (last edge : ℤ) → last -ℤ (last -ℤ edge) ≡ edge
back last edge = omega (arith, ints)

-- ---- a subquery's instants

module _ (law : MultiplesAreAll) (moments : WalkMomentIsMoment) (asked : Asked) (walk : Walk) (moment : Moment) (own : WalkMoment) (range step : Ms) (timed : IsMomentOf asked moment own) (closed : own.closed ≡ moment.closed) (forward : pos 0 <ℤ step.0) where
  -- the range of an instant, by the expression's moment
  abbrev InRange : ℤ → ℤ → Type 0
  InRange o u = IsInWindow moment.closed (moment_of asked moment o) range.0 step.0 u

  to_own : (o u : ℤ) → InRange o u → IsInWindow own.closed (moment_at own o) range.0 step.0 u
  to_own o u w =
      subst (λ (b : Bool). IsInWindow b (moment_at own o) range.0 step.0 u) (sym closed)
      (subst (λ (m : ℤ). IsInWindow moment.closed m range.0 step.0 u) (sym (moments asked moment own o timed)) w)

  of_own : (o u : ℤ) → IsInWindow own.closed (moment_at own o) range.0 step.0 u → InRange o u
  of_own o u w =
      subst (λ (b : Bool). IsInWindow b (moment_of asked moment o) range.0 step.0 u) closed
      (subst (λ (m : ℤ). IsInWindow own.closed m range.0 step.0 u) (moments asked moment own o timed) w)

  module _ (t : Ms) (at : List Ms) (listed : IsListed walk (t ∷ at)) where
    abbrev edge : ℤ
    edge = moment_of asked moment t.0 -ℤ range.0

    abbrev last : ℤ
    last = moment_of asked moment (last_instant t at).0

    abbrev candidates : List ℤ
    candidates = instants_up_to (first_multiple moment.closed step.0 edge) last step.0

    abbrev wanted : ℤ → Bool
    wanted u = list_any (is_in_range asked moment range u) (t ∷ at)

    candidate : (u : ℤ) → Contains candidates u ↔ IsMultipleIn moment.closed edge last step.0 u
    candidate u =
        subst (λ (e : ℤ). Contains (instants_up_to (first_multiple moment.closed step.0 e) last step.0) u ↔ IsMultipleIn moment.closed e last step.0 u) (back last edge)
        (law moment.closed last (last -ℤ edge) step.0 u forward)

    in_walk : (u : Ms) → Contains (as_times (filter wanted candidates)) u → IsInstant (Multiples walk own range step) u.0
    in_walk u (k, less, e) =
        let f = in_filter wanted candidates u.0 (from_times_at (filter wanted candidates) u k less e) in
        let any = Any-from_list_any (is_in_range asked moment range u.0) (t ∷ at) f.1 in
        let o : Ms = any.1 in
        let parts = both_true (is_from moment.closed (moment_of asked moment o.0 -ℤ range.0) u.0) (int_le u.0 (moment_of asked moment o.0)) any.4 in
        let in_range : InRange o.0 u.0 = record {
          from_edge = from_test moment.closed (moment_of asked moment o.0 -ℤ range.0) u.0 parts.0;
          to_moment = up_to_test u.0 (moment_of asked moment o.0) parts.1;
          on_step = ((candidate u.0).0 f.0).multiple;
        } in
        coe 1 0 (j. multiples-instants walk own range step u.0 j) (o.0, (listed.instants o).0 (any.0, any.2, any.3), to_own o.0 u.0 in_range)

    in_list : (u : Ms) → IsInstant (Multiples walk own range step) u.0 → Contains (as_times (filter wanted candidates)) u
    in_list u i =
        let found : (o : ℤ) × IsInstant walk o × IsInWindow own.closed (moment_at own o) range.0 step.0 u.0 = coe 0 1 (j. multiples-instants walk own range step u.0 j) i in
        let o : Ms = record { 0 = found.0 } in
        let has : Contains (t ∷ at) o = (listed.instants o).1 found.1 in
        let w : InRange o.0 u.0 = of_own o.0 u.0 found.2 in
        let m : ℤ = moment_of asked moment o.0 in
        let begins : moment_of asked moment t.0 ≤ℤ m = moments_rise asked moment t.0 o.0 (first_least t at o has.0 listed.rising has.1 has.2) in
        let ends : m ≤ℤ last = moments_rise asked moment o.0 (last_instant t at).0 (last_greatest t at o has.0 listed.rising has.1 has.2) in
        let multiple : IsMultipleIn moment.closed edge last step.0 u.0 = record {
          from_edge = earlier moment.closed edge (m -ℤ range.0) u.0 (omega (arith, ints, begins)) w.from_edge;
          up_to = (let k = w.to_moment in omega (arith, ints, k, ends));
          multiple = w.on_step;
        } in
        let here = (candidate u.0).1 multiple in
        let passes : is_in_range asked moment range u.0 o ≡ true =
        true_both (is_from moment.closed (m -ℤ range.0) u.0) (int_le u.0 m) (test_from moment.closed (m -ℤ range.0) u.0 w.from_edge) (test_up_to u.0 m w.to_moment) in
        let kept = kept_at wanted candidates u.0 here.0 here.1 here.2 (list_any-from_Any (is_in_range asked moment range u.0) (t ∷ at) (has.0, o, has.1, has.2, passes)) in
        to_times_at (filter wanted candidates) u kept.0 kept.1 kept.2

  pub listed_inside : (at : List Ms) → IsListed walk at → IsListed (Multiples walk own range step) (inner_times asked moment range step at)
  listed_inside [] listed = record {
    rising = tt;
    instants = λ u. (
      λ h. none_there u h,
      λ i. let found : (o : ℤ) × IsInstant walk o × IsInWindow own.closed (moment_at own o) range.0 step.0 u.0 = coe 0 1 (j. multiples-instants walk own range step u.0 j) i in
          none_there (record { 0 = found.0 }) ((listed.instants (record { 0 = found.0 })).1 found.1),
    );
  }
  listed_inside (t ∷ at) listed = record {
    rising = rise_up_to (wanted t at listed) (first_multiple moment.closed step.0 (edge t at listed)) (last t at listed) step.0 forward;
    instants = λ u. (in_walk t at listed u, in_list t at listed u);
  }

pub inner_listed : MultiplesAreAll → WalkMomentIsMoment → InnerTimesAreListed
inner_listed law moments asked walk at moment own range step listed timed closed forward = listed_inside law moments asked walk moment own range step timed closed forward at listed
