-- The steps of a window among those of a walk.
use Rattle.std.proofs.Common.{◌≡◌, ◌∙◌, ℕ, zero, suc, true, false, cond, List, [], ◌∷◌, take, refl, sym, ap, subst, arith, ◌⊎◌, inl, inr, Option, None, Some}
use Rattle.std.specs.Prelude.{◌&&◌, ℤ, pos, ◌+ℤ◌, ◌-ℤ◌, ◌<ℤ◌, ◌≤ℤ◌, ◌↔◌, int_le, int_lt, filter, if◌then◌else◌}
use Rattle.std.specs.List.{AllByRecursion, Contains}
use Rattle.std.proofs.lemmas.Bool.{false≢true}
use Rattle.std.proofs.lemmas.Int.{ints}
use Rattle.label_set.specs.Entries.{recursion_filter}
use Rattle.promql_meaning.specs.Laws.{MultiplesAreAll}
use Rattle.promql_meaning.specs.Subqueries.{as_times, first_multiple, instants, instants_up_to, multiples, points_of, points_of_steps}
use Rattle.step_table.specs.Timed.{StepAt, steps_over}
use Rattle.step_table.specs.declared.step.Step.{Step}
use Rattle.ticks.specs.Edges.{before, from-later, later-from}
use Rattle.ticks.specs.Grids.{step_count}
use Rattle.ticks.specs.Listed.{AreRising, IsListed, ListsAreOne}
use Rattle.ticks.specs.Walks.{HasTimes, IsInWindow, IsInstant, LeadsToTimes, moment_at, multiples-instants, multiples-times}
use Rattle.ticks.specs.declared.moment.Ms.{Ms}
use Rattle.ticks.specs.declared.walk.Walk.{Walk}
use Rattle.ticks.specs.declared.walk.Walk.TheVariants.{Fixed, Multiples}
use Rattle.ticks.specs.declared.walk.WalkMoment.{WalkMoment}
use Rattle.op_subquery.specs.Kept.{steps_in}
use Rattle.op_subquery.specs.Rings.{IsReady, IsUpTo, Kernel, last_instant, windows_at}
use Rattle.op_subquery.specs.Walked.{WasFedOf, inner_walk}

-- ---- members of lists

head_is_in : {A : Type 0} (t : A) (ts : List A) → Contains (t ∷ ts) t
head_is_in t ts = (0, omega arith, refl)

behind_is_in : {A : Type 0} (u t : A) (ts : List A) → Contains ts t → Contains (u ∷ ts) t
behind_is_in u t ts (k, h, e) = (suc k, omega arith, e)

member_cases : {A : Type 0} (u t : A) (ts : List A) → Contains (u ∷ ts) t → (u ≡ t) ⊎ Contains ts t
member_cases u t ts (zero, h, e) = inl e
member_cases u t ts (suc k, h, e) = inr (k, omega arith, e)

none_is_in : {A : Type 0} (t : A) → Contains [] t → ⊥
none_is_in t (k, h, e) = omega arith

all_of : (P : Ms → Type 0) (ts : List Ms) → AllByRecursion P ts → (t : Ms) → Contains ts t → P t
all_of P [] all t is = absurd (none_is_in t is)
all_of P (u ∷ ts) all t is = elim (member_cases u t ts is) [ inl e ↦ subst P e all.0 | inr more ↦ all_of P ts all.1 t more ]

taken_in : (ts : List Ms) (n : ℕ) (t : Ms) → Contains (take n ts) t → Contains ts t
taken_in [] zero t is = absurd (none_is_in t is)
taken_in [] (suc n) t is = absurd (none_is_in t is)
taken_in (u ∷ ts) zero t is = absurd (none_is_in t is)
taken_in (u ∷ ts) (suc n) t is = elim (member_cases u t (take n ts) is) [ inl e ↦ subst (λ (z : Ms). Contains (u ∷ ts) z) e (head_is_in u ts) | inr more ↦ behind_is_in u t ts (taken_in ts n t more) ]

-- ---- lists that rise

all_taken : (P : Ms → Type 0) (n : ℕ) (ts : List Ms) → AllByRecursion P ts → AllByRecursion P (take n ts)
all_taken P zero ts a = tt
all_taken P (suc n) [] a = tt
all_taken P (suc n) (t ∷ ts) a = (a.0, all_taken P n ts a.1)

taken_rise : (n : ℕ) (ts : List Ms) → AreRising ts → AreRising (take n ts)
taken_rise zero ts r = tt
taken_rise (suc n) [] r = tt
taken_rise (suc n) (t ∷ ts) r = (all_taken (λ (u : Ms). t.0 <ℤ u.0) n ts r.0, taken_rise n ts r.1)

-- ---- the times in a window

abbrev times_in : ℤ → ℤ → List Ms → List Ms
times_in edge m ts = filter (λ (t : Ms). int_lt edge t.0 && int_le t.0 m) ts

times_rise : (edge m : ℤ) (ts : List Ms) → AreRising ts → AreRising (times_in edge m ts)
times_rise edge m [] r = tt
times_rise edge m (t ∷ ts) r =
    elim (int_lt edge t.0 && int_le t.0 m) as (λ b. AreRising (cond b (t ∷ times_in edge m ts) (times_in edge m ts))) [
      | true ↦ (recursion_filter (λ (u : Ms). t.0 <ℤ u.0) (λ (u : Ms). int_lt edge u.0 && int_le u.0 m) ts r.0, times_rise edge m ts r.1)
      | false ↦ times_rise edge m ts r.1
    ]

passes : (edge m t : ℤ) → edge <ℤ t → t ≤ℤ m → (int_lt edge t && int_le t m) ≡ true
passes edge m t h k = let f : int_lt edge t ≡ true = grind (arith, ints, h) in let g : int_le t m ≡ true = grind (arith, ints, k) in rw f g

passed : (edge m t : ℤ) → (int_lt edge t && int_le t m) ≡ true → (edge <ℤ t) × (t ≤ℤ m)
passed edge m t h =
    elim (int_lt edge t) as (λ b. int_lt edge t ≡ b → (b && int_le t m) ≡ true → (edge <ℤ t) × (t ≤ℤ m)) [
      | true ↦ λ e g. (grind (arith, ints, e), grind (arith, ints, g))
      | false ↦ λ e g. absurd (false≢true g)
    ] refl h

into : (edge m : ℤ) (ts : List Ms) (t : Ms) → Contains ts t → edge <ℤ t.0 → t.0 ≤ℤ m → Contains (times_in edge m ts) t
into edge m [] t is h k = absurd (none_is_in t is)
into edge m (u ∷ ts) t is h k =
    elim (member_cases u t ts is) [
      | inl e ↦ let p : (int_lt edge u.0 && int_le u.0 m) ≡ true = subst (λ (z : Ms). (int_lt edge z.0 && int_le z.0 m) ≡ true) (sym e) (passes edge m t.0 h k) in rw p (subst (λ (z : Ms). Contains (u ∷ times_in edge m ts) z) e (head_is_in u (times_in edge m ts)))
      | inr more ↦ elim (int_lt edge u.0 && int_le u.0 m) as (λ b. Contains (cond b (u ∷ times_in edge m ts) (times_in edge m ts)) t) [ true ↦ behind_is_in u t (times_in edge m ts) (into edge m ts t more h k) | false ↦ into edge m ts t more h k ]
    ]

out_of : (edge m : ℤ) (ts : List Ms) (t : Ms) → Contains (times_in edge m ts) t → Contains ts t × (edge <ℤ t.0) × (t.0 ≤ℤ m)
out_of edge m [] t is = absurd (none_is_in t is)
out_of edge m (u ∷ ts) t is =
    elim (int_lt edge u.0 && int_le u.0 m) as (λ b. (int_lt edge u.0 && int_le u.0 m) ≡ b → Contains (cond b (u ∷ times_in edge m ts) (times_in edge m ts)) t → Contains (u ∷ ts) t × (edge <ℤ t.0) × (t.0 ≤ℤ m)) [
      | true ↦ λ p here. elim (member_cases u t (times_in edge m ts) here) [
        | inl e ↦ let both = passed edge m u.0 p in (subst (λ (z : Ms). Contains (u ∷ ts) z) e (head_is_in u ts), subst (λ (z : Ms). edge <ℤ z.0) e both.0, subst (λ (z : Ms). z.0 ≤ℤ m) e both.1)
        | inr more ↦ let rest = out_of edge m ts t more in (behind_is_in u t ts rest.0, rest.1, rest.2)
      ]
      | false ↦ λ p here. let rest = out_of edge m ts t here in (behind_is_in u t ts rest.0, rest.1, rest.2)
    ] refl is

-- ---- steps at times

module _ (inner : ℤ → Step) where
  -- what is among rising times is up to the last of them
  up_to_last : (ts : List Ms) (u : Ms) → AreRising ts → Contains ts u → IsUpTo (last_instant (steps_over inner ts)) u.0
  up_to_last [] u r is = absurd (none_is_in u is)
  up_to_last (t ∷ []) u r is = elim (member_cases t u [] is) [ inl e ↦ subst (λ (z : Ms). z.0 ≤ℤ t.0) e (omega (arith, ints)) | inr more ↦ absurd (none_is_in u more) ]
  up_to_last (t ∷ s ∷ ts) u r is =
      elim (member_cases t u (s ∷ ts) is) [
        | inl e ↦ subst (λ (z : Ms). IsUpTo (last_instant (steps_over inner (s ∷ ts))) z.0) e (earlier (last_instant (steps_over inner (s ∷ ts))) (up_to_last (s ∷ ts) s r.1 (head_is_in s ts)))
        | inr more ↦ up_to_last (s ∷ ts) u r.1 more
      ]
    where
      earlier : (last : Option Ms) → IsUpTo last s.0 → IsUpTo last t.0
      earlier None h = h
      earlier (Some last) h = let l : t.0 <ℤ s.0 = r.0.0 in omega (arith, ints, h, l)

  -- of rising times those up to the last of the first ones are among these
  among_first : (ts : List Ms) (n : ℕ) (u : Ms) → AreRising ts → Contains ts u → IsUpTo (last_instant (steps_over inner (take n ts))) u.0 → Contains (take n ts) u
  among_first [] n u r is up = absurd (none_is_in u is)
  among_first (t ∷ ts) zero u r is up = absurd up
  among_first (t ∷ ts) (suc n) u r is up =
      elim (member_cases t u ts is) [
        | inl e ↦ subst (λ (z : Ms). Contains (t ∷ take n ts) z) e (head_is_in t (take n ts))
        | inr more ↦ rest (λ last. among_first ts n u r.1 more last) (take n ts) refl more up
      ]
    where
      rest : (IsUpTo (last_instant (steps_over inner (take n ts))) u.0 → Contains (take n ts) u) → (front : List Ms) → take n ts ≡ front → Contains ts u → IsUpTo (last_instant (steps_over inner (t ∷ front))) u.0
          → Contains (t ∷ take n ts) u
      rest go [] e more up = let late : t.0 <ℤ u.0 = all_of (λ (z : Ms). t.0 <ℤ z.0) ts r.0 u more in absurd (omega (arith, ints, late, up))
      rest go (s ∷ front) e more up =
          behind_is_in t u (take n ts) (go (subst (λ (z : List Ms). IsUpTo (last_instant (steps_over inner z)) u.0) (sym e) up))

  -- the steps in a window are those at the times in it
  in_window : (edge m : ℤ) (ts : List Ms) → steps_in edge m (steps_over inner ts) ≡ steps_over inner (times_in edge m ts)
  in_window edge m [] = refl
  in_window edge m (t ∷ ts) =
      elim (int_lt edge t.0 && int_le t.0 m) as (λ b. cond b (record { at = t; step = inner t.0 } ∷ steps_in edge m (steps_over inner ts)) (steps_in edge m (steps_over inner ts)) ≡ steps_over inner (cond b (t ∷ times_in edge m ts) (times_in edge m ts))) [
        | true ↦ ap (λ (r : List StepAt). record { at = t; step = inner t.0 } ∷ r) (in_window edge m ts)
        | false ↦ in_window edge m ts
      ]

-- ---- the multiples as times

abbrev at_time : ℤ → Ms
at_time u = record { 0 = u }

times_have : (us : List ℤ) (t : Ms) → Contains us t.0 → Contains (as_times us) t
times_have [] t is = absurd (none_is_in t.0 is)
times_have (u ∷ us) t is =
    elim (member_cases u t.0 us is) [
      | inl e ↦ subst (λ (z : Ms). Contains (as_times (u ∷ us)) z) (ap at_time e) (head_is_in (at_time u) (as_times us))
      | inr more ↦ behind_is_in (at_time u) t (as_times us) (times_have us t more)
    ]

have_times : (us : List ℤ) (t : Ms) → Contains (as_times us) t → Contains us t.0
have_times [] t is = absurd (none_is_in t is)
have_times (u ∷ us) t is =
    elim (member_cases (at_time u) t (as_times us) is) [
      | inl e ↦ subst (λ (z : ℤ). Contains (u ∷ us) z) (ap (λ (z : Ms). z.0) e) (head_is_in u us)
      | inr more ↦ behind_is_in u t.0 us (have_times us t more)
    ]

module _ (step : ℤ) (positive : pos 0 <ℤ step) where
  all_later : (x y : ℤ) (n : ℕ) → x <ℤ y → AllByRecursion (λ (u : Ms). x <ℤ u.0) (as_times (instants y step n))
  all_later x y zero h = tt
  all_later x y (suc n) h = (h, all_later x (y +ℤ step) n (omega (arith, ints, h, positive)))

  instants_rise : (x : ℤ) (n : ℕ) → AreRising (as_times (instants x step n))
  instants_rise x zero = tt
  instants_rise x (suc n) = (all_later x (x +ℤ step) n (omega (arith, ints, positive)), instants_rise (x +ℤ step) n)

  up_to_rise : (first last : ℤ) → AreRising (as_times (instants_up_to first last step))
  up_to_rise first last = elim (int_lt last first) as (λ b. AreRising (as_times (if b then [] else instants first step (step_count first last step)))) [ true ↦ tt | false ↦ instants_rise first (step_count first last step) ]

-- ---- one outer instant

module _ (kernel : Kernel) (outer : Walk) (inner : ℤ → Step) (count : ℕ) (at : Ms) (of : WasFedOf kernel outer inner count) (on : IsInstant outer at.0) where
  abbrev moment : WalkMoment
  moment = kernel.moment

  abbrev m : ℤ
  m = moment_at kernel.moment at.0

  abbrev edge : ℤ
  edge = before kernel.moment.closed (m -ℤ kernel.range.0)

  abbrev fed : List Ms
  fed = take count of.times

  abbrev InIt : ℤ → Type 0
  InIt u = IsInWindow kernel.moment.closed m kernel.range.0 kernel.step.0 u

  step_positive : pos 0 <ℤ kernel.step.0
  step_positive =
      let all : LeadsToTimes outer × (pos 0 <ℤ kernel.range.0) × (pos 0 <ℤ kernel.step.0) × ((o : ℤ) → IsInstant outer o → HasTimes (moment_at kernel.moment o) kernel.range.0) =
      coe 0 1 (k. multiples-times outer kernel.moment kernel.range kernel.step k) of.leads in
      all.2

  is_asked : (u : ℤ) → InIt u → IsInstant (inner_walk kernel outer) u
  is_asked u w = coe 1 0 (k. multiples-instants outer kernel.moment kernel.range kernel.step u k) (at.0, on, w)

  on_step : (u : Ms) → Contains of.times u → (o : ℤ) × IsInstant outer o × IsInWindow kernel.moment.closed (moment_at kernel.moment o) kernel.range.0 kernel.step.0 u.0
  on_step u is = coe 0 1 (k. multiples-instants outer kernel.moment kernel.range kernel.step u.0 k) ((of.listed.instants u).0 is)

  was_fed : IsReady kernel at → (u : Ms) → IsInstant (inner_walk kernel outer) u.0 → InIt u.0 → Contains fed u
  was_fed ready u is w =
      among_first inner of.times count u of.listed.rising ((of.listed.instants u).1 is) (subst (λ (o : Option Ms). IsUpTo o u.0) of.fed.last (ready u.0 w))

  is_ready : ((u : Ms) → IsInstant (inner_walk kernel outer) u.0 → InIt u.0 → Contains fed u) → IsReady kernel at
  is_ready all u w =
      let t : Ms = record { 0 = u } in
      subst (λ (o : Option Ms). IsUpTo o u) (sym of.fed.last) (up_to_last inner fed t (taken_rise count of.times of.listed.rising) (all t (is_asked u w) w))

  pub exact : IsReady kernel at ↔ ((u : Ms) → IsInstant (inner_walk kernel outer) u.0 → InIt u.0 → Contains fed u)
  exact = (was_fed, is_ready)

  -- the walk of this outer instant alone
  abbrev alone : Walk
  alone = Multiples (Fixed at) kernel.moment kernel.range kernel.step

  alone_has : (u : ℤ) → InIt u → IsInstant alone u
  alone_has u w = coe 1 0 (k. multiples-instants (Fixed at) kernel.moment kernel.range kernel.step u k) (at.0, refl, w)

  has_alone : (u : ℤ) → IsInstant alone u → InIt u
  has_alone u is =
      let found : (o : ℤ) × IsInstant (Fixed at) o × IsInWindow kernel.moment.closed (moment_at kernel.moment o) kernel.range.0 kernel.step.0 u = coe 0 1 (k. multiples-instants (Fixed at) kernel.moment kernel.range kernel.step u k) is in
      subst (λ (o : ℤ). IsInWindow kernel.moment.closed (moment_at kernel.moment o) kernel.range.0 kernel.step.0 u) found.1 found.2

  fed_listed : IsReady kernel at → IsListed alone (times_in edge m fed)
  fed_listed ready = record {
    rising = times_rise edge m fed (taken_rise count of.times of.listed.rising);
    instants = λ u. (
      λ is.
          let found = out_of edge m fed u is in
          let asked = on_step u (taken_in of.times count u found.0) in
          alone_has u.0 (record { from_edge = later-from kernel.moment.closed (m -ℤ kernel.range.0) u.0 found.1; to_moment = found.2; on_step = asked.2.on_step }),
      λ is.
          let w = has_alone u.0 is in
          into edge m fed u (was_fed ready u (is_asked u.0 w) w) (from-later kernel.moment.closed (m -ℤ kernel.range.0) u.0 w.from_edge) w.to_moment,
    );
  }

  meant_listed : MultiplesAreAll → IsListed alone (as_times (multiples kernel.moment.closed m kernel.range.0 kernel.step.0))
  meant_listed law = record {
    rising = up_to_rise kernel.step.0 step_positive (first_multiple kernel.moment.closed kernel.step.0 (m -ℤ kernel.range.0)) m;
    instants = λ u. (
      λ is.
          let multiple = (law kernel.moment.closed m kernel.range.0 kernel.step.0 u.0 step_positive).0 (have_times (multiples kernel.moment.closed m kernel.range.0 kernel.step.0) u is) in
          alone_has u.0 (record { from_edge = multiple.from_edge; to_moment = multiple.up_to; on_step = multiple.multiple }),
      λ is.
          let w = has_alone u.0 is in
          times_have (multiples kernel.moment.closed m kernel.range.0 kernel.step.0) u ((law kernel.moment.closed m kernel.range.0 kernel.step.0 u.0 step_positive).1 (record { from_edge = w.from_edge; up_to = w.to_moment; multiple = w.on_step })),
    );
  }

  pub meant : ListsAreOne → MultiplesAreAll → IsReady kernel at → windows_at kernel.moment kernel.range (steps_over inner fed) at ≡ points_of kernel.moment.closed inner kernel.range kernel.step m
  meant one law ready =
      let same : times_in edge m fed ≡ as_times (multiples kernel.moment.closed m kernel.range.0 kernel.step.0) = one alone (times_in edge m fed) (as_times (multiples kernel.moment.closed m kernel.range.0 kernel.step.0)) (fed_listed ready) (meant_listed law) in
      ap (points_of_steps kernel.range m) (in_window inner edge m fed ∙ ap (steps_over inner) same)
