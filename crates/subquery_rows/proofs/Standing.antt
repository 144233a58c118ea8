-- Where a ring stands before its first instant, after an inner one and after an outer one.
use Rattle.std.proofs.Common.{◌≡◌, ◌∙◌, ℕ, zero, suc, ◌+◌, Bool, true, false, List, [], ◌∷◌, ◌++◌, map, take, Option, None, Some, refl, sym, ap, subst, arith}
use Rattle.std.specs.Prelude.{ℤ, pos, ◌-ℤ◌, ◌<ℤ◌, ◌≤ℤ◌, int_lt, slice_get, IfNone, IfSome}
use Rattle.std.specs.List.{AllByRecursion}
use Rattle.std.specs.Option.{option_map}
use Rattle.std.proofs.lemmas.Int.{ints}
use Rattle.std.proofs.lemmas.List.{map-append}
use Rattle.op_subquery.specs.Rings.{CanFeed, IsBehind, IsNoEarlier, IsReady, IsUpTo, WasFed, last_instant, span_at}
use Rattle.op_subquery.specs.Walked.{WasFedOf, inner_walk}
use Rattle.op_subquery.specs.declared.span.Span.{Span}
use Rattle.step_batch.specs.Lent.{Lent, stage_of, stages}
use Rattle.step_batch.specs.declared.steps.PlacedStep.{PlacedStep}
use Rattle.step_table.specs.Groups.{Names}
use Rattle.step_table.specs.Timed.{StepAt, steps_over}
use Rattle.step_table.specs.WellFormed.{AreSets}
use Rattle.step_table.specs.declared.step.Step.{Step}
use Rattle.ticks.specs.Edges.{before}
use Rattle.ticks.specs.Listed.{EachWalkIsListed, FirstIsHead, IsFirst, IsListed, IsNext, NextIsBehind}
use Rattle.ticks.specs.Walks.{HasTimes, IsInstant, LeadsToTimes, moment_at, multiples-instants, multiples-times}
use Rattle.ticks.specs.declared.moment.Ms.{Ms}
use Rattle.ticks.specs.declared.walk.Walk.{Walk}
use Rattle.ticks.specs.declared.walk.Walk.TheVariants.{Multiples}
use Rattle.ticks.specs.declared.walk.WalkMoment.{WalkMoment}
use Rattle.subquery_rows.specs.Rings.{IsAsked, IsNextAfter, IsNextStep, IsPast, Ring, Stands}

-- ---- before the first instant

pub begins : EachWalkIsListed → FirstIsHead → (ring : Ring) (outer : Walk) (inner : ℤ → Step) → ring.walk ≡ inner_walk ring.points outer → LeadsToTimes (inner_walk ring.points outer) → IsFirst ring.walk ring.next → ring.points.reached ≡ None → WasFed ring.points []
    → Stands ring outer inner None
begins each first ring outer inner walk leads head reached fed =
    let walked = inner_walk ring.points outer in
    let all : (times : List Ms) × IsListed walked times = each walked leads in
    let of : WasFedOf ring.points outer inner 0 = record { times = all.0; listed = all.1; leads = leads; fed = fed } in
    record {
      walk = walk;
      count = 0;
      of = of;
      next = first walked all.0 ring.next all.1 (subst (λ (w : Walk). IsFirst w ring.next) walk head);
      behind = subst (λ (last : Option Ms). IsNextAfter ring.walk last ring.next) (sym fed.last) head;
      reached = reached;
    }

-- ---- what a window still lacks

module _ (walk : Walk) (m u : ℤ) (is : IsInstant walk u) (up : u ≤ℤ m) where
  none_left : (last next : Option Ms) → IsNextAfter walk last next → ((v : Ms) → next ≡ Some v → m <ℤ v.0) → IsUpTo last u
  none_left None None first late = absurd (first.none u is)
  none_left None (Some n) first late = let a : n.0 ≤ℤ u = first.least u is in let b : m <ℤ n.0 = late n refl in absurd (omega (arith, ints, a, b, up))
  none_left (Some l) next behind late =
      elim (int_lt l.0 u) as (λ b. int_lt l.0 u ≡ b → u ≤ℤ l.0) [
        | true ↦ λ h. absurd (none_behind next behind late (grind (arith, ints, h)))
        | false ↦ λ h. grind (arith, ints, h)
      ] refl
    where
      none_behind : (next : Option Ms) → IsNext walk l.0 next → ((v : Ms) → next ≡ Some v → m <ℤ v.0) → l.0 <ℤ u → ⊥
      none_behind None n late h = n.none u is h
      none_behind (Some v) n late h = let a : v.0 ≤ℤ u = n.least u is h in let b : m <ℤ v.0 = late v refl in omega (arith, ints, a, b, up)

module _ (ring : Ring) (outer : Walk) (inner : ℤ → Step) (last : Option Ms) (t : Ms) (asked : IsAsked ring outer inner last t) where
  -- where the next inner instant is later than the moment, or there is none, the window lacks nothing
  all_fed : ((v : Ms) → ring.next ≡ Some v → moment_at ring.points.moment t.0 <ℤ v.0) → IsReady ring.points t
  all_fed late = λ u w.
      let s = asked.stands in
      let k = ring.points in
      let is : IsInstant (inner_walk k outer) u = coe 1 0 (j. multiples-instants outer k.moment k.range k.step u j) (t.0, asked.on, w) in
      none_left ring.walk (moment_at k.moment t.0) u (subst (λ (z : Walk). IsInstant z u) (sym s.walk) is) w.to_moment k.last ring.next s.behind late

  -- and where it lacks one that one isn't later than the moment
  up_to_moment : (IsReady ring.points t → ⊥) → (v : Ms) → ring.next ≡ Some v → v.0 ≤ℤ moment_at ring.points.moment t.0
  up_to_moment not_all v is =
      let m = moment_at ring.points.moment t.0 in
      elim (int_lt m v.0) as (λ b. int_lt m v.0 ≡ b → v.0 ≤ℤ m) [
        | true ↦ λ h. absurd (not_all (all_fed (λ w e. let same : Some v ≡ Some w = sym is ∙ e in let one : v ≡ w = cc in subst (λ (z : Ms). m <ℤ z.0) one (grind (arith, ints, h)))))
        | false ↦ λ h. grind (arith, ints, h)
      ] refl

  if_some : (P : Ms → Type 0) (next : Option Ms) → ((v : Ms) → next ≡ Some v → P v) → IfSome next P
  if_some P None h = tt
  if_some P (Some v) h = h v refl

  pub is_within : (IsReady ring.points t → ⊥) → IfSome ring.next (λ v. v.0 ≤ℤ moment_at ring.points.moment t.0)
  is_within not_all = if_some (λ v. v.0 ≤ℤ moment_at ring.points.moment t.0) ring.next (up_to_moment not_all)

  pub is_lacking : (IsReady ring.points t → ⊥) → IfSome ring.next (λ v. IsReady ring.points t → ⊥)
  is_lacking not_all = if_some (λ v. IsReady ring.points t → ⊥) ring.next (λ v e. not_all)

  pub none_lacks : IfNone ring.next (IsReady ring.points t)
  none_lacks = by_next ring.next refl
    where
      by_next : (next : Option Ms) → ring.next ≡ next → IfNone next (IsReady ring.points t)
      by_next None e = all_fed (λ v h. let not_one : None ≡ Some v = sym e ∙ h in absurd (cc))
      by_next (Some v) e = tt

  leads : LeadsToTimes outer × (pos 0 <ℤ ring.points.range.0) × (pos 0 <ℤ ring.points.step.0) × ((o : ℤ) → IsInstant outer o → HasTimes (moment_at ring.points.moment o) ring.points.range.0)
  leads = coe 0 1 (j. multiples-times outer ring.points.moment ring.points.range ring.points.step j) asked.stands.of.leads

  pub has_times : HasTimes (moment_at ring.points.moment t.0) ring.points.range.0
  has_times = leads.3 t.0 asked.on

  pub step_positive : pos 0 <ℤ ring.points.step.0
  step_positive = leads.2

-- ---- an inner instant more

one_step : (labels : List Names) (steps : List PlacedStep) (at : Ms) (step : Step) → map (stage_of labels) steps ≡ record { at = at; step = step } ∷ [] → (s : PlacedStep) × (steps ≡ s ∷ []) × (s.at ≡ at) × (s.marks ≡ step.marks)
one_step labels [] at step e = absurd (cc)
one_step labels (s ∷ []) at step e =
    let same : stage_of labels s ≡ record { at = at; step = step } = cc in
    (s, refl, ap (λ (z : StepAt). z.at) same, ap (λ (z : StepAt). z.step.marks) same)
one_step labels (s ∷ r ∷ steps) at step e = absurd (cc)

module _ (ring : Ring) (outer : Walk) (inner : ℤ → Step) (last : Option Ms) (at : Ms) (rows : Lent) (is : IsNextStep ring outer inner last at rows) where
  behind_last : (fed : Option Ms) (s : PlacedStep) → IsNextAfter ring.walk fed (Some at) → s.at ≡ at → IsBehind fed (s ∷ [])
  behind_last None s n e = tt
  behind_last (Some l) s n e = subst (λ (z : Ms). l.0 <ℤ z.0) (sym e) n.later

  pub can_feed : CanFeed ring.points rows
  can_feed =
      let one = one_step rows.labels rows.steps at (inner at.0) is.step in
      let next : IsNextAfter ring.walk ring.points.last (Some at) = subst (IsNextAfter ring.walk ring.points.last) is.next is.stands.behind in
      record {
        later = subst (IsBehind ring.points.last) (sym one.1) (behind_last ring.points.last one.0 next one.2);
        sets = subst (AllByRecursion (λ (s : PlacedStep). AreSets s.marks)) (sym one.1) (subst AreSets (sym one.3) is.sets, tt);
      }

last_of : (steps : List StepAt) (s : StepAt) → last_instant (steps ++ s ∷ []) ≡ Some s.at
last_of [] s = refl
last_of (r ∷ []) s = refl
last_of (r ∷ q ∷ steps) s = last_of (q ∷ steps) s

taken_more : (ts : List Ms) (k : ℕ) (t : Ms) → slice_get ts k ≡ Some t → take (suc k) ts ≡ take k ts ++ t ∷ []
taken_more [] k t e = absurd (cc)
taken_more (u ∷ ts) zero t e = let same : u ≡ t = cc in ap (λ (z : Ms). z ∷ []) same
taken_more (u ∷ ts) (suc k) t e = ap (λ (r : List Ms). u ∷ r) (taken_more ts k t e)

-- what feeding a step leaves
pub record Takes (old new : Ring) (at : Ms) (rows : Lent) : Type 0 where
  pub walk : new.walk ≡ old.walk
  pub moment : new.points.moment ≡ old.points.moment
  pub range : new.points.range ≡ old.points.range
  pub step : new.points.step ≡ old.points.step
  pub reached : new.points.reached ≡ old.points.reached
  pub fed : (steps : List StepAt) → WasFed old.points steps → WasFed new.points (steps ++ stages rows)
  pub next : IsNext old.walk at.0 new.next

module _ (old new : Ring) (outer : Walk) (inner : ℤ → Step) (last : Option Ms) (at : Ms) (rows : Lent) (is : IsNextStep old outer inner last at rows) (takes : Takes old new at rows) where
  abbrev was : List StepAt
  was = steps_over inner (take is.stands.count is.stands.of.times)

  fed : WasFed new.points (was ++ stages rows)
  fed = takes.fed was is.stands.of.fed

  pub last_is : new.points.last ≡ Some at
  last_is = fed.last ∙ ap (λ (z : List StepAt). last_instant (was ++ z)) is.step ∙ last_of was (record { at = at; step = inner at.0 })

  pub stands_on : NextIsBehind → Stands new outer inner last
  stands_on law =
      let stood = is.stands in
      let n = stood.count in
      let all = stood.of.times in
      let same : inner_walk new.points outer ≡ inner_walk old.points outer = λ i. Multiples outer (takes.moment i) (takes.range i) (takes.step i) in
      let here : slice_get all n ≡ Some at = sym stood.next ∙ is.next in
      let one_more : n + 1 ≡ suc n = omega arith in
      let taken : take (n + 1) all ≡ take n all ++ at ∷ [] = ap (λ (k : ℕ). take k all) one_more ∙ taken_more all n at here in
      let now : was ++ stages rows ≡ steps_over inner (take (n + 1) all) =
      ap (λ (z : List StepAt). was ++ z) is.step ∙ sym (map-append (λ (t : Ms). record { at = t; step = inner t.0 }) (take n all) (at ∷ [])) ∙ ap (steps_over inner) (sym taken) in
      let of : WasFedOf new.points outer inner (n + 1) = record { times = all; listed = subst (λ (w : Walk). IsListed w all) (sym same) stood.of.listed; leads = subst LeadsToTimes (sym same) stood.of.leads; fed = subst (WasFed new.points) now fed } in
      record {
        walk = takes.walk ∙ stood.walk ∙ sym same;
        count = n + 1;
        of = of;
        next = law (inner_walk old.points outer) all n at new.next stood.of.listed here (subst (λ (w : Walk). IsNext w at.0 new.next) stood.walk takes.next);
        behind = subst (λ (l : Option Ms). IsNextAfter new.walk l new.next) (sym last_is) (subst (λ (w : Walk). IsNext w at.0 new.next) (sym takes.walk) takes.next);
        reached = takes.reached ∙ stood.reached ∙ sym (λ i. option_map (span_at (takes.moment i) (takes.range i)) last);
      }

-- ---- an outer instant more

moment_rises : (moment : WalkMoment) (s t : ℤ) → s <ℤ t → moment_at moment s ≤ℤ moment_at moment t
moment_rises moment s t h = by_fixed moment.fixed
  where
    by_fixed : (fixed : Option Ms) → moment_at (record moment { fixed = fixed }) s ≤ℤ moment_at (record moment { fixed = fixed }) t
    by_fixed None = omega (arith, ints, h)
    by_fixed (Some at) = omega (arith, ints)

before_rises : (closed : Bool) (a b : ℤ) → a ≤ℤ b → before closed a ≤ℤ before closed b
before_rises false a b h = h
before_rises true a b h = omega (arith, ints, h)

span_goes_on : (moment : WalkMoment) (range t : Ms) (last : Option Ms) → IsPast last t → IsNoEarlier (option_map (span_at moment range) last) (span_at moment range t)
span_goes_on moment range t None h = tt
span_goes_on moment range t (Some l) h =
    let m = moment_rises moment l.0 t.0 h in
    (before_rises moment.closed (moment_at moment l.0 -ℤ range.0) (moment_at moment t.0 -ℤ range.0) (omega (arith, ints, m)), m)

pub no_earlier : (ring : Ring) (outer : Walk) (inner : ℤ → Step) (last : Option Ms) (t : Ms) → IsAsked ring outer inner last t → IsNoEarlier ring.points.reached (span_at ring.points.moment ring.points.range t)
no_earlier ring outer inner last t asked =
    subst (λ (r : Option Span). IsNoEarlier r (span_at ring.points.moment ring.points.range t)) (sym asked.stands.reached) (span_goes_on ring.points.moment ring.points.range t last asked.later)

-- what giving a step leaves
pub record Gives (old new : Ring) (t : Ms) : Type 0 where
  pub walk : new.walk ≡ old.walk
  pub next : new.next ≡ old.next
  pub moment : new.points.moment ≡ old.points.moment
  pub range : new.points.range ≡ old.points.range
  pub step : new.points.step ≡ old.points.step
  pub reached : new.points.reached ≡ Some (span_at old.points.moment old.points.range t)
  pub fed : (steps : List StepAt) → WasFed old.points steps → WasFed new.points steps

pub stands_given : (old new : Ring) (outer : Walk) (inner : ℤ → Step) (last : Option Ms) (t : Ms) → Stands old outer inner last → Gives old new t → Stands new outer inner (Some t)
stands_given old new outer inner last t stood gives =
    let same : inner_walk new.points outer ≡ inner_walk old.points outer = λ i. Multiples outer (gives.moment i) (gives.range i) (gives.step i) in
    let all = stood.of.times in
    let fed = gives.fed (steps_over inner (take stood.count all)) stood.of.fed in
    let of : WasFedOf new.points outer inner stood.count = record { times = all; listed = subst (λ (w : Walk). IsListed w all) (sym same) stood.of.listed; leads = subst LeadsToTimes (sym same) stood.of.leads; fed = fed } in
    let last_same : new.points.last ≡ old.points.last = fed.last ∙ sym stood.of.fed.last in
    record {
      walk = gives.walk ∙ stood.walk ∙ sym same;
      count = stood.count;
      of = of;
      next = gives.next ∙ stood.next;
      behind = subst (λ (w : Walk). IsNextAfter w new.points.last new.next) (sym gives.walk) (subst (λ (l : Option Ms). IsNextAfter old.walk l new.next) (sym last_same) (subst (IsNextAfter old.walk old.points.last) (sym gives.next) stood.behind));
      reached = gives.reached ∙ sym (λ i. Some (span_at (gives.moment i) (gives.range i) t));
    }
