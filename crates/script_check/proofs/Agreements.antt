-- When there is no reason against the series of an answer.
use Rattle.std.proofs.Common.{◌≡◌, ℤ, Bool, true, false, cond, List, [], ◌∷◌, filter, find, not, Option, None, Some, refl, ap, sym, subst, IsTrue}
use Rattle.std.specs.Prelude.{if◌then◌else◌, is_none, is_some, option_map, IsSome}
use Rattle.std.specs.List.{AllByRecursion}
use Rattle.std.specs.Option.{option_and_then}
use Rattle.std.specs.Cmp.{int_ranked}
use Rattle.std.specs.Ordering.{int_cmp, is_eq, is_gt}
use Rattle.std.specs.declared.cmp.Ordering.{Ordering}
use Rattle.std.specs.declared.cmp.Ordering.TheVariants.{Less, Equal, Greater}
use Rattle.label_set.specs.Labels.{labels_cmp}
use Rattle.ticks.specs.declared.moment.Ms.{Ms}
use Rattle.xfrac.specs.declared.value.XFrac.{XFrac}
use Rattle.promql_meaning.specs.declared.answer.Point.{Point}
use Rattle.promql_meaning.specs.declared.answer.ResultSeries.{ResultSeries}
use Rattle.script_check.specs.declared.verdict.Reason.{Reason}
use Rattle.script_check.specs.declared.verdict.Reason.TheVariants.{Missing, Extra, Differs, Order, ScalarDiffers}
use Rattle.script_check.specs.Series.{Agrees, IsMet, IsMetBy, IsNear, are_near, differs, differs_from, extra_reason, first_apart, is_apart, is_differing, is_lacking, least, lesser, misplaced, missing_reason, order_reason, placed_reason, scalar_reason, series_under, soonest, soonest_of, times, value_at, value_reason}
use Rattle.script_check.specs.Verdicts.{first_reason, series_reason}

-- ---- lists

module _ {X : Type 0} where
  -- nothing passes a test where the list of what passes is empty, and the other way round
  none_pass : (p : X → Bool) (xs : List X) → filter p xs ≡ [] → AllByRecursion (λ x. p x ≡ false) xs
  none_pass p [] h = tt
  none_pass p (x ∷ xs) h =
      elim (p x) as (λ b. p x ≡ b → cond b (x ∷ filter p xs) (filter p xs) ≡ [] → AllByRecursion (λ y. p y ≡ false) (x ∷ xs)) [
        | true ↦ λ e k. absurd (cc)
        | false ↦ λ e k. (e, none_pass p xs k)
      ] refl h

  empty_filter : (p : X → Bool) (xs : List X) → AllByRecursion (λ x. p x ≡ false) xs → filter p xs ≡ []
  empty_filter p [] h = refl
  empty_filter p (x ∷ xs) h = rw h.0 (empty_filter p xs h.1)

  each_passes : (p : X → Bool) (xs : List X) → AllByRecursion (λ x. p x ≡ true) (filter p xs)
  each_passes p [] = tt
  each_passes p (x ∷ xs) =
      elim (p x) as (λ b. p x ≡ b → AllByRecursion (λ y. p y ≡ true) (cond b (x ∷ filter p xs) (filter p xs))) [
        | true ↦ λ e. (e, each_passes p xs)
        | false ↦ λ e. each_passes p xs
      ] refl

  pub both : (P Q R : X → Type 0) → ((x : X) → P x → Q x → R x) → (xs : List X) → AllByRecursion P xs → AllByRecursion Q xs → AllByRecursion R xs
  both P Q R f [] a b = tt
  both P Q R f (x ∷ xs) a b = (f x a.0 b.0, both P Q R f xs a.1 b.1)

  pub one : (P R : X → Type 0) → ((x : X) → P x → R x) → (xs : List X) → AllByRecursion P xs → AllByRecursion R xs
  one P R f [] a = tt
  one P R f (x ∷ xs) a = (f x a.0, one P R f xs a.1)

  every : (P : X → Type 0) → ((x : X) → P x) → (xs : List X) → AllByRecursion P xs
  every P f [] = tt
  every P f (x ∷ xs) = (f x, every P f xs)

-- ---- options and tests

none_mapped : {X Y : Type 0} (f : X → Y) (o : Option X) → option_map f o ≡ None → o ≡ None
none_mapped f None h = refl
none_mapped f (Some x) h = absurd (cc)

none_some : {X : Type 0} (o : Option X) → is_some o ≡ false → o ≡ None
none_some None h = refl
none_some (Some x) h = absurd (cc)

some_none : {X : Type 0} (o : Option X) → is_some o ≡ true → o ≡ None → ⊥
some_none None h e = absurd (cc)
some_none (Some x) h e = absurd (cc)

there : {X : Type 0} (o : Option X) → is_none o ≡ false → IsSome o
there None h = absurd (cc)
there (Some x) h = refl

not_lacking : {X : Type 0} (o : Option X) → IsSome o → is_none o ≡ false
not_lacking None h = absurd (cc)
not_lacking (Some x) h = refl

holds : (b : Bool) → not b ≡ false → IsTrue b
holds true h = refl
holds false h = absurd (cc)

held : (b : Bool) → IsTrue b → not b ≡ false
held true h = refl
held false h = absurd (cc)

pub none_first : (a b : Option Reason) → first_reason a b ≡ None → (a ≡ None) × (b ≡ None)
none_first None b h = (refl, h)
none_first (Some reason) b h = absurd (cc)

pub first_none : (a b : Option Reason) → a ≡ None → b ≡ None → first_reason a b ≡ None
first_none a b h k = rw h k

-- ---- values

no_soonest : (all : List Ms) → soonest all ≡ None → all ≡ []
no_soonest [] h = refl
no_soonest (at ∷ all) h = absurd (cc)

neither : (a b : Option Ms) → soonest_of a b ≡ None → (a ≡ None) × (b ≡ None)
neither None b h = (refl, h)
neither (Some at) b h = absurd (cc)

pub equal : (o : Ordering) → is_eq o ≡ true → o ≡ Equal
equal Less h = absurd (cc)
equal Equal h = refl
equal Greater h = absurd (cc)

pub same_time : (a b : Ms) → is_eq (int_cmp a.0 b.0) ≡ true → a ≡ b
same_time a b h = ap (λ (z : ℤ). record { 0 = z }) (int_ranked a.0 b.0 Equal (sym (equal (int_cmp a.0 b.0) h)))

-- what holds of the times of points holds where they have a value
told : (P : Ms → Type 0) (points : List Point) (at : Ms) → AllByRecursion P (times points) → IsSome (value_at at points) → P at
told P [] at a s = absurd (cc)
told P (p ∷ points) at a s =
    elim (is_eq (int_cmp p.at.0 at.0)) as (λ b. is_eq (int_cmp p.at.0 at.0) ≡ b → IsSome (option_map (λ (q : Point). q.value) (cond b (Some p) (find (λ (q : Point). is_eq (int_cmp q.at.0 at.0)) points))) → P at) [
      | true ↦ λ e _. subst P (same_time p.at at e) a.0
      | false ↦ λ e k. told P points at a.1 k
    ] refl s

module _ (wanted got : ResultSeries) where
  abbrev apart : Ms → Type 0
  apart at = is_apart wanted.points got.points at ≡ false

  near_at : (at : Ms) → AllByRecursion apart (times wanted.points) → AllByRecursion apart (times got.points) → IsTrue (are_near (value_at at wanted.points) (value_at at got.points))
  near_at at a b = go (value_at at wanted.points) (value_at at got.points) refl refl
    where
      go : (v w : Option XFrac) → value_at at wanted.points ≡ v → value_at at got.points ≡ w → IsTrue (are_near v w)
      go None None e f = refl
      go (Some v) w e f = holds (are_near (Some v) w) (subst (λ (o : Option XFrac). not (are_near o w) ≡ false) e (subst (λ (o : Option XFrac). not (are_near (value_at at wanted.points) o) ≡ false) f (told apart wanted.points at a (rw e refl))))
      go None (Some w) e f = holds false (subst (λ (o : Option XFrac). not (are_near o (Some w)) ≡ false) e (subst (λ (o : Option XFrac). not (are_near (value_at at wanted.points) o) ≡ false) f (told apart got.points at b (rw f refl))))

  all_near : first_apart wanted.points got.points ≡ None → IsNear wanted got
  all_near h =
      let none = neither (soonest (filter (is_apart wanted.points got.points) (times wanted.points))) (soonest (filter (is_apart wanted.points got.points) (times got.points))) h in
      λ at. near_at at (none_pass (is_apart wanted.points got.points) (times wanted.points) (no_soonest (filter (is_apart wanted.points got.points) (times wanted.points)) none.0))
      (none_pass (is_apart wanted.points got.points) (times got.points) (no_soonest (filter (is_apart wanted.points got.points) (times got.points)) none.1))

  none_apart : IsNear wanted got → first_apart wanted.points got.points ≡ None
  none_apart h =
      let each : (at : Ms) → apart at = λ at. held (are_near (value_at at wanted.points) (value_at at got.points)) (h at) in
      rw (empty_filter (is_apart wanted.points got.points) (times wanted.points) (every apart each (times wanted.points)), empty_filter (is_apart wanted.points got.points) (times got.points) (every apart each (times got.points))) refl

-- ---- series

no_least : (all : List ResultSeries) → least all ≡ None → all ≡ []
no_least [] h = refl
no_least (series ∷ all) h = absurd (cc)

-- of a series and the least of others, the lesser has what all of them have
lesser_has : (P : ResultSeries → Type 0) (first : ResultSeries) (o : Option ResultSeries) → P first → ((other : ResultSeries) → o ≡ Some other → P other) → P (lesser first o)
lesser_has P first None h k = h
lesser_has P first (Some other) h k = elim (is_gt (labels_cmp first.labels other.labels)) as (λ b. P (cond b other first)) [ true ↦ k other refl | false ↦ h ]

-- the least series is one of them
least_is : (P : ResultSeries → Type 0) (all : List ResultSeries) (series : ResultSeries) → AllByRecursion P all → least all ≡ Some series → P series
least_is P [] series a h = absurd (cc)
least_is P (first ∷ all) series a h =
    let is : lesser first (least all) ≡ series = cc in
    subst P is (lesser_has P first (least all) a.0 (λ other e. least_is P all other a.1 e))

module _ (wanted : ResultSeries) where
  met_by : (o : Option ResultSeries) → is_none o ≡ false → is_some (option_and_then (differs_from wanted) o) ≡ false → IsMetBy wanted o
  met_by None h k = absurd (cc)
  met_by (Some s) h k = all_near wanted s (none_mapped (λ (at : Ms). Differs wanted.labels at (value_at at wanted.points) (value_at at s.points)) (first_apart wanted.points s.points) (none_some (differs_from wanted s) k))

  met_is_there : (o : Option ResultSeries) → IsMetBy wanted o → is_none o ≡ false
  met_is_there None h = absurd h
  met_is_there (Some s) h = refl

  met_is_near : (o : Option ResultSeries) → IsMetBy wanted o → is_some (option_and_then (differs_from wanted) o) ≡ false
  met_is_near None h = absurd h
  met_is_near (Some s) h = rw (none_apart wanted s h) refl

met : (got : List ResultSeries) (wanted : ResultSeries) → is_lacking got wanted ≡ false → is_differing got wanted ≡ false → IsMet got wanted
met got wanted h k = met_by wanted (series_under wanted.labels got) h k

met_there : (got : List ResultSeries) (wanted : ResultSeries) → IsMet got wanted → is_lacking got wanted ≡ false
met_there got wanted h = met_is_there wanted (series_under wanted.labels got) h

met_near : (got : List ResultSeries) (wanted : ResultSeries) → IsMet got wanted → is_differing got wanted ≡ false
met_near got wanted h = met_is_near wanted (series_under wanted.labels got) h

module _ (wanted got : List ResultSeries) where
  no_value : value_reason wanted got ≡ None → filter (is_differing got) wanted ≡ []
  no_value h = go (least (filter (is_differing got) wanted)) refl h
    where
      go : (o : Option ResultSeries) → least (filter (is_differing got) wanted) ≡ o → option_and_then (differs got) o ≡ None → filter (is_differing got) wanted ≡ []
      go None e k = no_least (filter (is_differing got) wanted) e
      go (Some series) e k = absurd (some_none (differs got series) (least_is (λ s. is_differing got s ≡ true) (filter (is_differing got) wanted) series (each_passes (is_differing got) wanted) e) k)

  pub no_reason : missing_reason wanted got ≡ None → extra_reason wanted got ≡ None → value_reason wanted got ≡ None → Agrees wanted got
  no_reason m x v = record {
    each = both (λ s. is_lacking got s ≡ false) (λ s. is_differing got s ≡ false) (IsMet got) (met got) wanted
        (none_pass (is_lacking got) wanted (no_least (filter (is_lacking got) wanted) (none_mapped (λ (s : ResultSeries). Missing s.labels) (least (filter (is_lacking got) wanted)) m)))
        (none_pass (is_differing got) wanted (no_value v));
    no_other = one (λ s. is_lacking wanted s ≡ false) (λ (s : ResultSeries). IsSome (series_under s.labels wanted)) (λ s. there (series_under s.labels wanted)) got
        (none_pass (is_lacking wanted) got (no_least (filter (is_lacking wanted) got) (none_mapped (λ (s : ResultSeries). Extra s.labels) (least (filter (is_lacking wanted) got)) x)));
  }

  pub no_missing : Agrees wanted got → missing_reason wanted got ≡ None
  no_missing h = rw (empty_filter (is_lacking got) wanted (one (IsMet got) (λ s. is_lacking got s ≡ false) (met_there got) wanted h.each)) refl

  pub no_extra : Agrees wanted got → extra_reason wanted got ≡ None
  no_extra h = rw (empty_filter (is_lacking wanted) got (one (λ (s : ResultSeries). IsSome (series_under s.labels wanted)) (λ s. is_lacking wanted s ≡ false) (λ s. not_lacking (series_under s.labels wanted)) got h.no_other)) refl

  pub no_difference : Agrees wanted got → value_reason wanted got ≡ None
  no_difference h = rw (empty_filter (is_differing got) wanted (one (IsMet got) (λ s. is_differing got s ≡ false) (met_near got) wanted h.each)) refl

  -- no reason is found in the series, and the other way round
  pub series_agree : (ordered : Bool) → series_reason ordered wanted got ≡ None → Agrees wanted got × (ordered ≡ true → misplaced wanted got ≡ None)
  series_agree ordered h =
      let order : Option Reason = placed_reason ordered wanted got in
      let a = none_first (missing_reason wanted got) (first_reason (extra_reason wanted got) (first_reason (value_reason wanted got) order)) h in
      let b = none_first (extra_reason wanted got) (first_reason (value_reason wanted got) order) a.1 in
      let c = none_first (value_reason wanted got) order b.1 in
      (no_reason a.0 b.0 c.0, λ e. none_mapped (λ (s : ResultSeries). Order s.labels) (misplaced wanted got) (subst (λ (b : Bool). (if b then order_reason wanted got else None) ≡ None) e c.1))

  -- of series that agree the order alone may be a reason
  pub placed_alone : (ordered : Bool) → Agrees wanted got → placed_reason ordered wanted got ≡ series_reason ordered wanted got
  placed_alone ordered h = rw (no_missing h, no_extra h, no_difference h) refl

  pub series_agree_if : (ordered : Bool) → Agrees wanted got → (ordered ≡ true → misplaced wanted got ≡ None) → series_reason ordered wanted got ≡ None
  series_agree_if ordered h k = rw (no_missing h, no_extra h, no_difference h) (order ordered k)
    where
      order : (b : Bool) → (b ≡ true → misplaced wanted got ≡ None) → (if b then order_reason wanted got else None) ≡ None
      order true e = rw (e refl) refl
      order false e = refl

-- a scalar is near the expected one
pub near_scalar : (wanted : XFrac) (got : Option XFrac) → scalar_reason wanted got ≡ None → IsTrue (are_near (Some wanted) got)
near_scalar wanted got h = elim (are_near (Some wanted) got) as (λ b. (if b then None else Some (ScalarDiffers wanted got)) ≡ None → IsTrue b) [ true ↦ λ _. refl | false ↦ λ e. absurd (cc) ] h

pub near_scalar_if : (wanted : XFrac) (got : Option XFrac) → IsTrue (are_near (Some wanted) got) → scalar_reason wanted got ≡ None
near_scalar_if wanted got h = rw h refl
