-- What is read and looked at over instants, where memory runs out too, for proofs.
use Rattle.std.proofs.Common.{◌≡◌, ◌∙◌, ℕ, zero, suc, ◌+◌, ◌<◌, ◌≤◌, Bool, true, false, List, [], ◌∷◌, ◌++◌, length, take, drop, get_or, None, Some, refl, sym, ap, subst, arith}
use Rattle.std.specs.Prelude.{ℤ, pos, ◌*◌, ◌<ℤ◌, ◌≤ℤ◌}
use Rattle.std.proofs.lemmas.Int.{ints}
use Rattle.std.proofs.lemmas.List.Sums.{sum_by-cons, sum_by-le-sum_by, sum_by-take-drop, sum_by_more}
use Rattle.sample_store.specs.Samples.{AllSeries, Samples, samples_at}
use Rattle.series_marks.specs.Reads.{AreRising, IsNoEarlier, Reached, edge_of, probes_of, read_of, span_bound}
use Rattle.series_marks.specs.Reaches.{FetchedIsBounded, Follow, IsReached, IsSoon, ProbedIsBounded, RisesBy, edge_at, fed, fetched_bound, last_instant, moment_of, reach, reach_all, reads_of, searches_of, window_edge}
use Rattle.series_marks.specs.Walked.{reads_later, reads_within}
use Rattle.ticks.specs.declared.moment.Ms.{Ms}
use Rattle.ticks.specs.declared.walk.WalkMoment.{WalkMoment}

-- ---- edges

le_same : (a : ℤ) → a ≤ℤ a
le_same a = omega (arith, ints)

le_both : (a b c : ℤ) → a ≤ℤ b → b ≤ℤ c → a ≤ℤ c
le_both a b c h k = omega (arith, ints, h, k)

edge_later : (closed : Bool) (back a b : ℤ) → a ≤ℤ b → window_edge closed back a ≤ℤ window_edge closed back b
edge_later false back a b h = omega (arith, ints, h)
edge_later true back a b h = omega (arith, ints, h)

pub edge_early : (closed : Bool) (back : ℤ) (reached : Reached) (edge m : Ms) → edge.0 ≡ window_edge closed back m.0 → IsReached closed back reached → IsNoEarlier reached m
    → (edge_of reached edge).0 ≤ℤ window_edge closed back m.0
edge_early closed back None edge m e r n = subst (λ (z : ℤ). z ≤ℤ window_edge closed back m.0) (sym e) (le_same (window_edge closed back m.0))
edge_early closed back (Some (a, b)) edge m e r n = le_both a.0 (window_edge closed back b.0) (window_edge closed back m.0) r (edge_later closed back b.0 m.0 n)

pub reached_on : (closed : Bool) (back : ℤ) (reached : Reached) (edge m : Ms) → edge ≡ record { 0 = window_edge closed back m.0 } → IsReached closed back reached → IsNoEarlier reached m
    → IsReached closed back (Some (edge_of reached edge, m))
reached_on closed back reached edge m e r n = edge_early closed back reached edge m (ap (λ (x : Ms). x.0) e) r n

-- ---- of one instant

one_more : (reached : Reached) (edge m : Ms) (S : Samples) → IsNoEarlier reached m → read_of reached S ≤ read_of (Some (edge_of reached edge, m)) S
one_more None edge m S n = omega arith
one_more (Some (a, b)) edge m S n = reads_later a.0 b.0 m.0 S n

module _ (store : AllSeries) (reached : Reached) (edge m : Ms) where
  abbrev on : Reached
  on = Some (edge_of reached edge, m)

  abbrev was_read : ℕ → ℕ
  was_read s = read_of reached (samples_at store s)

  abbrev now_read : ℕ → ℕ
  now_read s = read_of on (samples_at store s)

  pub reads_one : (series : List ℕ) → IsNoEarlier reached m → reads_of reached store series ≤ reads_of on store series
  reads_one series h = sum_by-le-sum_by was_read now_read series (λ s. one_more reached edge m (samples_at store s) h)

  -- of the series that are left nothing more is read
  pub reads_so_far : (series : List ℕ) (n now was : ℕ) → IsNoEarlier reached m → now + reads_of reached store (take n series) ≤ was + reads_of on store (take n series)
      → now + reads_of reached store series ≤ was + reads_of on store series
  reads_so_far series n now was h e =
      let a : reads_of reached store (take n series) + reads_of reached store (drop n series) ≡ reads_of reached store series = sum_by-take-drop was_read series n in
      let b : reads_of on store (take n series) + reads_of on store (drop n series) ≡ reads_of on store series = sum_by-take-drop now_read series n in
      let c = reads_one (drop n series) h in
      omega arith

  -- one series more
  pub reads_more : (series : List ℕ) (i now was begin : ℕ) → i < length series → was + reads_of reached store (take i series) ≤ begin + reads_of on store (take i series)
      → now + read_of reached (samples_at store (get_or series i 0)) ≤ was + read_of on (samples_at store (get_or series i 0)) → now + reads_of reached store (take (i + 1) series) ≤ begin + reads_of on store (take (i + 1) series)
  reads_more series i now was begin l a b =
      let c : reads_of reached store (take (i + 1) series) ≡ reads_of reached store (take i series) + read_of reached (samples_at store (get_or series i 0)) = sum_by_more was_read series i 0 l in
      let d : reads_of on store (take (i + 1) series) ≡ reads_of on store (take i series) + read_of on (samples_at store (get_or series i 0)) = sum_by_more now_read series i 0 l in
      omega arith

-- ---- of more instants

pub reads_reach : (back : ℤ) (store : AllSeries) (series : List ℕ) (reached : Reached) (moment : WalkMoment) (t : Ms) → IsSoon back reached moment t → reads_of reached store series ≤ reads_of (reach back reached moment t) store series
reads_reach back store series reached moment t s = reads_one store reached (edge_at back moment t) (moment_of moment t) series s.0

pub reads_all : (back : ℤ) (store : AllSeries) (series : List ℕ) (reached : Reached) (moment : WalkMoment) (at : List Ms) → Follow back reached moment at
    → reads_of reached store series ≤ reads_of (reach_all back reached moment at) store series
reads_all back store series reached moment [] f = omega arith
reads_all back store series reached moment (t ∷ ts) f =
    let a = reads_reach back store series reached moment t f.0 in
    let b = reads_all back store series (reach back reached moment t) moment ts f.1 in
    omega arith

-- what is read where memory ran out at an instant, of those that are left
reads_left : (back : ℤ) (store : AllSeries) (series : List ℕ) (start reached end : Reached) (moment : WalkMoment) (at : List Ms) (i : ℕ) (d : Ms) (now was begin : ℕ) → i < length at → Follow back reached moment (drop i at)
    → reach_all back reached moment (drop i at) ≡ end → was + reads_of start store series ≤ begin + reads_of reached store series
    → now + reads_of reached store series ≤ was + reads_of (reach back reached moment (get_or at i d)) store series → now + reads_of start store series ≤ begin + reads_of end store series
reads_left back store series start reached end moment [] i d now was begin h f e a b = absurd (omega arith)
reads_left back store series start reached end moment (t ∷ ts) zero d now was begin h f e a b =
    let r = reads_all back store series (reach back reached moment t) moment ts f.1 in
    let s : reads_of (reach_all back reached moment (t ∷ ts)) store series ≡ reads_of end store series = ap (λ x. reads_of x store series) e in
    omega arith
reads_left back store series start reached end moment (t ∷ ts) (suc i) d now was begin h f e a b = reads_left back store series start reached end moment ts i d now was begin (omega arith) f e a b

pub reads_left_at : (back : ℤ) (store : AllSeries) (series here : List ℕ) (start reached end : Reached) (moment held : WalkMoment) (at : List Ms) (i : ℕ) (d : Ms) (now was begin : ℕ) → here ≡ series → held ≡ moment → i < length at → Follow back reached moment (drop i at)
    → reach_all back reached moment (drop i at) ≡ end → was + reads_of start store series ≤ begin + reads_of reached store series
    → now + reads_of reached store here ≤ was + reads_of (reach back reached held (get_or at i d)) store here → now + reads_of start store series ≤ begin + reads_of end store series
reads_left_at back store series here start reached end moment held at i d now was begin p q h f e a b =
    reads_left back store series start reached end moment at i d now was begin h f e a
    (subst (λ (xs : List ℕ). now + reads_of reached store xs ≤ was + reads_of (reach back reached moment (get_or at i d)) store xs) p
    (subst (λ (x : WalkMoment). now + reads_of reached store here ≤ was + reads_of (reach back reached x (get_or at i d)) store here) q b))

-- behind the last instant
pub reads_end : (back : ℤ) (store : AllSeries) (series : List ℕ) (start reached : Reached) (moment : WalkMoment) (at rest : List Ms) (now begin : ℕ) → rest ≡ [] → reach_all back reached moment rest ≡ reach_all back start moment at
    → now + reads_of start store series ≤ begin + reads_of reached store series → now + reads_of start store series ≤ begin + reads_of (reach_all back start moment at) store series
reads_end back store series start reached moment at rest now begin none e h =
    let is : reached ≡ reach_all back start moment at = sym (ap (reach_all back reached moment) none) ∙ e in
    subst (λ (r : Reached). now + reads_of start store series ≤ begin + reads_of r store series) is h

-- ---- searches

searches_one : (reached : Reached) (edge m : Ms) (series : List ℕ) → searches_of reached series ≤ searches_of (Some (edge_of reached edge, m)) series
searches_one None edge m series = omega arith
searches_one (Some r) edge m series = omega arith

pub searches_all : (back : ℤ) (series : List ℕ) (reached : Reached) (moment : WalkMoment) (at : List Ms) → searches_of reached series ≤ searches_of (reach_all back reached moment at) series
searches_all back series reached moment [] = omega arith
searches_all back series reached moment (t ∷ ts) =
    let a = searches_one reached (edge_at back moment t) (moment_of moment t) series in
    let b = searches_all back series (reach back reached moment t) moment ts in
    omega arith

pub searches_left : (back : ℤ) (series here : List ℕ) (start reached end : Reached) (moment held : WalkMoment) (at : List Ms) (i : ℕ) (d : Ms) (now was begin : ℕ) → here ≡ series → held ≡ moment → i < length at
    → reach_all back reached moment (drop i at) ≡ end → was + searches_of start series ≤ begin + searches_of reached series
    → now + searches_of reached here ≤ was + searches_of (reach back reached held (get_or at i d)) here → now + searches_of start series ≤ begin + searches_of end series
searches_left back series here start reached end moment held [] i d now was begin p q h e a b = absurd (omega arith)
searches_left back series here start reached end moment held (t ∷ ts) zero d now was begin p q h e a b =
    let b' : now + searches_of reached series ≤ was + searches_of (reach back reached moment t) series =
    subst (λ (xs : List ℕ). now + searches_of reached xs ≤ was + searches_of (reach back reached moment t) xs) p
    (subst (λ (x : WalkMoment). now + searches_of reached here ≤ was + searches_of (reach back reached x t) here) q b) in
    let r = searches_all back series (reach back reached moment t) moment ts in
    let s : searches_of (reach_all back reached moment (t ∷ ts)) series ≡ searches_of end series = ap (λ x. searches_of x series) e in
    omega arith
searches_left back series here start reached end moment held (t ∷ ts) (suc i) d now was begin p q h e a b = searches_left back series here start reached end moment held ts i d now was begin p q (omega arith) e a b

-- one series more
pub probes_more : (p q now was begin i n : ℕ) → i < n → p ≤ q → was + p * i ≤ begin + q * i → now + p ≤ was + q → now + p * (i + 1) ≤ begin + q * (i + 1)
probes_more p q now was begin i n l o a b = grind (arith)

pub probes_few : (reached : Reached) → probes_of reached ≤ 64
probes_few None = omega arith
probes_few (Some r) = omega arith

-- of the series that are left nothing more is looked at
pub probes_left : (reached : Reached) (now begin i n : ℕ) → i ≤ n → now + probes_of reached * i ≤ begin + 64 * i → now + probes_of reached * n ≤ begin + 64 * n
probes_left None now begin i n l h = omega arith
probes_left (Some r) now begin i n l h = omega arith

-- ---- of a list of feeds

reach_both : (back : ℤ) (reached : Reached) (moment : WalkMoment) (at more : List Ms) → reach_all back (reach_all back reached moment at) moment more ≡ reach_all back reached moment (at ++ more)
reach_both back reached moment [] more = refl
reach_both back reached moment (t ∷ ts) more = reach_both back (reach back reached moment t) moment ts more

as_much : (now was a : ℕ) → now ≤ was → now + a ≤ was + a
as_much now was a h = omega arith

rises_all : (spent : Reached → ℕ) (back : ℤ) (moment : WalkMoment) (reached : Reached) (feeds : List (List Ms)) (was now : ℕ) → RisesBy spent back moment reached feeds was now
    → now + spent reached ≤ was + spent (reach_all back reached moment (fed feeds))
rises_all spent back moment reached [] was now h = as_much now was (spent reached) h
rises_all spent back moment reached (at ∷ feeds) was now h =
    let rest = rises_all spent back moment (reach_all back reached moment at) feeds h.0 now h.2 in
    let one = h.1 in
    let is : spent (reach_all back (reach_all back reached moment at) moment (fed feeds)) ≡ spent (reach_all back reached moment (at ++ fed feeds)) = ap spent (reach_both back reached moment at (fed feeds)) in
    both now h.0 was (spent reached) (spent (reach_all back reached moment at)) (spent (reach_all back (reach_all back reached moment at) moment (fed feeds))) (spent (reach_all back reached moment (at ++ fed feeds))) one rest is
  where
    both : (now mid was a b c d : ℕ) → mid + a ≤ was + b → now + b ≤ mid + c → c ≡ d → now + a ≤ was + d
    both now mid was a b c d h k e = omega arith

-- ---- the span

span_on : (back : ℤ) (e m : Ms) (moment : WalkMoment) (t : Ms) (ts : List Ms) → m ≡ moment_of moment t → reach_all back (Some (e, m)) moment ts ≡ Some (e, moment_of moment (last_instant t ts))
span_on back e m moment t [] is = ap (λ (x : Ms). Some (e, x)) is
span_on back e m moment t (u ∷ ts) is = span_on back e (moment_of moment u) moment u ts refl

reached_all : (back : ℤ) (reached : Reached) (moment : WalkMoment) (at : List Ms) → IsReached moment.closed back reached → Follow back reached moment at → IsReached moment.closed back (reach_all back reached moment at)
reached_all back reached moment [] r f = r
reached_all back reached moment (t ∷ ts) r f =
    reached_all back (reach back reached moment t) moment ts (reached_on moment.closed back reached (edge_at back moment t) (moment_of moment t) refl r f.0.0) f.1

pub edge_before : (closed : Bool) (back e m : ℤ) → pos 0 <ℤ back → e ≤ℤ window_edge closed back m → e <ℤ m
edge_before false back e m p h = omega (arith, ints, h, p)
edge_before true back e m p h = omega (arith, ints, h, p)

none_more : (a b c : ℕ) → a ≡ b + c → b ≡ 0 → c ≡ 0 → a ≡ 0
none_more a b c h k l = omega arith

no_reads : (store : AllSeries) (series : List ℕ) → reads_of None store series ≡ 0
no_reads store [] = refl
no_reads store (s ∷ series) = none_more _ _ _ (sum_by-cons (λ (u : ℕ). read_of None (samples_at store u)) s series) refl (no_reads store series)

reads_bounded : (back : ℤ) (store : AllSeries) (series : List ℕ) (moment : WalkMoment) (at : List Ms) → pos 0 <ℤ back → AreRising store → Follow back None moment at
    → reads_of (reach_all back None moment at) store series ≤ fetched_bound back store series moment at
reads_bounded back store series moment [] p rises f = let h = no_reads store series in omega (arith, h)
reads_bounded back store series moment (t ∷ ts) p rises f =
    let e : Ms = edge_at back moment t in
    let m : Ms = moment_of moment (last_instant t ts) in
    let is : reach_all back None moment (t ∷ ts) ≡ Some (e, m) = span_on back e (moment_of moment t) moment t ts refl in
    let on : IsReached moment.closed back (Some (e, m)) = subst (IsReached moment.closed back) is (reached_all back None moment (t ∷ ts) tt f) in
    let early : e.0 <ℤ m.0 = edge_before moment.closed back e.0 m.0 p on in
    subst (λ (r : Reached). reads_of r store series ≤ fetched_bound back store series moment (t ∷ ts)) (sym is)
    (sum_by-le-sum_by (λ (s : ℕ). read_of (Some (e, m)) (samples_at store s)) (λ (s : ℕ). span_bound e.0 m.0 (samples_at store s)) series (λ s. reads_within e.0 m.0 (samples_at store s) (rises s) early))

pub fetched_bounded : (back : ℤ) → pos 0 <ℤ back → FetchedIsBounded back
fetched_bounded back p store series moment feeds was now rises f h =
    let a : now + reads_of None store series ≤ was + reads_of (reach_all back None moment (fed feeds)) store series = rises_all (λ (r : Reached). reads_of r store series) back moment None feeds was now h in
    let b = reads_bounded back store series moment (fed feeds) p rises f in
    omega (arith, a, b)

pub probed_bounded : (back : ℤ) → ProbedIsBounded back
probed_bounded back series moment feeds was now h =
    let a : now + searches_of None series ≤ was + searches_of (reach_all back None moment (fed feeds)) series = rises_all (λ (r : Reached). searches_of r series) back moment None feeds was now h in
    let b = few (reach_all back None moment (fed feeds)) in
    omega (arith, a, b)
  where
    few : (r : Reached) → searches_of r series ≤ 64 * length series
    few None = omega arith
    few (Some r) = omega arith
