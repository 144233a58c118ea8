-- Instants one by one.
use Rattle.std.proofs.Common.{◌≡◌, ◌∙◌, ℕ, zero, suc, ◌+◌, ◌<◌, ◌≤◌, true, false, List, [], ◌∷◌, ◌++◌, length, map, take, drop, get_or, Some, refl, sym, ap, subst, arith}
use Rattle.std.specs.Prelude.{ℤ, ◌<ℤ◌, slice_get, if◌then◌else◌, ⊤}
use Rattle.func_table.specs.declared.table.Window.{Window}
use Rattle.promql_meaning.specs.Givens.{barren, no_marks}
use Rattle.sample_store.specs.Samples.{AllSeries}
use Rattle.series_marks.specs.Reaches.{Follow, IsReached, IsSoon, reach, reach_all, reads_of, searches_of}
use Rattle.series_marks.specs.Spent.{reads_all, reads_left_at, searches_all, searches_left}
use Rattle.series_marks.specs.Reads.{Reached}
use Rattle.step_batch.specs.Lent.{IsLater, Lent, stage_of, stages}
use Rattle.step_batch.specs.LentWindows.{TimesRise}
use Rattle.step_batch.specs.declared.steps.PlacedStep.{PlacedStep}
use Rattle.step_table.specs.Groups.{Names}
use Rattle.step_table.specs.Timed.{StepAt, steps_over}
use Rattle.ticks.specs.declared.moment.Ms.{Ms}
use Rattle.ticks.specs.declared.walk.WalkMoment.{WalkMoment}
use Rattle.op_window.specs.Rules.{HasScalars, ScalarsAt, fed_by, takes_scalar}
use Rattle.op_window.specs.Sliding.{walked_of}

-- ---- the instants that are left

-- instants that rise, behind those of a buffer
abbrev pub InstantsFrom : Lent → List Ms → Type 0
InstantsFrom lent [] = ⊤
InstantsFrom lent (t ∷ ts) = IsLater lent t × TimesRise (t ∷ ts)

pub left_at : {A : Type 0} (at : List A) (i : ℕ) (d : A) → i < length at → drop i at ≡ get_or at i d ∷ drop (i + 1) at
left_at [] i d h = absurd (omega arith)
left_at (t ∷ at) zero d h = refl
left_at (t ∷ at) (suc i) d h = let e : suc i + 1 ≡ suc (i + 1) = omega arith in rw e (left_at at i d (omega arith))

pub soon_at : (back : ℤ) (reached : Reached) (moment : WalkMoment) (at : List Ms) (i : ℕ) (d : Ms) → i < length at → Follow back reached moment (drop i at) → IsSoon back reached moment (get_or at i d)
soon_at back reached moment at i d h f = (subst (Follow back reached moment) (left_at at i d h) f).0

pub follow_at : (back : ℤ) (reached : Reached) (moment : WalkMoment) (at : List Ms) (i : ℕ) (d : Ms) → i < length at → Follow back reached moment (drop i at) → Follow back (reach back reached moment (get_or at i d)) moment (drop (i + 1) at)
follow_at back reached moment at i d h f = (subst (Follow back reached moment) (left_at at i d h) f).1

pub reach_at : (back : ℤ) (reached : Reached) (moment : WalkMoment) (at : List Ms) (i : ℕ) (d : Ms) → i < length at
    → reach_all back (reach back reached moment (get_or at i d)) moment (drop (i + 1) at) ≡ reach_all back reached moment (drop i at)
reach_at back reached moment at i d h = ap (reach_all back reached moment) (sym (left_at at i d h))

pub later_at : (lent : Lent) (at : List Ms) (i : ℕ) (d : Ms) → i < length at → InstantsFrom lent (drop i at) → IsLater lent (get_or at i d)
later_at lent at i d h f = (subst (InstantsFrom lent) (left_at at i d h) f).0

next_from : (now : Lent) (t : Ms) (ts : List Ms) → TimesRise (t ∷ ts) → ((u : Ms) → t.0 <ℤ u.0 → IsLater now u) → InstantsFrom now ts
next_from now t [] r l = tt
next_from now t (u ∷ ts) r l = (l u r.0, r.1)

pub instants_at : (was now : Lent) (at : List Ms) (i : ℕ) (d : Ms) → i < length at → InstantsFrom was (drop i at) → ((u : Ms) → (get_or at i d).0 <ℤ u.0 → IsLater now u) → InstantsFrom now (drop (i + 1) at)
instants_at was now at i d h f l = next_from now (get_or at i d) (drop (i + 1) at) ((subst (InstantsFrom was) (left_at at i d h) f).1) l

-- ---- the steps that are read

stage_there : (labels : List Names) (at : List Ms) (steps : List PlacedStep) (i : ℕ) (d : Ms) → ScalarsAt at steps → i < length at → (s : StepAt) × (slice_get (map (stage_of labels) steps) i ≡ Some s) × (s.at ≡ get_or at i d)
stage_there labels [] steps i d h l = absurd (omega arith)
stage_there labels (t ∷ at) [] i d h l = absurd h
stage_there labels (t ∷ at) (s ∷ steps) zero d h l = (stage_of labels s, refl, h.0)
stage_there labels (t ∷ at) (s ∷ steps) (suc i) d h l = stage_there labels at steps i d h.2 (omega arith)

bare_there : (at : List Ms) (i : ℕ) (d : Ms) → i < length at → (s : StepAt) × (slice_get (steps_over (λ t. barren no_marks) at) i ≡ Some s) × (s.at ≡ get_or at i d)
bare_there [] i d l = absurd (omega arith)
bare_there (t ∷ at) zero d l = (record { at = t; step = barren no_marks }, refl, refl)
bare_there (t ∷ at) (suc i) d l = bare_there at i d (omega arith)

-- at each instant there is one
pub fed_there : (f : Window) (at : List Ms) (given : Lent) (i : ℕ) (d : Ms) → HasScalars f at given → i < length at → (s : StepAt) × (slice_get (fed_by f at (stages given)) i ≡ Some s) × (s.at ≡ get_or at i d)
fed_there f at given i d h l =
    elim (takes_scalar f) as (λ b. takes_scalar f ≡ b → (s : StepAt) × (slice_get (if b then stages given else steps_over (λ t. barren no_marks) at) i ≡ Some s) × (s.at ≡ get_or at i d)) [
      | true ↦ λ e. stage_there given.labels at given.steps i d (h e) l
      | false ↦ λ e. bare_there at i d l
    ] refl

stages_length : (labels : List Names) (at : List Ms) (steps : List PlacedStep) → ScalarsAt at steps → length (map (stage_of labels) steps) ≡ length at
stages_length labels [] [] h = refl
stages_length labels [] (s ∷ steps) h = absurd h
stages_length labels (t ∷ at) [] h = absurd h
stages_length labels (t ∷ at) (s ∷ steps) h = ap suc (stages_length labels at steps h.2)

bare_length : (at : List Ms) → length (steps_over (λ t. barren no_marks) at) ≡ length at
bare_length [] = refl
bare_length (t ∷ at) = ap suc (bare_length at)

fed_length : (f : Window) (at : List Ms) (given : Lent) → HasScalars f at given → length (fed_by f at (stages given)) ≡ length at
fed_length f at given h =
    elim (takes_scalar f) as (λ b. takes_scalar f ≡ b → length (if b then stages given else steps_over (λ t. barren no_marks) at) ≡ length at) [
      | true ↦ λ e. stages_length given.labels at given.steps (h e)
      | false ↦ λ e. bare_length at
    ] refl

pub take_all : {A : Type 0} (xs : List A) (n : ℕ) → length xs ≤ n → take n xs ≡ xs
take_all [] zero h = refl
take_all [] (suc n) h = refl
take_all (x ∷ xs) zero h = absurd (omega arith)
take_all (x ∷ xs) (suc n) h = ap (λ r. x ∷ r) (take_all xs n (omega arith))

pub fed_all : (f : Window) (at : List Ms) (given : Lent) (n : ℕ) → HasScalars f at given → length at ≤ n → take n (fed_by f at (stages given)) ≡ fed_by f at (stages given)
fed_all f at given n h l = let e = fed_length f at given h in take_all (fed_by f at (stages given)) n (omega arith)

-- one step more
pub steps_more : (R : StepAt → StepAt) (fed : List StepAt) (i : ℕ) (s : StepAt) → slice_get fed i ≡ Some s → map R (take i fed) ++ R s ∷ [] ≡ map R (take (i + 1) fed)
steps_more R [] i s e = absurd (cc)
steps_more R (x ∷ fed) zero s e = let k : x ≡ s = cc in ap (λ (z : StepAt). R z ∷ []) (sym k)
steps_more R (x ∷ fed) (suc i) s e = let k : suc i + 1 ≡ suc (i + 1) = omega arith in rw k (ap (λ (r : List StepAt). R x ∷ r) (steps_more R fed i s e))

-- ---- what is read, where the kernel's parts are those that it had at first

pub reads_left_in : (range kept : Ms) (store : AllSeries) (series here : List ℕ) (start reached end : Reached) (moment held : WalkMoment) (at : List Ms) (i : ℕ) (d : Ms) (now was begin : ℕ) → kept ≡ range → here ≡ series → held ≡ moment → i < length at
    → Follow range.0 reached moment (drop i at) → reach_all range.0 reached moment (drop i at) ≡ end → was + reads_of start store series ≤ begin + reads_of reached store series
    → now + reads_of reached store here ≤ was + reads_of (reach kept.0 reached held (get_or at i d)) store here → now + reads_of start store series ≤ begin + reads_of end store series
reads_left_in range kept store series here start reached end moment held at i d now was begin k p q h f e a b =
    reads_left_at range.0 store series here start reached end moment held at i d now was begin p q h f e a
    (subst (λ (r : Ms). now + reads_of reached store here ≤ was + reads_of (reach r.0 reached held (get_or at i d)) store here) k b)

pub searches_left_in : (range kept : Ms) (series here : List ℕ) (start reached end : Reached) (moment held : WalkMoment) (at : List Ms) (i : ℕ) (d : Ms) (now was begin : ℕ) → kept ≡ range → here ≡ series → held ≡ moment → i < length at
    → reach_all range.0 reached moment (drop i at) ≡ end → was + searches_of start series ≤ begin + searches_of reached series
    → now + searches_of reached here ≤ was + searches_of (reach kept.0 reached held (get_or at i d)) here → now + searches_of start series ≤ begin + searches_of end series
searches_left_in range kept series here start reached end moment held at i d now was begin k p q h e a b =
    searches_left range.0 series here start reached end moment held at i d now was begin p q h e a
    (subst (λ (r : Ms). now + searches_of reached here ≤ was + searches_of (reach r.0 reached held (get_or at i d)) here) k b)

pub reads_next : (store : AllSeries) (series here : List ℕ) (start reached fresh on : Reached) (now was begin : ℕ) → here ≡ series → fresh ≡ on → was + reads_of start store series ≤ begin + reads_of reached store series
    → now + reads_of reached store here ≤ was + reads_of on store here → now + reads_of start store series ≤ begin + reads_of fresh store series
reads_next store series here start reached fresh on now was begin p e a b =
    let c : now + reads_of reached store series ≤ was + reads_of on store series = subst (λ (xs : List ℕ). now + reads_of reached store xs ≤ was + reads_of on store xs) p b in
    let d : reads_of fresh store series ≡ reads_of on store series = ap (λ (r : Reached). reads_of r store series) e in
    omega (arith, a, c, d)

pub searches_next : (series here : List ℕ) (start reached fresh on : Reached) (now was begin : ℕ) → here ≡ series → fresh ≡ on → was + searches_of start series ≤ begin + searches_of reached series
    → now + searches_of reached here ≤ was + searches_of on here → now + searches_of start series ≤ begin + searches_of fresh series
searches_next series here start reached fresh on now was begin p e a b =
    let c : now + searches_of reached series ≤ was + searches_of on series = subst (λ (xs : List ℕ). now + searches_of reached xs ≤ was + searches_of on xs) p b in
    let d : searches_of fresh series ≡ searches_of on series = ap (λ (r : Reached). searches_of r series) e in
    omega (arith, a, c, d)

pub reads_stay : (back : ℤ) (store : AllSeries) (series : List ℕ) (start reached end : Reached) (moment : WalkMoment) (rest : List Ms) (now begin : ℕ) → Follow back reached moment rest → reach_all back reached moment rest ≡ end
    → now + reads_of start store series ≤ begin + reads_of reached store series → now + reads_of start store series ≤ begin + reads_of end store series
reads_stay back store series start reached end moment rest now begin f e a =
    let b = reads_all back store series reached moment rest f in
    let c : reads_of (reach_all back reached moment rest) store series ≡ reads_of end store series = ap (λ (r : Reached). reads_of r store series) e in
    omega (arith, a, b, c)

pub searches_stay : (back : ℤ) (series : List ℕ) (start reached end : Reached) (moment : WalkMoment) (rest : List Ms) (now begin : ℕ) → reach_all back reached moment rest ≡ end
    → now + searches_of start series ≤ begin + searches_of reached series → now + searches_of start series ≤ begin + searches_of end series
searches_stay back series start reached end moment rest now begin e a =
    let b = searches_all back series reached moment rest in
    let c : searches_of (reach_all back reached moment rest) series ≡ searches_of end series = ap (λ (r : Reached). searches_of r series) e in
    omega (arith, a, b, c)

pub reach_same : (range kept : Ms) (reached : Reached) (moment held : WalkMoment) (t : Ms) → kept ≡ range → held ≡ moment → reach kept.0 reached held t ≡ reach range.0 reached moment t
reach_same range kept reached moment held t k q = ap (λ (r : Ms). reach r.0 reached held t) k ∙ ap (λ (m : WalkMoment). reach range.0 reached m t) q

pub walked_same : (range kept : Ms) (moment held : WalkMoment) (reached : Reached) (store : AllSeries) (series here : List ℕ) → kept ≡ range → held ≡ moment → here ≡ series
    → walked_of held.closed kept.0 reached store here ≡ walked_of moment.closed range.0 reached store series
walked_same range kept moment held reached store series here k q p =
    ap (λ (r : Ms). walked_of held.closed r.0 reached store here) k ∙ ap (λ (m : WalkMoment). walked_of m.closed range.0 reached store here) q ∙ ap (walked_of moment.closed range.0 reached store) p

pub edge_same : (range kept : Ms) (moment held : WalkMoment) (reached : Reached) → kept ≡ range → held ≡ moment → IsReached held.closed kept.0 reached → IsReached moment.closed range.0 reached
edge_same range kept moment held reached k q h =
    subst (λ (m : WalkMoment). IsReached m.closed range.0 reached) q (subst (λ (r : Ms). IsReached held.closed r.0 reached) k h)
