-- What was given, instant by instant.
use Rattle.std.proofs.Common.{◌≡◌, ◌∙◌, ℕ, ◌+◌, ◌∷◌, [], List, Some, sym, ap, subst, arith}
use Rattle.std.specs.Prelude.{ℤ}
use Rattle.promql_meaning.specs.Selecting.{lookback}
use Rattle.sample_store.specs.Samples.{AllSeries}
use Rattle.series_marks.specs.Picks.{BeginsAt, BeginsWith, picks_of}
use Rattle.series_marks.specs.Reaches.{edge_at, moment_of, reach, window_edge}
use Rattle.series_marks.specs.Reads.{Reached, edge_of}
use Rattle.ticks.specs.Walks.{moment_at}
use Rattle.ticks.specs.declared.moment.Ms.{Ms}
use Rattle.ticks.specs.declared.walk.WalkMoment.{WalkMoment}

pub picks_reach : (store : AllSeries) (series xs : List ℕ) (moment : WalkMoment) (reached : Reached) (edge m t : Ms) (now was : ℕ) → edge ≡ record { 0 = window_edge moment.closed lookback m.0 }
    → m ≡ record { 0 = moment_at moment t.0 } → xs ≡ series
    → ((first : ℤ) → BeginsAt first reached m → now + picks_of first reached store xs ≡ was + picks_of first (Some (edge_of reached edge, m)) store xs)
    → (first : ℤ) → BeginsWith first reached moment (t ∷ []) → now + picks_of first reached store series ≡ was + picks_of first (reach lookback reached moment t) store series
picks_reach store series xs moment reached edge m t now was at is same h =
    let e : edge ≡ edge_at lookback moment t = at ∙ ap (λ (x : Ms). record { 0 = window_edge moment.closed lookback x.0 }) is in
    subst (λ (zs : List ℕ). (first : ℤ) → BeginsWith first reached moment (t ∷ []) → now + picks_of first reached store zs ≡ was + picks_of first (reach lookback reached moment t) store zs) same
    (subst (λ (x : Ms). (first : ℤ) → BeginsAt first reached (moment_of moment t) → now + picks_of first reached store xs ≡ was + picks_of first (Some (edge_of reached x, moment_of moment t)) store xs) e
    (subst (λ (x : Ms). (first : ℤ) → BeginsAt first reached x → now + picks_of first reached store xs ≡ was + picks_of first (Some (edge_of reached edge, x)) store xs) is h))

pub picks_next : (store : AllSeries) (series here : List ℕ) (first : ℤ) (start reached next : Reached) (moment held : WalkMoment) (t : Ms) (now mid was : ℕ) → here ≡ series → held ≡ moment → next ≡ reach lookback reached held t
    → BeginsWith first reached moment (t ∷ []) → mid + picks_of first start store series ≡ was + picks_of first reached store series
    → ((a : ℤ) → BeginsWith a reached held (t ∷ []) → now + picks_of a reached store here ≡ mid + picks_of a (reach lookback reached held t) store here)
    → now + picks_of first start store series ≡ was + picks_of first next store series
picks_next store series here first start reached next moment held t now mid was same held_is is b h step =
    let one = step first (subst (λ (x : WalkMoment). BeginsWith first reached x (t ∷ [])) (sym held_is) b) in
    let two : now + picks_of first reached store here ≡ mid + picks_of first next store here = subst (λ (r : Reached). now + picks_of first reached store here ≡ mid + picks_of first r store here) (sym is) one in
    let three : now + picks_of first reached store series ≡ mid + picks_of first next store series = subst (λ (zs : List ℕ). now + picks_of first reached store zs ≡ mid + picks_of first next store zs) same two in
    omega (arith, h, three)
