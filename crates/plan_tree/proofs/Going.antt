-- Instants that are fed one after another, and where a kernel over the store has come to by them.
use Rattle.std.proofs.Common.{◌≡◌, ◌∙◌, ℕ, zero, suc, ◌+◌, ◌<◌, List, [], ◌∷◌, length, get_or, Option, None, Some, refl, ap, arith}
use Rattle.std.specs.Prelude.{ℤ, ◌≤ℤ◌}
use Rattle.std.specs.List.{AllByRecursion}
use Rattle.std.proofs.lemmas.Int.{ints}
use Rattle.series_marks.specs.Reaches.{Follow, reach, reach_all}
use Rattle.series_marks.specs.Reads.{Reached}
use Rattle.step_batch.specs.LentWindows.{TimesRise}
use Rattle.ticks.specs.Walks.{HasTimes, moment_at}
use Rattle.ticks.specs.declared.moment.Ms.{Ms}
use Rattle.ticks.specs.declared.walk.WalkMoment.{WalkMoment}
use Rattle.plan_tree.specs.declared.turns.Fed.{Fed}
use Rattle.plan_tree.specs.Feeds.{Goes, fed_next, fed_on, once, reached_of}

rises_from : (fed : Fed) (at : List Ms) → Goes (Some fed) at → TimesRise (fed.last ∷ at)
rises_from fed [] g = tt
rises_from fed (t ∷ at) g = (g.0, rises_from (record { first = fed.first; last = t }) at g.1)

pub goes_rise : (fed : Option Fed) (at : List Ms) → Goes fed at → TimesRise at
goes_rise fed [] g = tt
goes_rise None (t ∷ at) g = rises_from (record { first = t; last = t }) at g.1
goes_rise (Some fed) (t ∷ at) g = rises_from (record { first = fed.first; last = t }) at g.1

-- ---- what was fed

pub fed_some : (fed : Fed) (at : List Ms) (n : ℕ) (d : Ms) → n + 1 ≡ length at → fed_on (Some fed) at ≡ Some (record { first = fed.first; last = get_or at n d })
fed_some fed [] n d e = absurd (omega arith)
fed_some fed (t ∷ []) zero d e = refl
fed_some fed (t ∷ []) (suc n) d e = absurd (omega arith)
fed_some fed (t ∷ u ∷ at) zero d e = absurd (omega arith)
fed_some fed (t ∷ u ∷ at) (suc n) d e = fed_some (record { first = fed.first; last = t }) (u ∷ at) n d (omega arith)

pub fed_none : (at : List Ms) (n : ℕ) (d : Ms) → n + 1 ≡ length at → fed_on None at ≡ Some (record { first = get_or at 0 d; last = get_or at n d })
fed_none [] n d e = absurd (omega arith)
fed_none (t ∷ []) zero d e = refl
fed_none (t ∷ []) (suc n) d e = absurd (omega arith)
fed_none (t ∷ u ∷ at) zero d e = absurd (omega arith)
fed_none (t ∷ u ∷ at) (suc n) d e = fed_some (record { first = t; last = t }) (u ∷ at) n d (omega arith)

once_some : (first : Ms) (fed : Fed) (at : List Ms) → once first (fed_on (Some fed) at) ≡ Some (record { first = first; last = first })
once_some first fed [] = refl
once_some first fed (t ∷ at) = once_some first (record { first = fed.first; last = t }) at

pub once_end : (first : Ms) (fed : Option Fed) (at : List Ms) → 0 < length at → once first (fed_on fed at) ≡ Some (record { first = first; last = first })
once_end first fed [] h = absurd (omega arith)
once_end first None (t ∷ at) h = once_some first (record { first = t; last = t }) at
once_end first (Some fed) (t ∷ at) h = once_some first (record { first = fed.first; last = t }) at

-- what holds at each of some instants, the same at all of them
pub at_some : {P : Type 0} (at : List Ms) → 0 < length at → AllByRecursion (λ (t : Ms). P) at → P
at_some [] h a = absurd (omega arith)
at_some (t ∷ at) h a = a.0

-- ---- how far a kernel over the store has come

moments_by : (fixed : Option Ms) (offset : Ms) (closed : Rattle.std.specs.Prelude.Bool) (s t : ℤ) → s ≤ℤ t
    → moment_at (record { fixed = fixed; offset = offset; closed = closed }) s ≤ℤ moment_at (record { fixed = fixed; offset = offset; closed = closed }) t
moments_by None offset closed s t h = grind (arith, ints, h)
moments_by (Some f) offset closed s t h = grind (arith, ints)

pub moments_rise : (moment : WalkMoment) (s t : ℤ) → s ≤ℤ t → moment_at moment s ≤ℤ moment_at moment t
moments_rise moment s t h = moments_by moment.fixed moment.offset moment.closed s t h

reach_next : (back : ℤ) (moment : WalkMoment) (fed : Option Fed) (t : Ms) → reach back (reached_of back moment fed) moment t ≡ reached_of back moment (fed_next fed t)
reach_next back moment None t = refl
reach_next back moment (Some fed) t = refl

pub goes_follow : (back : ℤ) (moment : WalkMoment) (fed : Option Fed) (at : List Ms) → Goes fed at → AllByRecursion (λ (t : Ms). HasTimes (moment_at moment t.0) back) at → Follow back (reached_of back moment fed) moment at
goes_follow back moment fed [] g a = tt
goes_follow back moment None (t ∷ at) g a = ((tt, a.0.ends, a.0.begins), goes_follow back moment (fed_next None t) at g.1 a.1)
goes_follow back moment (Some fed) (t ∷ at) g a =
    let h : fed.last.0 ≤ℤ t.0 = (let k = g.0 in grind (arith, ints, k)) in
    ((moments_rise moment fed.last.0 t.0 h, a.0.ends, a.0.begins), goes_follow back moment (fed_next (Some fed) t) at g.1 a.1)

pub reach_end : (back : ℤ) (moment : WalkMoment) (fed : Option Fed) (at : List Ms) → reach_all back (reached_of back moment fed) moment at ≡ reached_of back moment (fed_on fed at)
reach_end back moment fed [] = refl
reach_end back moment fed (t ∷ at) = ap (λ (r : Reached). reach_all back r moment at) (reach_next back moment fed t) ∙ reach_end back moment (fed_next fed t) at
