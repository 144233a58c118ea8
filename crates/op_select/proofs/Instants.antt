-- The step of an instant.
use Rattle.std.proofs.Common.{◌≡◌, ◌∙◌, ◌++◌, ◌∷◌, [], List, Some, sym, ap, subst}
use Rattle.std.specs.Prelude.{ℕ, ℤ, ◌<ℤ◌, Bool}
use Rattle.std.specs.List.{filter_map}
use Rattle.sample_store.specs.Samples.{AllSeries, Names}
use Rattle.series_marks.specs.Reads.{AreRising, IsNoEarlier, Reached, edge_of}
use Rattle.step_batch.specs.Lent.{IsLater, Lent, no_marks, step_of}
use Rattle.step_batch.specs.LentWindows.{TimesRise}
use Rattle.step_table.specs.Timed.{StepAt}
use Rattle.ticks.specs.Walks.{moment_at}
use Rattle.ticks.specs.declared.moment.Ms.{Ms}
use Rattle.ticks.specs.declared.walk.WalkMoment.{WalkMoment}
use Rattle.xfrac.specs.declared.value.XFrac.{XFrac}
use Rattle.promql_meaning.specs.Selecting.{lookback}
use Rattle.series_marks.specs.Reaches.{IsReached, window_edge}
use Rattle.series_marks.specs.Spent.{edge_early}
use Rattle.op_select.specs.Newest.{InstantsFrom, entry_shown, selected}
use Rattle.op_select.proofs.More.{all_alike}
use Rattle.op_select.proofs.Shows.{entry_is, newest_entry, numbered_rows}

-- ---- the rows

entries_newest : (store : AllSeries) (series : List ℕ) (stamped closed : Bool) (reached : Reached) (edge m : Ms) → AreRising store → edge.0 ≡ window_edge closed lookback m.0 → IsReached closed lookback reached → IsNoEarlier reached m
    → filter_map (entry_shown store stamped (Some (edge_of reached edge, m)) edge.0) series ≡ filter_map (newest_entry store stamped closed m.0) series
entries_newest store series stamped closed reached edge m rises e r n =
    let early = edge_early closed lookback reached edge m e r n in
    all_alike (entry_shown store stamped (Some (edge_of reached edge, m)) edge.0) (newest_entry store stamped closed m.0) series (λ s.
    subst (λ (d : ℤ). entry_shown store stamped (Some (edge_of reached edge, m)) d s ≡ newest_entry store stamped closed m.0 s) (sym e)
    (entry_is store stamped closed (edge_of reached edge).0 m.0 s (rises s) early))

pub stage_selected : (store : AllSeries) (series xs : List ℕ) (moment : WalkMoment) (stamped : Bool) (reached : Reached) (edge m t : Ms) (front now : List StepAt) → AreRising store → edge ≡ record { 0 = window_edge moment.closed lookback m.0 }
    → m ≡ record { 0 = moment_at moment t.0 } → xs ≡ series → IsReached moment.closed lookback reached → IsNoEarlier reached (record { 0 = moment_at moment t.0 })
    → now ≡ front ++ record { at = t; step = step_of (filter_map (entry_shown store stamped (Some (edge_of reached edge, m)) edge.0) xs) no_marks } ∷ []
    → now ≡ front ++ selected store series moment stamped t ∷ []
stage_selected store series xs moment stamped reached edge m t front now rises at is same r n made =
    let c = moment.closed in
    let soon : IsNoEarlier reached m = subst (λ (x : Ms). IsNoEarlier reached x) (sym is) n in
    made ∙ ap (λ (es : List (Names × XFrac)). front ++ record { at = t; step = step_of es no_marks } ∷ [])
    (entries_newest store xs stamped c reached edge m rises (ap (λ (x : Ms). x.0) at) r soon
    ∙ ap (λ (x : Ms). filter_map (newest_entry store stamped c x.0) xs) is
    ∙ ap (filter_map (newest_entry store stamped c (moment_at moment t.0))) same
    ∙ numbered_rows store stamped c (moment_at moment t.0) series)

pub instants_next : (now : Lent) (t : Ms) (ts : List Ms) → TimesRise (t ∷ ts) → ((u : Ms) → t.0 <ℤ u.0 → IsLater now u) → InstantsFrom now ts
instants_next now t [] r l = tt
instants_next now t (u ∷ ts) r l = (l u r.0, r.1)
