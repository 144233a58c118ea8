-- A leaf over the series that a selector chooses costs what the selector does.
use Rattle.std.proofs.Common.{◌≡◌, ◌∙◌, ℕ, zero, suc, ◌+◌, ◌*◌, ◌<◌, List, [], ◌∷◌, length, Option, Some, refl, sym, ap, arith}
use Rattle.std.specs.Prelude.{slice_get, sum_by, unwrap_or}
use Rattle.std.specs.Option.{option_map}
use Rattle.std.proofs.lemmas.List.Sums.{sum_by-cons}
use Rattle.promql_meaning.specs.Selecting.{AllSeries, Samples, passing}
use Rattle.promql_meaning.specs.WalkMoments.{WalkMomentIsMoment}
use Rattle.sample_store.specs.Samples.{samples_at}
use Rattle.series_marks.specs.Reaches.{AreThere, edge_at, fetched_bound, last_instant, numbered, window_edge}
use Rattle.series_marks.specs.Reads.{span_bound}
use Rattle.step_table.specs.Groups.{Names}
use Rattle.ticks.specs.Walks.{moment_at}
use Rattle.ticks.specs.declared.moment.Ms.{Ms}
use Rattle.plan_work.specs.PlanBounds.{fetched_by}
use Rattle.plan_work.specs.PlanLaws.{LeavesCostAsSelectors}

-- a number of the store's has a series
pub there : (store : AllSeries) (s : ℕ) → s < length store → (one : Names × Samples) × (slice_get store s ≡ Some one)
there [] s h = absurd (omega arith)
there (one ∷ store) zero h = (one, refl)
there (one ∷ store) (suc s) h = there store s (omega arith)

module _ (g : Samples → ℕ) (store : AllSeries) where
  -- what is summed of a series, by its number and by itself
  abbrev by_number : ℕ → ℕ
  by_number s = g (samples_at store s)

  abbrev by_series : Names × Samples → ℕ
  by_series one = g one.1

  one_more : (s : ℕ) (series : List ℕ) (one : Names × Samples) → slice_get store s ≡ Some one → sum_by by_number series ≡ sum_by by_series (numbered store series)
      → sum_by by_number (s ∷ series) ≡ sum_by by_series (numbered store (s ∷ series))
  one_more s series one is rest =
      let here : samples_at store s ≡ one.1 = ap (λ (o : Option (Names × Samples)). unwrap_or (option_map (λ (z : Names × Samples). z.1) o) []) is in
      let list : numbered store (s ∷ series) ≡ one ∷ numbered store series = rw is refl in
      sum_by-cons by_number s series
      ∙ (λ j. g (here j) + rest j)
      ∙ sym (sum_by-cons by_series one (numbered store series))
      ∙ ap (sum_by by_series) (sym list)

  pub sum_numbered : (series : List ℕ) → AreThere store series → sum_by by_number series ≡ sum_by by_series (numbered store series)
  sum_numbered [] a = refl
  sum_numbered (s ∷ series) a = let one = there store s a.0 in one_more s series one.0 one.1 (sum_numbered series a.1)

pub length_numbered : (store : AllSeries) (series : List ℕ) → AreThere store series → length series ≡ length (numbered store series)
length_numbered store [] a = refl
length_numbered store (s ∷ series) a =
    let one = there store s a.0 in
    let list : numbered store (s ∷ series) ≡ one.0 ∷ numbered store series = (let is = one.1 in rw is refl) in
    ap suc (length_numbered store series a.1) ∙ ap length (sym list)

pub leaves_cost : WalkMomentIsMoment → LeavesCostAsSelectors
leaves_cost law back asked rules moment own series at there chosen of closed =
    λ j. record { fetched = by_times at j; probed = 64 * counted j }
  where
    counted : length series ≡ length (passing asked.samples asked.kept rules)
    counted = length_numbered asked.samples series there ∙ ap length chosen

    by_times : (at : List Ms) → fetched_bound back asked.samples series own at ≡ fetched_by back asked rules moment at
    by_times [] = refl
    by_times (t ∷ at) =
        let last = last_instant t at in
        let g : Samples → ℕ = λ samples. span_bound (edge_at back own t).0 (moment_at own last.0) samples in
        sum_numbered g asked.samples series there
        ∙ (λ j. sum_by (λ (s : Names × Samples). span_bound (window_edge (closed j) back (law asked moment own t.0 of j)) (law asked moment own last.0 of j) s.1) (chosen j))
