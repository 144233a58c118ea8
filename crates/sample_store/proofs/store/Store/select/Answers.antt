use Rattle.std.proofs.Common.{◌≡◌, ℕ, List, subst}
use Rattle.std.specs.List.{filter_map}
use Rattle.std.specs.Prelude.{slice_get}
use Rattle.std.proofs.lemmas.Result.{IfOk-weaker}
use Rattle.label_set.specs.declared.rules.Rule.{Rule}
use Rattle.sample_store.specs.Samples.{AllSeries, IsSelected, chosen}
use Rattle.sample_store.proofs.Chosen.{chosen_by}
use Rattle.sample_store.proofs.store.Store.select.Goals as goal

pub returns-clause-chosen : goal.returns-clause-chosen
returns-clause-chosen g c =
    let kept = c.args.patterns.now in
    let entries = c.self.inside.series.entries in
    let view : entries ≡ c.args.self.now = cc in
    let P : List Rule → AllSeries → List ℕ → Type 0 = λ rs all places. filter_map (slice_get all) places ≡ chosen kept rs all in
    IfOk-weaker c.places_of.result (IsSelected kept c.as_slice.result.now entries) (P c.args.rules.now c.args.self.now)
    (λ places s. subst (λ all. P c.args.rules.now all places) view (subst (λ rs. P rs entries places) c.as_slice.ensures (chosen_by kept c.as_slice.result.now entries places c.self.invariant.distinct s)))
    c.places_of.ensures.selected
