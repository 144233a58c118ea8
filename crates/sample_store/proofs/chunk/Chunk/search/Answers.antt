use Rattle.std.proofs.Common.{ℕ, List, ◌≡◌, ◌<◌, ◌-◌, length, rules, subst, sym, ap, ◌∙◌}
use Rattle.std.specs.List.{zip}
use Rattle.std.specs.List.Sorted.{IsBinarySearchResult, IsSearchInRange}
use Rattle.std.specs.Map.{keys_of}
use Rattle.ticks.specs.declared.moment.Ms.{Ms}
use Rattle.sample_store.specs.Samples.{IsTimeGapAt, time_cmp}
use Rattle.sample_store.proofs.Columns.{sample_at}
use Rattle.sample_store.proofs.Halves.{past-last}
use Rattle.sample_store.proofs.Searches.{keys_zipped, searched}
use Rattle.sample_store.proofs.chunk.Chunk.search.Goals as goal

pub returns-then-time-at : goal.returns-then-time-at
returns-then-time-at c =
    let n = length c.args.self.now in
    let some : 0 < n = search rules in
    let h = sample_at c.args.self.now (n - 1) c.time.result (search rules) in
    subst (λ (z : ℕ). IsTimeGapAt c.args.self.now c.args.at z) (sym c.len-count.ensures)
    (past-last c.args.self.now c.args.at (c.time.result, h.0) c.requires some h.1 (search rules))

pub returns : goal.returns
returns c =
    let times = c.self.inside.times in
    let values = c.self.inside.values in
    let even : length times ≡ length values = c.self.invariant in
    let view : zip times values ≡ c.args.self.now = cc in
    let r = c.binary_search.result in
    let keys : c.as_slice.result.now ≡ keys_of c.args.self.now = c.as_slice.ensures ∙ sym (keys_zipped times values even) ∙ ap keys_of view in
    searched c.args.self.now c.args.at c.requires r (subst (λ (ts : List Ms). IsSearchInRange r (length ts)) keys c.binary_search.ensures.bound)
    (subst (λ (ts : List Ms). IsBinarySearchResult (λ y. time_cmp y c.args.at) ts r) keys c.binary_search.ensures.position)
