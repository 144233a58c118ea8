use Rattle.std.proofs.Common.{◌≡◌, ◌∙◌, ◌<◌, ◌≤◌, List, arith, length, ap, subst, sym}
use Rattle.std.specs.List.{AllByRecursion}
use Rattle.std.specs.List.Sorted.{IsPermutation}
use Rattle.op_rank.specs.ValueCounts.{has_lost, rolled_out, rows_in, rows_in_runs, runs_under}
use Rattle.op_rank.specs.declared.entries.Entry.{Entry}
use Rattle.op_rank.specs.declared.value_counts.Run.{Run}
use Rattle.op_rank.proofs.Runs.{counts_within, runs_within, same_count}
use Rattle.op_rank.proofs.value_counts.Tally.take.Goals as goal

pub count_runs-requires : goal.count_runs-requires
count_runs-requires c =
    runs_within _ c.args.counting.now.places.now c.args.slots.now c.list.new.entries.items c.sort_values.new.entries.items c.as_slice-2.result.now c.requires.within c.requires.slots c.in_ok-list.ensures.list c.sort_values.ensures
    (ap rolled_out c.as_slice-2.ensures.value ∙ c.in_ok-find_runs.ensures.all ∙ c.as_slice.ensures.value)
    (subst (AllByRecursion (λ (r : Run). 0 < r.rows)) (sym c.as_slice-2.ensures.value) c.in_ok-find_runs.ensures.some)

pub returns-clause-tallied : goal.returns-clause-tallied
returns-clause-tallied c =
    let counting = c.args.counting.now in
    let runs = c.find_runs.new.runs.items in
    let found = c.count_runs.new.counts.items in
    let counts = c.sort_counts.new.counts.items in
    let all : rolled_out runs ≡ c.sort_values.new.entries.items = c.in_ok-find_runs.ensures.all ∙ c.as_slice.ensures.value in
    let same : rows_in found ≡ rows_in counts = same_count found counts c.sort_counts.ensures.moved in
    let most : rows_in_runs c.as_slice-2.result.now ≡ rows_in_runs runs = ap rows_in_runs c.as_slice-2.ensures.value in
    let few : rows_in found ≤ rows_in_runs c.as_slice-2.result.now = c.in_ok-lost.ensures.few in
    record {
      runs = runs;
      moved = subst (λ (z : List Entry). IsPermutation z (rolled_out runs)) c.in_ok-list.ensures.list (subst (IsPermutation c.list.new.entries.items) (sym all) c.sort_values.ensures);
      some = c.in_ok-find_runs.ensures.some;
      found = found;
      under = c.in_ok-lost.ensures.counts ∙ ap (runs_under counting) c.as_slice-2.ensures.value;
      sorted = c.sort_counts.ensures.moved;
      some_lost = c.in_ok-lost.ensures.lost ∙ ap (has_lost counting) c.as_slice-2.ensures.value;
      rise = c.sort_counts.ensures.rise;
      within = counts_within (length c.count_runs.new.made.labels) found counts c.sort_counts.ensures.moved c.in_ok-lost.ensures.within;
      few = omega (arith, same, most, few, c.in_ok-find_runs.ensures.few);
    }
