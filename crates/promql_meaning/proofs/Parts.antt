-- topk and bottomk give a part of the vector.
use Rattle.std.proofs.Common.{◌≡◌, ℕ, Bool, false, List, [], ◌∷◌, refl, None, Some}
use Rattle.std.specs.Prelude.{Option, filter}
use Rattle.label_set.specs.declared.rules.Grouping.{Grouping}
use Rattle.step_table.specs.declared.step.Row.{Row}
use Rattle.step_table.specs.declared.step.Step.{Step}
use Rattle.promql_meaning.specs.Laws.{RanksArePart}
use Rattle.promql_meaning.specs.Ranks.{is_ranked, rank_count, ranked_to}

nothing : (rows : List Row) → [] ≡ filter (λ (row : Row). false) rows
nothing [] = refl
nothing (row ∷ rows) = nothing rows

part_to : (down : Bool) (by : Grouping) (v : Step) (count : Option ℕ) → (wanted : Row → Bool) × ((ranked_to down by v count).table.rows ≡ filter wanted v.table.rows)
part_to down by v None = (λ row. false, nothing v.table.rows)
part_to down by v (Some k) = (is_ranked down by k v.table.rows, refl)

pub ranks_part : RanksArePart
ranks_part down by arg v = part_to down by v (rank_count arg)
