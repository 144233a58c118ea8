-- Groups as they are kept for topk and bottomk: the rows of each by value. (This project's own.)
use Rattle.std.specs.Prelude.{◌≡◌, ℕ, zero, suc, Bool, true, false, not, List, [], ◌∷◌, map, count_by, unwrap_or, Option, None, Some, slice_get, ⊤}
use Rattle.std.specs.List.{AllByRecursion}
use Rattle.std.specs.BTreeMap.{is_at}
use Rattle.std.specs.Map.{lookup}
use Rattle.label_set.specs.Labels.{labels_cmp}
use Rattle.label_set.specs.declared.rules.Grouping.{Grouping}
use Rattle.xfrac.specs.Laws.{IsNumber}
use Rattle.step_table.specs.Groups.{Names}
use Rattle.step_table.specs.declared.step.Row.{Row}
use Rattle.promql_meaning.specs.Ranks.{comes_before, is_ranked, kept_labels}
use denote.Ref.{Bor}

-- the rows that references point to
abbrev pub seen : List (Bor Row) → List Row
seen rows = map (λ (row : Bor Row). row.now) rows

-- whether the row at a place, if there is one, doesn't come before a row
abbrev pub is_not_behind : Bool → Option Row → Row → Bool
is_not_behind down None row = true
is_not_behind down (Some bound) row = not (comes_before down bound row)

-- whether a row is one of the first k of a group by value: it is no later than the k-th, or there are fewer
abbrev pub is_among : Bool → ℕ → List Row → Row → Bool
is_among down zero group row = false
is_among down (suc k) group row = is_not_behind down (slice_get group k) row

-- the group of some labels, of no rows where there is none
abbrev pub group_in : List (Names × List (Bor Row)) → Names → List Row
group_in groups names = seen (unwrap_or (lookup (is_at (labels_cmp names)) groups) [])

-- references, each beside the labels of its row's group
abbrev pub grouped_refs : Grouping → List (Bor Row) → List (Names × Bor Row)
grouped_refs by refs = map (λ (row : Bor Row). (kept_labels by row.now.labels, row)) refs

-- no later row comes before an earlier one
abbrev pub Rises : Bool → List (Bor Row) → Type 0
Rises down [] = ⊤
Rises down (row ∷ rows) = AllByRecursion (λ (other : Bor Row). comes_before down other.now row.now ≡ false) rows × Rises down rows

abbrev pub AreNumbers : List (Bor Row) → Type 0
AreNumbers rows = AllByRecursion (λ (row : Bor Row). IsNumber row.now.value) rows

-- references to some rows in the order by value
pub record IsByValue (down : Bool) (rows : List Row) (refs : List (Bor Row)) : Type 0 where
  pub numbers : AreNumbers refs
  pub rises : Rises down refs
  pub counts : (p : Row → Bool) → count_by (λ (row : Bor Row). p row.now) refs ≡ count_by p rows

-- groups tell of each row whose value is a number whether fewer than k rows of its group come before it
pub record AreRanked (down : Bool) (by : Grouping) (rows : List Row) (groups : List (Names × List (Bor Row))) : Type 0 where
  pub told : (k : ℕ) (row : Row) → IsNumber row.value → is_among down k (group_in groups (kept_labels by row.labels)) row ≡ is_ranked down by k rows row
