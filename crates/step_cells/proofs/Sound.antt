-- The cells that an engine owes of numbers are sound.
use Rattle.std.proofs.Common.{refl, Bool, true, false, List, [], ◌∷◌, map, Some, None}
use Rattle.std.specs.Prelude.{Option, IfSome, if◌then◌else◌}
use Rattle.std.specs.List.{AllByRecursion, cons_option, filter_map}
use Rattle.std.specs.List.Sorted.{IsStrictlySortedBy}
use Rattle.std.specs.Option.{option_map}
use Rattle.std.proofs.lemmas.List.Elements.{All-from_recursion}
use Rattle.func_table.specs.declared.table.Aggregate.{Aggregate}
use Rattle.func_table.specs.declared.table.Aggregate.TheVariants.{Sum, Avg, Min, Max, Count, Group, Stdvar, TopK, BottomK, Quantile, CountValues}
use Rattle.xfrac.specs.Laws.{IsNumber}
use Rattle.xfrac.specs.Sums.{fits, totals}
use Rattle.xfrac.specs.declared.value.XFrac.{XFrac}
use Rattle.step_table.specs.Groups.{Names, gathered, items_of, names_among}
use Rattle.step_table.specs.KeySets.{sorted_set}
use Rattle.step_table.specs.Laws.{UnionIsSet}
use Rattle.step_table.specs.OrderLaws.{mark_cmp_ties, mark_cmp_total}
use Rattle.step_table.specs.Orders.{mark_cmp}
use Rattle.step_table.specs.Unions.{set_of}
use Rattle.step_table.specs.WellFormed.{AreSets}
use Rattle.step_table.specs.declared.cells.Cell.{Cell}
use Rattle.step_table.specs.declared.cells.Cell.TheVariants as cell
use Rattle.step_table.specs.declared.cells.CellRow.{CellRow}
use Rattle.step_table.specs.declared.marks.Mark.{Mark}
use Rattle.promql_meaning.specs.Aggregations.{keyed_values}
use Rattle.step_cells.specs.CellLaws.{IsSound, OwedIsSound}
use Rattle.step_cells.specs.Owed.{group_cell, lost_mark, partial_cell}
use Rattle.step_cells.proofs.Extremes.{greatest_number, least_number}
use Rattle.step_cells.proofs.Merges.{AreNumbers}
use Rattle.step_cells.proofs.Orders.{values_in_groups}
use Rattle.step_cells.proofs.SameNames.{each_under}

sum_sound : (xs : List XFrac) → AreNumbers xs → (b : Bool) → IfSome (if b then Some (cell.Sum (totals xs)) else None) IsSound
sum_sound xs n true = (xs, All-from_recursion IsNumber xs n, refl)
sum_sound xs n false = tt

cell_sound : (f : Aggregate) (xs : List XFrac) → AreNumbers xs → IfSome (partial_cell f xs) IsSound
cell_sound Sum xs n = sum_sound xs n (fits (totals xs))
cell_sound Avg xs n = sum_sound xs n (fits (totals xs))
cell_sound Min xs n = least_number xs n
cell_sound Max xs n = greatest_number xs n
cell_sound Count xs n = tt
cell_sound Group xs n = tt
cell_sound Stdvar xs n = tt
cell_sound TopK xs n = tt
cell_sound BottomK xs n = tt
cell_sound Quantile xs n = tt
cell_sound CountValues xs n = tt

one_sound : (names : Names) (o : Option Cell) → IfSome o IsSound → (rest : List CellRow) → AllByRecursion (λ (row : CellRow). IsSound row.cell) rest
    → AllByRecursion (λ (row : CellRow). IsSound row.cell) (cons_option (option_map (λ (c : Cell). record { labels = names; cell = c }) o) rest)
one_sound names None s rest a = a
one_sound names (Some c) s rest a = (s, a)

groups_sound : (f : Aggregate) (xs : Names → List XFrac) → ((names : Names) → AreNumbers (xs names)) → (all : List Names) → AllByRecursion (λ (row : CellRow). IsSound row.cell) (filter_map (group_cell f) (map (λ names. (names, xs names)) all))
groups_sound f xs n [] = tt
groups_sound f xs n (names ∷ all) = one_sound names (partial_cell f (xs names)) (cell_sound f (xs names) (n names)) (filter_map (group_cell f) (map (λ names. (names, xs names)) all)) (groups_sound f xs n all)

all_groups_sound : (f : Aggregate) (vs : List (Names × XFrac)) → AllByRecursion (λ (p : Names × XFrac). IsNumber p.1) vs → AllByRecursion (λ (row : CellRow). IsSound row.cell) (filter_map (group_cell f) (gathered vs))
unfolding gathered
all_groups_sound f vs n = groups_sound f (items_of vs) (λ names. each_under IsNumber vs names n) (names_among vs)

fatal_sets : (fatal : List Mark) → AreSets (record { fatal = set_of mark_cmp fatal; notes = [] })
unfolding IsStrictlySortedBy
fatal_sets fatal = record { fatal = sorted_set mark_cmp_total mark_cmp_ties fatal; notes = tt }

pub owed_sound : UnionIsSet → OwedIsSound
owed_sound sets f by s marks numbers =
    record {
      marks = sets s.step.marks (record { fatal = set_of mark_cmp (filter_map (lost_mark f) (gathered (keyed_values by s.step.table.rows))); notes = [] }) marks (fatal_sets (filter_map (lost_mark f) (gathered (keyed_values by s.step.table.rows))));
      cells = all_groups_sound f (keyed_values by s.step.table.rows) (values_in_groups IsNumber by s.step.table.rows numbers);
    }
