-- Rows in the order of their labels have no labels twice.
use Rattle.std.proofs.Common.{◌≡◌, ◌∙◌, List, [], ◌∷◌, map, refl, sym, ap, subst, true}
use Rattle.std.specs.List.{filter_map}
use Rattle.std.specs.List.Sorted.{IsStrictlySortedBy}
use Rattle.std.specs.Map.{keys_of}
use Rattle.label_set.specs.Labels.{labels_cmp}
use Rattle.step_table.specs.Gathering.{gathered_single, single}
use Rattle.step_table.specs.Groups.{Names, shared_of}
use Rattle.step_table.specs.declared.cells.CellRow.{CellRow}
use Rattle.remote_api.specs.Strays.{is_distinct, is_empty, named}

keys_are : (rows : List CellRow) → keys_of (named rows) ≡ map (λ (row : CellRow). row.labels) rows
keys_are [] = refl
keys_are (row ∷ rows) = ap (λ (ks : List Names). row.labels ∷ ks) (keys_are rows)

singles_share : (rows : List CellRow) → filter_map shared_of (map single (named rows)) ≡ []
singles_share [] = refl
singles_share (row ∷ rows) = singles_share rows

pub rising_distinct : (rows : List CellRow) → IsStrictlySortedBy labels_cmp (map (λ (row : CellRow). row.labels) rows) → true ≡ is_distinct rows
rising_distinct rows s =
    sym (ap is_empty (ap (filter_map shared_of) (gathered_single (named rows) (subst (IsStrictlySortedBy labels_cmp) (sym (keys_are rows)) s)) ∙ singles_share rows))
