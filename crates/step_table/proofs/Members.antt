-- Rows by the set of the signatures of a side.
use Rattle.std.proofs.Common.{◌≡◌, ◌∙◌, Bool, true, false, List, [], ◌∷◌, map, refl, ap}
use Rattle.std.specs.Prelude.{◌||◌, filter, not, if◌then◌else◌}
use Rattle.std.specs.BTreeMap.{is_at}
use Rattle.std.specs.List.{list_any}
use Rattle.label_set.specs.Labels.{labels_cmp}
use Rattle.label_set.specs.LabelOrder.{labels_cmp_total, labels_cmp_ties}
use Rattle.label_set.specs.declared.rules.Pairing.{Pairing}
use Rattle.step_table.specs.Groups.{Names}
use Rattle.step_table.specs.Matching.{signature_of}
use Rattle.step_table.specs.Sets.{is_on, is_among, is_wanted, rows_on, rows_off}
use Rattle.step_table.specs.Unions.{set_of}
use Rattle.step_table.specs.declared.step.Row.{Row}
use Rattle.step_table.specs.KeySets.{any_of_set}

module _ (p : Pairing) (side : List Row) where
  any_signature : (test : Names → Bool) (rows : List Row) → list_any test (map (signature_of p) rows) ≡ list_any (λ row. test (signature_of p row)) rows
  any_signature test [] = refl
  any_signature test (row ∷ rows) = ap (λ b. test (signature_of p row) || b) (any_signature test rows)

  is_on_side : (row : Row) → is_among (set_of labels_cmp (map (signature_of p) side)) (signature_of p row) ≡ is_on p side row
  is_on_side row = any_of_set labels_cmp_total labels_cmp_ties (is_at (labels_cmp (signature_of p row))) (map (signature_of p) side) ∙ any_signature (is_at (labels_cmp (signature_of p row))) side

  pub wanted_are : (on : Bool) (rows : List Row) → filter (is_wanted p (set_of labels_cmp (map (signature_of p) side)) on) rows ≡ (if on then rows_on p side rows else rows_off p side rows)
  wanted_are true rows = ap (λ test. filter test rows) (λ i row. is_on_side row i)
  wanted_are false rows = ap (λ test. filter test rows) (λ i row. not (is_on_side row i))
