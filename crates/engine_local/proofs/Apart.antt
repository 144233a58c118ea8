-- Rows in the order of their labels have labels of their own.
use Rattle.std.proofs.Common.{◌≡◌, ◌∙◌, true, List, [], ◌∷◌, map, refl, sym, ap, subst, Some, None}
use Rattle.std.specs.Prelude.{Option, IfSome}
use Rattle.std.specs.List.{AllByRecursion, cons_option, filter_map}
use Rattle.std.specs.List.Sorted.{IsStrictlySortedBy}
use Rattle.std.specs.Map.{keys_of}
use Rattle.std.specs.declared.cmp.Ordering.TheVariants.{Less}
use Rattle.label_set.specs.Labels.{labels_cmp}
use Rattle.step_table.specs.Gathering.{gathered_single, single}
use Rattle.step_table.specs.Groups.{Names, shared_of}
use Rattle.step_table.specs.declared.cells.CellRow.{CellRow}
use Rattle.remote_api.specs.Strays.{is_distinct, is_empty, named}

abbrev pub labels_in : List CellRow → List Names
labels_in rows = map (λ (row : CellRow). row.labels) rows

-- ---- no labels twice

keys_are : (rows : List CellRow) → keys_of (named rows) ≡ labels_in rows
keys_are [] = refl
keys_are (row ∷ rows) = ap (λ (ks : List Names). row.labels ∷ ks) (keys_are rows)

none_shared : (rows : List CellRow) → filter_map shared_of (map single (named rows)) ≡ []
none_shared [] = refl
none_shared (row ∷ rows) = none_shared rows

pub apart : (rows : List CellRow) → IsStrictlySortedBy labels_cmp (labels_in rows) → is_distinct rows ≡ true
apart rows s =
    ap is_empty (ap (filter_map shared_of) (gathered_single (named rows) (subst (IsStrictlySortedBy labels_cmp) (sym (keys_are rows)) s)) ∙ none_shared rows)

-- ---- what is made of some entries, under their labels, stays in their order

module _ {T R : Type 0} (h : Names × T → Option R) (name : R → Names) (same : (e : Names × T) → IfSome (h e) (λ (r : R). name r ≡ e.0)) where
  abbrev names_of : List (Names × T) → List Names
  names_of entries = map name (filter_map h entries)

  behind : (n : Names) (entries : List (Names × T)) → AllByRecursion (λ z. labels_cmp n z ≡ Less) (keys_of entries) → AllByRecursion (λ z. labels_cmp n z ≡ Less) (names_of entries)
  behind n [] a = tt
  behind n (e ∷ entries) a = by (h e) (same e) (behind n entries a.1)
    where
      by : (o : Option R) → IfSome o (λ (r : R). name r ≡ e.0) → AllByRecursion (λ z. labels_cmp n z ≡ Less) (names_of entries)
          → AllByRecursion (λ z. labels_cmp n z ≡ Less) (map name (cons_option o (filter_map h entries)))
      by None is rest = rest
      by (Some r) is rest = (subst (λ (z : Names). labels_cmp n z ≡ Less) (sym is) a.0, rest)

  pub stay_in_order : (entries : List (Names × T)) → IsStrictlySortedBy labels_cmp (keys_of entries) → IsStrictlySortedBy labels_cmp (names_of entries)
  unfolding IsStrictlySortedBy
  stay_in_order [] s = tt
  stay_in_order (e ∷ entries) s = by (h e) (same e) (stay_in_order entries s.1)
    where
      by : (o : Option R) → IfSome o (λ (r : R). name r ≡ e.0) → IsStrictlySortedBy labels_cmp (names_of entries) → IsStrictlySortedBy labels_cmp (map name (cons_option o (filter_map h entries)))
      by None is rest = rest
      by (Some r) is rest = (subst (λ (n : Names). AllByRecursion (λ z. labels_cmp n z ≡ Less) (names_of entries)) (sym is) (behind e.0 entries s.0), rest)
