-- The cells of all engines, gathered: under each labels the cells of the engines that have rows of that group.
use Rattle.std.proofs.Common.{◌≡◌, ◌∙◌, Bool, true, false, cond, List, [], ◌∷◌, ◌++◌, map, refl, sym, ap, subst, Some, None}
use Rattle.std.specs.Prelude.{Option, ◌||◌, filter, is_some}
use Rattle.std.specs.Option.{option_map, option_to_list}
use Rattle.std.specs.BTreeMap.{is_at}
use Rattle.std.specs.Ordering.{is_eq}
use Rattle.std.specs.List.{AllByRecursion, cons_option, filter_map, list_any}
use Rattle.std.specs.List.Sorted.{IsStrictlySortedBy}
use Rattle.std.specs.Map.{values_of}
use Rattle.std.specs.declared.cmp.Ordering.{Ordering}
use Rattle.std.specs.declared.cmp.Ordering.TheVariants.{Less, Equal, Greater}
use Rattle.std.proofs.lemmas.List.{map-append}
use Rattle.std.proofs.lemmas.List.Elements.{filter-append}
use Rattle.func_table.specs.declared.table.Aggregate.{Aggregate}
use Rattle.label_set.specs.Labels.{labels_cmp}
use Rattle.label_set.specs.LabelOrder.{labels_cmp_total, labels_cmp_ties}
use Rattle.xfrac.specs.declared.value.XFrac.{XFrac}
use Rattle.step_table.specs.Gathering.{names_sorted}
use Rattle.step_table.specs.Groups.{Names, gathered, items_of, names_among}
use Rattle.step_table.specs.declared.cells.Cell.{Cell}
use Rattle.step_cells.specs.Joined.{keyed_cells}
use Rattle.step_cells.specs.Owed.{group_cell, partial_cell}
use Rattle.step_cells.proofs.Merges.{HasCell, flat}
use Rattle.step_table.specs.Alike.{any_name, has_some}
use Rattle.step_cells.proofs.SameNames.{none_above}

-- ---- items of joined lists

module _ {T : Type 0} where
  pub items_append : (xs ys : List (Names × T)) (names : Names) → items_of (xs ++ ys) names ≡ items_of xs names ++ items_of ys names
  items_append xs ys names =
      ap values_of (filter-append (λ item. is_at (labels_cmp names) item.0) xs ys)
      ∙ map-append (λ (p : Names × T). p.1) (filter (λ item. is_at (labels_cmp names) item.0) xs) (filter (λ item. is_at (labels_cmp names) item.0) ys)

  pub values_under : (vss : List (List (Names × T))) (names : Names) → items_of (flat vss) names ≡ flat (map (λ vs. items_of vs names) vss)
  values_under [] names = refl
  values_under (vs ∷ vss) names = items_append vs (flat vss) names ∙ ap (λ xs. items_of vs names ++ xs) (values_under vss names)

-- ---- the cells of one engine

module _ (f : Aggregate) where
  abbrev pub cell_pair : Names × List XFrac → Option (Names × Cell)
  cell_pair g = option_map (λ (c : Cell). (g.0, c)) (partial_cell f g.1)

  abbrev pub engine_cells : List (Names × XFrac) → List (Names × Cell)
  engine_cells vs = filter_map cell_pair (gathered vs)

  pub keyed_rows : (groups : List (Names × List XFrac)) → keyed_cells (filter_map (group_cell f) groups) ≡ filter_map cell_pair groups
  keyed_rows [] = refl
  keyed_rows (g ∷ groups) = by (keyed_rows groups) (partial_cell f g.1)
    where
      by : keyed_cells (filter_map (group_cell f) groups) ≡ filter_map cell_pair groups → (o : Option Cell) → keyed_cells (cons_option (option_map (λ (c : Cell). record { labels = g.0; cell = c }) o) (filter_map (group_cell f) groups)) ≡ cons_option (option_map (λ (c : Cell). (g.0, c)) o) (filter_map cell_pair groups)
      by rest None = rest
      by rest (Some c) = ap (λ r. (g.0, c) ∷ r) rest

  abbrev pub cells_under : List XFrac → List Cell
  cells_under xs = cond (has_some xs) (option_to_list (partial_cell f xs)) []

  nothing_there : (b : Bool) (o : Option Cell) → o ≡ None → [] ≡ cond b (option_to_list o) []
  nothing_there true (Some c) e = absurd (cc)
  nothing_there true None e = refl
  nothing_there false o e = refl

  at_names : (h : Names → List XFrac) (n : Names) (ms : List Names) → IsStrictlySortedBy labels_cmp ms
      → items_of (filter_map cell_pair (map (λ m. (m, h m)) ms)) n ≡ cond (list_any (is_at (labels_cmp n)) ms) (option_to_list (partial_cell f (h n))) []
  unfolding IsStrictlySortedBy
  at_names h n [] s = refl
  at_names h n (m ∷ ms) s = by (at_names h n ms s.1) (partial_cell f (h m)) refl (labels_cmp n m) refl
    where
      none_later : labels_cmp n m ≡ Equal → list_any (is_at (labels_cmp n)) ms ≡ false
      none_later e = subst (λ z. list_any (is_at (labels_cmp z)) ms ≡ false) (sym (labels_cmp_ties n m e)) (none_above labels_cmp_total labels_cmp_ties m ms s.0)

      by : values_of (filter (λ (item : Names × Cell). is_at (labels_cmp n) item.0) (filter_map cell_pair (map (λ k. (k, h k)) ms))) ≡ cond (list_any (is_at (labels_cmp n)) ms) (option_to_list (partial_cell f (h n))) [] → (o : Option Cell) → partial_cell f (h m) ≡ o → (r : Ordering) → labels_cmp n m ≡ r
          → values_of (filter (λ (item : Names × Cell). is_at (labels_cmp n) item.0) (cons_option (option_map (λ (c : Cell). (m, c)) o) (filter_map cell_pair (map (λ k. (k, h k)) ms)))) ≡ cond (is_eq r || list_any (is_at (labels_cmp n)) ms) (option_to_list (partial_cell f (h n))) []
      by inner None e Equal g = let same : partial_cell f (h n) ≡ None = ap (λ z. partial_cell f (h z)) (labels_cmp_ties n m g) ∙ e in
          inner ∙ sym (nothing_there (list_any (is_at (labels_cmp n)) ms) (partial_cell f (h n)) same) ∙ nothing_there true (partial_cell f (h n)) same
      by inner None e Less g = inner
      by inner None e Greater g = inner
      by inner (Some c) e Equal g =
          let same : partial_cell f (h n) ≡ Some c = ap (λ z. partial_cell f (h z)) (labels_cmp_ties n m g) ∙ e in
          rw g (ap (λ xs. c ∷ xs) (inner ∙ ap (λ b. cond b (option_to_list (partial_cell f (h n))) []) (none_later g)) ∙ ap option_to_list (sym same))
      by inner (Some c) e Less g = rw g inner
      by inner (Some c) e Greater g = rw g inner

  engine_under : (vs : List (Names × XFrac)) (n : Names) → items_of (engine_cells vs) n ≡ cells_under (items_of vs n)
  unfolding gathered
  engine_under vs n = at_names (items_of vs) n (names_among vs) (names_sorted vs) ∙ ap (λ b. cond b (option_to_list (partial_cell f (items_of vs n))) []) (any_name vs n)

  -- ---- the cells of all engines

  abbrev pub cells_all : List (List (Names × XFrac)) → List (Names × Cell)
  cells_all [] = []
  cells_all (vs ∷ vss) = engine_cells vs ++ cells_all vss

  pub all_under : (vss : List (List (Names × XFrac))) (n : Names) → items_of (cells_all vss) n ≡ flat (map cells_under (map (λ vs. items_of vs n) vss))
  all_under [] n = refl
  all_under (vs ∷ vss) n =
      items_append (engine_cells vs) (cells_all vss) n ∙ ap (λ cs. cs ++ items_of (cells_all vss) n) (engine_under vs n)
      ∙ ap (λ cs. cells_under (items_of vs n) ++ cs) (all_under vss n)

  -- parts that have no values have no cell
  pub cells_of_parts : (xss : List (List XFrac)) → flat (map cells_under xss) ≡ filter_map (partial_cell f) (filter has_some xss)
  cells_of_parts [] = refl
  cells_of_parts ([] ∷ xss) = cells_of_parts xss
  cells_of_parts ((x ∷ xs) ∷ xss) = by (cells_of_parts xss) (partial_cell f (x ∷ xs))
    where
      by : flat (map cells_under xss) ≡ filter_map (partial_cell f) (filter has_some xss) → (o : Option Cell) → option_to_list o ++ flat (map cells_under xss) ≡ cons_option o (filter_map (partial_cell f) (filter has_some xss))
      by rest None = rest
      by rest (Some c) = ap (λ cs. c ∷ cs) rest

  pub parts_have_cells : (xss : List (List XFrac)) → AllByRecursion (HasCell f) xss → AllByRecursion (HasCell f) (filter has_some xss)
  parts_have_cells [] a = tt
  parts_have_cells ([] ∷ xss) a = parts_have_cells xss a.1
  parts_have_cells ((x ∷ xs) ∷ xss) a = (a.0, parts_have_cells xss a.1)

  pub some_alike : (xss : List (List XFrac)) → AllByRecursion (HasCell f) xss → has_some (flat (map cells_under xss)) ≡ has_some (flat xss)
  some_alike [] a = refl
  some_alike ([] ∷ xss) a = some_alike xss a.1
  some_alike ((x ∷ xs) ∷ xss) a = by (partial_cell f (x ∷ xs)) a.0
    where
      by : (o : Option Cell) → is_some o ≡ true → has_some (option_to_list o ++ flat (map cells_under xss)) ≡ true
      by None e = absurd (cc)
      by (Some c) e = refl

pub flat_parts : {X : Type 0} (xss : List (List X)) → flat (filter has_some xss) ≡ flat xss
flat_parts [] = refl
flat_parts ([] ∷ xss) = flat_parts xss
flat_parts ((x ∷ xs) ∷ xss) = ap (λ ys. x ∷ (xs ++ ys)) (flat_parts xss)
