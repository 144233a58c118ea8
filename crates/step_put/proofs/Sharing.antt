-- A step of rows that may share labels, by the places of these.
use Rattle.std.proofs.Common.{◌≡◌, ◌∙◌, ℕ, zero, suc, Bool, true, false, cond, List, [], ◌∷◌, length, map, refl, sym, ap, subst, Option, Some, None}
use Rattle.std.specs.Prelude.{◌||◌, ◌&&◌, is_some, filter, slice_get, if◌then◌else◌}
use Rattle.std.specs.BTreeMap.{is_at}
use Rattle.std.specs.List.{AllByRecursion, IsDistinct, cons_option, filter_map, list_any}
use Rattle.std.specs.List.Sorted.{IsStrictlySortedBy}
use Rattle.std.specs.Option.{option_map}
use Rattle.std.specs.Ordering.{is_eq}
use Rattle.std.specs.declared.cmp.Ordering.{Ordering}
use Rattle.std.specs.declared.cmp.Ordering.TheVariants.{Less, Equal, Greater}
use Rattle.std.proofs.lemmas.List.Kept.{IsStrictlySortedBy-filter}
use Rattle.std.proofs.lemmas.Map.Views.{any-filter_same}
use Rattle.label_set.specs.LabelEquality.{labels_decide, labels_eq}
use Rattle.label_set.specs.LabelOrder.{labels_cmp_ties, labels_cmp_total}
use Rattle.label_set.specs.Labels.{labels_cmp}
use Rattle.step_batch.specs.Lent.{entries_of, row_of}
use Rattle.step_batch.specs.declared.steps.Slot.{Slot}
use Rattle.step_table.specs.Alike.{any_name, has_some, same_sets}
use Rattle.step_table.specs.Gathering.{names_sorted}
use Rattle.step_table.specs.Groups.{Names, alone, gathered, has_several, items_of, lone_items, names_among, shared_names, shared_of}
use Rattle.step_table.specs.KeySets.{any_of_set, sorted_set}
use Rattle.step_table.specs.OrderLaws.{mark_cmp_ties, mark_cmp_total}
use Rattle.step_table.specs.Orders.{mark_cmp}
use Rattle.step_table.specs.Outcomes.{keyed}
use Rattle.step_table.specs.Shuffling.{chosen_alike}
use Rattle.step_table.specs.Unions.{set_of}
use Rattle.step_table.specs.declared.marks.Mark.{Mark}
use Rattle.step_table.specs.declared.marks.Mark.TheVariants.{SameLabelset}
use Rattle.step_table.specs.declared.step.Row.{Row}
use Rattle.step_put.specs.Clashes.{cells_of, lone_slots, marks_at, shared_places}
use Rattle.step_put.specs.declared.cells.Cell.{Cell}
use Rattle.step_put.proofs.Lone.{AllBelow, counted, lone_counted, only, shared_counted}

-- ---- items under labels

module _ {T : Type 0} where
  abbrev under : List (Names × T) → Names → Names × List T
  under items names = (names, items_of items names)

  -- what is alone under labels
  abbrev lone_at : List (Names × T) → Names → Option T
  lone_at items names = alone (items_of items names)

  abbrev shared_at : List (Names × T) → Names → Option Names
  shared_at items names = shared_of (under items names)

  fused : {B : Type 0} (h : Names × List T → Option B) (items : List (Names × T)) (ns : List Names) → filter_map h (map (under items) ns) ≡ filter_map (λ names. h (under items names)) ns
  fused h items [] = refl
  fused h items (n ∷ ns) = ap (cons_option (h (under items n))) (fused h items ns)

  lone_is : (items : List (Names × T)) → lone_items items ≡ filter_map (lone_at items) (names_among items)
  unfolding gathered
  lone_is items = fused (λ (g : Names × List T). alone g.1) items (names_among items)

  shared_is : (items : List (Names × T)) → shared_names items ≡ filter_map (shared_at items) (names_among items)
  unfolding gathered
  shared_is items = fused shared_of items (names_among items)

  some_alone : (xs : List T) → (is_some (alone xs) && has_some xs) ≡ is_some (alone xs)
  some_alone [] = refl
  some_alone (x ∷ []) = refl
  some_alone (x ∷ y ∷ xs) = refl

  some_several : (xs : List T) → (has_several xs && has_some xs) ≡ has_several xs
  some_several [] = refl
  some_several (x ∷ []) = refl
  some_several (x ∷ y ∷ xs) = refl

equal_from_is : (o : Ordering) → is_eq o ≡ true → o ≡ Equal
equal_from_is Less e = absurd (cc)
equal_from_is Equal e = refl
equal_from_is Greater e = absurd (cc)

pub at_is : (n m : Names) → is_at (labels_cmp n) m ≡ true → n ≡ m
at_is n m e = labels_cmp_ties n m (equal_from_is (labels_cmp n m) e)

-- only names that something comes of count
pruned : {B : Type 0} (f : Names → Option B) (ns : List Names) → filter_map f ns ≡ filter_map f (filter (λ (n : Names). is_some (f n)) ns)
pruned f [] = refl
pruned {B} f (n ∷ ns) =
    elim (f n) as (λ (o : Option B). f n ≡ o → cons_option o (filter_map f ns) ≡ filter_map f (cond (is_some o) (n ∷ filter (λ (n : Names). is_some (f n)) ns) (filter (λ (n : Names). is_some (f n)) ns))) [
      | None ↦ λ e. pruned f ns
      | Some b ↦ λ e. ap (λ (r : List B). b ∷ r) (pruned f ns) ∙ ap (λ (o : Option B). cons_option o (filter_map f (filter (λ (n : Names). is_some (f n)) ns))) (sym e)
    ] refl

-- whether labels are among those that pass a test
any_passing : (p : Names → Bool) (k : Names) (ns : List Names) → list_any (is_at (labels_cmp k)) (filter p ns) ≡ (p k && list_any (is_at (labels_cmp k)) ns)
any_passing p k ns = any-filter_same (is_at (labels_cmp k)) p (p k) (λ n e. ap p (sym (at_is k n e))) ns

-- two sorted lists of names that have the same of those that pass a test
same_passing : (p : Names → Bool) (ns ms : List Names) → IsStrictlySortedBy labels_cmp ns → IsStrictlySortedBy labels_cmp ms
    → ((k : Names) → (p k && list_any (is_at (labels_cmp k)) ns) ≡ (p k && list_any (is_at (labels_cmp k)) ms)) → filter p ns ≡ filter p ms
same_passing p ns ms s t e =
    same_sets labels_cmp_total labels_cmp_ties (filter p ns) (filter p ms) (IsStrictlySortedBy-filter labels_cmp p ns s) (IsStrictlySortedBy-filter labels_cmp p ms t)
    (λ k. any_passing p k ns ∙ e k ∙ sym (any_passing p k ms))

-- items of which the same are alone under all labels
lone_alike : {T : Type 0} (xs ys : List (Names × T)) → ((n : Names) → lone_at xs n ≡ lone_at ys n) → lone_items xs ≡ lone_items ys
lone_alike {T} xs ys e =
    let p : Names → Bool = λ n. is_some (lone_at ys n) in
    let there : (k : Names) → (p k && list_any (is_at (labels_cmp k)) (names_among xs)) ≡ p k =
    λ k. ap (λ (b : Bool). p k && b) (any_name xs k) ∙ ap (λ (o : Option T). is_some o && has_some (items_of xs k)) (sym (e k)) ∙ some_alone (items_of xs k) ∙ ap is_some (e k) in
    let back : (k : Names) → (p k && list_any (is_at (labels_cmp k)) (names_among ys)) ≡ p k = λ k. ap (λ (b : Bool). p k && b) (any_name ys k) ∙ some_alone (items_of ys k) in
    lone_is xs ∙ chosen_alike (lone_at xs) (lone_at ys) (names_among xs) e ∙ pruned (lone_at ys) (names_among xs)
    ∙ ap (filter_map (lone_at ys)) (same_passing p (names_among xs) (names_among ys) (names_sorted xs) (names_sorted ys) (λ k. there k ∙ sym (back k)))
    ∙ sym (pruned (lone_at ys) (names_among ys)) ∙ sym (lone_is ys)

shared_passing : {T : Type 0} (items : List (Names × T)) (ns : List Names) → filter_map (shared_at items) ns ≡ filter (λ (n : Names). has_several (items_of items n)) ns
shared_passing items [] = refl
shared_passing items (n ∷ ns) =
    elim (has_several (items_of items n)) as (λ (b : Bool). cons_option (if b then Some n else None) (filter_map (shared_at items) ns) ≡ cond b (n ∷ filter (λ (n : Names). has_several (items_of items n)) ns) (filter (λ (n : Names). has_several (items_of items n)) ns)) [
      | true ↦ ap (λ (r : List Names). n ∷ r) (shared_passing items ns)
      | false ↦ shared_passing items ns
    ]

-- ---- places

abbrev is_named : Names → Option Names → Bool
is_named n None = false
is_named n (Some m) = is_at (labels_cmp n) m

-- whether labels stand at a place
abbrev stand_at : List Names → Names → ℕ → Bool
stand_at labels n place = is_named n (slice_get labels place)

never_equal : (l m n : Names) → is_at (labels_cmp n) l ≡ true → is_at (labels_cmp n) m ≡ true → labels_eq l m ≡ false → ⊥
never_equal l m n a b h = let same : l ≡ m = sym (at_is n l a) ∙ at_is n m b in let t : labels_eq l m ≡ true = (labels_decide l m (labels_eq l m) refl).1 same in let z : true ≡ false = sym t ∙ h in cc

apart_from : (l n : Names) (labels : List Names) (j : ℕ) → is_at (labels_cmp n) l ≡ true → AllByRecursion (λ (m : Names). labels_eq l m ≡ false) labels → stand_at labels n j ≡ true → ⊥
apart_from l n [] j e a h = let z : false ≡ true = h in cc
apart_from l n (m ∷ labels) zero e a h = never_equal l m n e h a.0
apart_from l n (m ∷ labels) (suc j) e a h = apart_from l n labels j e a.1 h

one_place : (labels : List Names) → IsDistinct labels_eq labels → (n : Names) (i j : ℕ) → stand_at labels n i ≡ true → stand_at labels n j ≡ true → i ≡ j
unfolding IsDistinct
one_place [] d n i j a b = absurd (let z : false ≡ true = a in cc)
one_place (l ∷ labels) d n zero zero a b = refl
one_place (l ∷ labels) d n zero (suc j) a b = absurd (apart_from l n labels j a d.0 b)
one_place (l ∷ labels) d n (suc i) zero a b = absurd (apart_from l n labels i b d.0 a)
one_place (l ∷ labels) d n (suc i) (suc j) a b = ap suc (one_place labels d.1 n i j a b)

-- ---- the rows of slots

abbrev pub rows_in : List Names → List Slot → List Row
rows_in labels slots = map row_of (entries_of labels slots)

module _ (labels : List Names) (n : Names) where
  -- the rows under labels are those of the slots at their place
  rows_under : (slots : List Slot) → items_of (keyed (rows_in labels slots)) n ≡ rows_in labels (counted (stand_at labels n) slots)
  rows_under [] = refl
  rows_under (s ∷ slots) = by (slice_get labels s.place) refl (rows_under slots)
    where
      by : (o : Option Names) → slice_get labels s.place ≡ o → items_of (keyed (rows_in labels slots)) n ≡ rows_in labels (counted (stand_at labels n) slots)
          → items_of (keyed (map row_of (cons_option (option_map (λ (m : Names). (m, s.value)) o) (entries_of labels slots)))) n ≡ rows_in labels (cond (is_named n o) (s ∷ counted (stand_at labels n) slots) (counted (stand_at labels n) slots))
      by None e rest = rest
      by (Some m) e rest = here (is_at (labels_cmp n) m) e rest
        where
          here : (b : Bool) → slice_get labels s.place ≡ Some m → items_of (keyed (rows_in labels slots)) n ≡ rows_in labels (counted (stand_at labels n) slots)
              → map (λ (z : Names × Row). z.1) (cond b ((m, row_of (m, s.value)) ∷ filter (λ (z : Names × Row). is_at (labels_cmp n) z.0) (keyed (rows_in labels slots))) (filter (λ (z : Names × Row). is_at (labels_cmp n) z.0) (keyed (rows_in labels slots))))
              ≡ rows_in labels (cond b (s ∷ counted (stand_at labels n) slots) (counted (stand_at labels n) slots))
          here true e rest = ap (λ (r : List Row). row_of (m, s.value) ∷ r) rest ∙ ap (λ (o : Option Names). map row_of (cons_option (option_map (λ (m : Names). (m, s.value)) o) (entries_of labels (counted (stand_at labels n) slots)))) (sym e)
          here false e rest = rest

  abbrev AllStand : List Slot → Type 0
  AllStand slots = AllByRecursion (λ (s : Slot). stand_at labels n s.place ≡ true) slots

  all_stand : (slots : List Slot) → AllStand (counted (stand_at labels n) slots)
  all_stand [] = tt
  all_stand (s ∷ slots) =
      elim (stand_at labels n s.place) as (λ (b : Bool). stand_at labels n s.place ≡ b → AllStand (cond b (s ∷ counted (stand_at labels n) slots) (counted (stand_at labels n) slots))) [
        | true ↦ λ e. (e, all_stand slots)
        | false ↦ λ e. all_stand slots
      ] refl

  some_names : (o : Option Names) → is_named n o ≡ true → (m : Names) × (o ≡ Some m)
  some_names None e = absurd (let z : false ≡ true = e in cc)
  some_names (Some m) e = (m, refl)

  one_row : (s : Slot) (slots : List Slot) → stand_at labels n s.place ≡ true → (r : Row) × (rows_in labels (s ∷ slots) ≡ r ∷ rows_in labels slots)
  one_row s slots e =
      let m = some_names (slice_get labels s.place) e in
      (row_of (m.0, s.value), ap (λ (o : Option Names). map row_of (cons_option (option_map (λ (m : Names). (m, s.value)) o) (entries_of labels slots))) m.1)

  -- what is alone among slots gives the row that is alone
  only_row : (slots : List Slot) → AllStand slots → alone (rows_in labels slots) ≡ alone (rows_in labels (only slots))
  only_row [] a = refl
  only_row (s ∷ []) a = refl
  only_row (s ∷ t ∷ slots) a =
      let x = one_row s (t ∷ slots) a.0 in
      let y = one_row t slots a.1.0 in
      ap alone (x.1 ∙ ap (λ (r : List Row). x.0 ∷ r) y.1)

  several_rows : (slots : List Slot) → AllStand slots → has_several (rows_in labels slots) ≡ has_several slots
  several_rows [] a = refl
  several_rows (s ∷ []) a = let x = one_row s [] a.0 in ap has_several x.1
  several_rows (s ∷ t ∷ slots) a =
      let x = one_row s (t ∷ slots) a.0 in
      let y = one_row t slots a.1.0 in
      ap has_several (x.1 ∙ ap (λ (r : List Row). x.0 ∷ r) y.1)

  any_place : (places : List ℕ) → list_any (is_at (labels_cmp n)) (filter_map (slice_get labels) places) ≡ list_any (stand_at labels n) places
  any_place [] = refl
  any_place (p ∷ places) = by (slice_get labels p) (any_place places)
    where
      by : (o : Option Names) → list_any (is_at (labels_cmp n)) (filter_map (slice_get labels) places) ≡ list_any (stand_at labels n) places → list_any (is_at (labels_cmp n)) (cons_option o (filter_map (slice_get labels) places)) ≡ (is_named n o || list_any (stand_at labels n) places)
      by None rest = rest
      by (Some m) rest = ap (λ (b : Bool). is_at (labels_cmp n) m || b) rest

module _ (labels : List Names) (d : IsDistinct labels_eq labels) (slots : List Slot) (b : AllBelow (length labels) slots) where
  -- what came to the places of labels
  abbrev came : List Cell
  came = cells_of (length labels) slots

  lone_rows_at : (n : Names) → lone_at (keyed (rows_in labels slots)) n ≡ lone_at (keyed (rows_in labels (lone_slots 0 came))) n
  lone_rows_at n =
      let q : ℕ → Bool = stand_at labels n in
      ap alone (rows_under labels n slots) ∙ only_row labels n (counted q slots) (all_stand labels n slots)
      ∙ ap (λ (z : List Slot). alone (rows_in labels z)) (sym (lone_counted q (one_place labels d n) (length labels) slots b))
      ∙ sym (ap alone (rows_under labels n (lone_slots 0 came)))

  -- the rows that are alone are those of the slots that have a place of their own
  pub lone_rows : lone_items (keyed (rows_in labels slots)) ≡ lone_items (keyed (rows_in labels (lone_slots 0 came)))
  lone_rows = lone_alike (keyed (rows_in labels slots)) (keyed (rows_in labels (lone_slots 0 came))) lone_rows_at

  abbrev items : List (Names × Row)
  items = keyed (rows_in labels slots)

  abbrev named : List Names
  named = filter_map (slice_get labels) (shared_places 0 came)

  several_at : (n : Names) → has_several (items_of items n) ≡ list_any (is_at (labels_cmp n)) named
  several_at n =
      let q : ℕ → Bool = stand_at labels n in
      ap has_several (rows_under labels n slots) ∙ several_rows labels n (counted q slots) (all_stand labels n slots) ∙ sym (shared_counted q (one_place labels d n) (length labels) slots b) ∙ sym (any_place labels n (shared_places 0 came))

  -- the labels that rows share are those at the places that slots share
  shared_are : shared_names items ≡ set_of labels_cmp named
  shared_are =
      let p : Names → Bool = λ n. has_several (items_of items n) in
      let same : shared_names items ≡ filter p (names_among items) = shared_is items ∙ shared_passing items (names_among items) in
      same_sets labels_cmp_total labels_cmp_ties (shared_names items) (set_of labels_cmp named)
      (subst (IsStrictlySortedBy labels_cmp) (sym same) (IsStrictlySortedBy-filter labels_cmp p (names_among items) (names_sorted items))) (sorted_set labels_cmp_total labels_cmp_ties named)
      (λ k.
      ap (list_any (is_at (labels_cmp k))) same ∙ any_passing p k (names_among items) ∙ ap (λ (c : Bool). p k && c) (any_name items k) ∙ some_several (items_of items k)
      ∙ several_at k ∙ sym (any_of_set labels_cmp_total labels_cmp_ties (is_at (labels_cmp k)) named))

  any_mark : (p : Mark → Bool) (ns : List Names) → list_any p (map SameLabelset ns) ≡ list_any (λ (m : Names). p (SameLabelset m)) ns
  any_mark p [] = refl
  any_mark p (m ∷ ns) = ap (λ (c : Bool). p (SameLabelset m) || c) (any_mark p ns)

  marks_named : (places : List ℕ) → marks_at labels places ≡ map SameLabelset (filter_map (slice_get labels) places)
  marks_named [] = refl
  marks_named (p ∷ places) = by (slice_get labels p) (marks_named places)
    where
      by : (o : Option Names) → marks_at labels places ≡ map SameLabelset (filter_map (slice_get labels) places) → cons_option (option_map SameLabelset o) (marks_at labels places) ≡ map SameLabelset (cons_option o (filter_map (slice_get labels) places))
      by None rest = rest
      by (Some m) rest = ap (λ (r : List Mark). SameLabelset m ∷ r) rest

  -- and so are their marks
  pub shared_marks_are : set_of mark_cmp (map SameLabelset (shared_names items)) ≡ set_of mark_cmp (marks_at labels (shared_places 0 came))
  shared_marks_are =
      same_sets mark_cmp_total mark_cmp_ties (set_of mark_cmp (map SameLabelset (shared_names items))) (set_of mark_cmp (marks_at labels (shared_places 0 came)))
      (sorted_set mark_cmp_total mark_cmp_ties (map SameLabelset (shared_names items))) (sorted_set mark_cmp_total mark_cmp_ties (marks_at labels (shared_places 0 came)))
      (λ k.
      let p : Mark → Bool = is_at (mark_cmp k) in
      any_of_set mark_cmp_total mark_cmp_ties p (map SameLabelset (shared_names items)) ∙ any_mark p (shared_names items)
      ∙ ap (list_any (λ (m : Names). p (SameLabelset m))) shared_are ∙ any_of_set labels_cmp_total labels_cmp_ties (λ (m : Names). p (SameLabelset m)) named
      ∙ sym (any_mark p named) ∙ ap (list_any p) (sym (marks_named (shared_places 0 came))) ∙ sym (any_of_set mark_cmp_total mark_cmp_ties p (marks_at labels (shared_places 0 came))))
