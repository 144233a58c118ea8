-- Labels that several items share are left out, with their mark.
use Rattle.std.proofs.Common.{◌≡◌, ◌∙◌, Bool, true, false, cond, List, [], ◌∷◌, ◌++◌, map, refl, sym, ap, subst, append_assoc, Some, None}
use Rattle.std.specs.Prelude.{Option, ◌||◌, filter, if◌then◌else◌}
use Rattle.std.specs.BTreeMap.{is_at}
use Rattle.std.specs.List.{AllByRecursion, cons_option, filter_map, list_any}
use Rattle.std.specs.Map.{values_of}
use Rattle.std.specs.Ordering.{is_eq}
use Rattle.std.specs.declared.cmp.Ordering.{Ordering}
use Rattle.std.specs.declared.cmp.Ordering.TheVariants.{Less, Equal, Greater}
use Rattle.std.proofs.lemmas.Bool.{false≢true}
use Rattle.std.proofs.lemmas.Cmp.{tied_itself}
use Rattle.std.proofs.lemmas.List.{map-append}
use Rattle.std.proofs.lemmas.List.Elements.{filter_map-append}
use Rattle.label_set.specs.Labels.{labels_cmp}
use Rattle.label_set.specs.LabelOrder.{labels_cmp_ties}
use Rattle.step_table.specs.Alike.{any_name, has_some}
use Rattle.step_table.specs.Groups.{Names, alone, gathered, has_several, items_of, names_among, shared_of}
use Rattle.step_table.specs.Laws.{UnionHasMarks, has_mark}
use Rattle.step_table.specs.OrderLaws.{mark_cmp_total}
use Rattle.step_table.specs.Orders.{mark_cmp}
use Rattle.step_table.specs.Outcomes.{keyed_by, lone_by, shared_marks}
use Rattle.step_table.specs.Unions.{with_fatal}
use Rattle.step_table.specs.declared.cells.CellRow.{CellRow}
use Rattle.step_table.specs.declared.cells.StepCells.{StepCells}
use Rattle.step_table.specs.declared.marks.Mark.TheVariants.{SameLabelset}
use Rattle.step_table.specs.declared.marks.Marks.{Marks}
use Rattle.step_cells.specs.Joined.{all_cells}
use Rattle.step_cells.proofs.Agreeing.{or_true, with_fatal_has}
use Rattle.step_cells.proofs.CellsUnder.{items_append}

alone_is : {T : Type 0} (xs : List T) (x : T) → alone xs ≡ Some x → has_several xs ≡ false
alone_is [] x e = absurd (cc)
alone_is (y ∷ []) x e = refl
alone_is (y ∷ z ∷ xs) x e = absurd (cc)

alone_holds : {T : Type 0} (P : T → Type 0) (xs : List T) (x : T) → alone xs ≡ Some x → AllByRecursion P xs → P x
alone_holds P [] x e a = absurd (cc)
alone_holds P (y ∷ []) x e a = let same : y ≡ x = cc in subst P same a.0
alone_holds P (y ∷ z ∷ xs) x e a = absurd (cc)

module _ {T : Type 0} (labels : T → Names) where
  -- the items under labels have them
  all_at : (items : List T) (n : Names) → AllByRecursion (λ (x : T). labels x ≡ n) (items_of (keyed_by labels items) n)
  all_at [] n = tt
  all_at (item ∷ items) n =
      elim (labels_cmp n (labels item)) as (λ r. labels_cmp n (labels item) ≡ r → AllByRecursion (λ (x : T). labels x ≡ n) (values_of (cond (is_eq r) ((labels item, item) ∷ filter (λ e. is_at (labels_cmp n) e.0) (keyed_by labels items)) (filter (λ e. is_at (labels_cmp n) e.0) (keyed_by labels items))))) [
        | Less ↦ λ h. all_at items n
        | Equal ↦ λ h. (sym (labels_cmp_ties n (labels item) h), all_at items n)
        | Greater ↦ λ h. all_at items n
      ] refl

  module _ (h : Names → List T) (at : (m : Names) → AllByRecursion (λ (x : T). labels x ≡ m) (h m)) (n : Names) (several : has_several (h n) ≡ true) where
    apart : (m : Names) (x : T) → alone (h m) ≡ Some x → (r : Ordering) → labels_cmp n (labels x) ≡ r → is_eq r ≡ false
    apart m x e Less g = refl
    apart m x e Greater g = refl
    apart m x e Equal g =
        let same : n ≡ m = labels_cmp_ties n (labels x) g ∙ alone_holds (λ (y : T). labels y ≡ m) (h m) x e (at m) in
        absurd (false≢true (sym (alone_is (h m) x e) ∙ ap (λ z. has_several (h z)) (sym same) ∙ several))

    none_left : (ms : List Names) → items_of (keyed_by labels (filter_map (λ (group : Names × List T). alone group.1) (map (λ m. (m, h m)) ms))) n ≡ []
    none_left [] = refl
    none_left (m ∷ ms) = by (none_left ms) (alone (h m)) refl
      where
        by : items_of (keyed_by labels (filter_map (λ (group : Names × List T). alone group.1) (map (λ k. (k, h k)) ms))) n ≡ [] → (o : Option T) → alone (h m) ≡ o
            → items_of (keyed_by labels (cons_option o (filter_map (λ (group : Names × List T). alone group.1) (map (λ k. (k, h k)) ms)))) n ≡ []
        by rest None e = rest
        by rest (Some x) e = rw (apart m x e (labels_cmp n (labels x)) refl) rest

    marked : (ms : List Names) → list_any (is_at (labels_cmp n)) ms ≡ true → list_any (is_at (mark_cmp (SameLabelset n))) (map SameLabelset (filter_map shared_of (map (λ m. (m, h m)) ms))) ≡ true
    marked [] e = absurd (false≢true e)
    marked (m ∷ ms) e = by (marked ms) (has_several (h m)) refl (labels_cmp n m) refl e
      where
        by : (list_any (is_at (labels_cmp n)) ms ≡ true → list_any (is_at (mark_cmp (SameLabelset n))) (map SameLabelset (filter_map shared_of (map (λ k. (k, h k)) ms))) ≡ true)
            → (b : Bool) → has_several (h m) ≡ b → (r : Ordering) → labels_cmp n m ≡ r → (is_eq r || list_any (is_at (labels_cmp n)) ms) ≡ true
            → list_any (is_at (mark_cmp (SameLabelset n))) (map SameLabelset (cons_option (if b then Some m else None) (filter_map shared_of (map (λ k. (k, h k)) ms)))) ≡ true
        by rest true s Equal g f =
            let here : is_at (mark_cmp (SameLabelset n)) (SameLabelset m) ≡ true = subst (λ z. is_at (mark_cmp (SameLabelset n)) (SameLabelset z) ≡ true) (labels_cmp_ties n m g) (ap is_eq (tied_itself mark_cmp_total (SameLabelset n))) in
            ap (λ b. b || list_any (is_at (mark_cmp (SameLabelset n))) (map SameLabelset (filter_map shared_of (map (λ k. (k, h k)) ms)))) here
        by rest true s Less g f = ap (λ b. is_at (mark_cmp (SameLabelset n)) (SameLabelset m) || b) (rest f) ∙ or_true (is_at (mark_cmp (SameLabelset n)) (SameLabelset m))
        by rest true s Greater g f = ap (λ b. is_at (mark_cmp (SameLabelset n)) (SameLabelset m) || b) (rest f) ∙ or_true (is_at (mark_cmp (SameLabelset n)) (SameLabelset m))
        by rest false s Equal g f = absurd (false≢true (sym s ∙ ap (λ z. has_several (h z)) (sym (labels_cmp_ties n m g)) ∙ several))
        by rest false s Less g f = rest f
        by rest false s Greater g f = rest f

  some_of_several : (xs : List T) → has_several xs ≡ true → has_some xs ≡ true
  some_of_several [] e = absurd (false≢true e)
  some_of_several (x ∷ xs) e = refl

  pub left_out : (items : List T) (n : Names) → has_several (items_of (keyed_by labels items) n) ≡ true → items_of (keyed_by labels (lone_by labels items)) n ≡ []
  unfolding gathered
  left_out items n several = none_left (items_of (keyed_by labels items)) (all_at items) n several (names_among (keyed_by labels items))

  pub left_marked : UnionHasMarks → (marks : Marks) (items : List T) (n : Names) → has_several (items_of (keyed_by labels items) n) ≡ true → has_mark (with_fatal marks (shared_marks labels items)).fatal (SameLabelset n) ≡ true
  unfolding gathered
  left_marked unions marks items n several =
      with_fatal_has unions marks (shared_marks labels items) (SameLabelset n)
      ∙ ap (λ b. has_mark marks.fatal (SameLabelset n) || b) (marked (items_of (keyed_by labels items)) (all_at items) n several (names_among (keyed_by labels items)) (any_name (keyed_by labels items) n ∙ some_of_several (items_of (keyed_by labels items) n) several))
      ∙ or_true (has_mark marks.fatal (SameLabelset n))

-- ---- labels that two engines give

cells_append : (xs ys : List StepCells) → all_cells (xs ++ ys) ≡ all_cells xs ++ all_cells ys
cells_append [] ys = refl
cells_append (x ∷ xs) ys = ap (λ cs. x.rows ++ cs) (cells_append xs ys) ∙ sym (append_assoc x.rows (all_cells xs) (all_cells ys))

some_before : {T : Type 0} (xs ys : List T) → has_some xs ≡ true → has_some (xs ++ ys) ≡ true
some_before [] ys e = absurd (false≢true e)
some_before (x ∷ xs) ys e = refl

some_behind : {T : Type 0} (xs ys : List T) → has_some ys ≡ true → has_some (xs ++ ys) ≡ true
some_behind [] ys e = e
some_behind (x ∷ xs) ys e = refl

several_more : {T : Type 0} (x : T) (xs : List T) → has_some xs ≡ true → has_several (x ∷ xs) ≡ true
several_more x [] e = absurd (false≢true e)
several_more x (y ∷ xs) e = refl

several_of_two : {T : Type 0} (xs ys : List T) → has_some xs ≡ true → has_some ys ≡ true → has_several (xs ++ ys) ≡ true
several_of_two [] ys e f = absurd (false≢true e)
several_of_two (x ∷ xs) ys e f = several_more x (xs ++ ys) (some_behind xs ys f)

several_behind : {T : Type 0} (xs ys : List T) → has_several ys ≡ true → has_several (xs ++ ys) ≡ true
several_behind [] ys e = e
several_behind (x ∷ xs) [] e = absurd (false≢true e)
several_behind (x ∷ xs) (y ∷ ys) e = several_more x (xs ++ y ∷ ys) (some_behind xs (y ∷ ys) refl)

module _ {T : Type 0} (labels : T → Names) (read : CellRow → Option T) (n : Names) where
  abbrev pub read_under : List StepCells → List T
  read_under steps = items_of (keyed_by labels (filter_map read (all_cells steps))) n

  read_append : (xs ys : List StepCells) → read_under (xs ++ ys) ≡ read_under xs ++ read_under ys
  read_append xs ys =
      ap (λ cs. items_of (keyed_by labels (filter_map read cs)) n) (cells_append xs ys)
      ∙ ap (λ ts. items_of (keyed_by labels ts) n) (filter_map-append read (all_cells xs) (all_cells ys))
      ∙ ap (λ es. items_of es n) (map-append (λ (item : T). (labels item, item)) (filter_map read (all_cells xs)) (filter_map read (all_cells ys)))
      ∙ items_append (keyed_by labels (filter_map read (all_cells xs))) (keyed_by labels (filter_map read (all_cells ys))) n

  pub two_give : (front between back : List StepCells) (a b : StepCells) → has_some (read_under (a ∷ [])) ≡ true → has_some (read_under (b ∷ [])) ≡ true → has_several (read_under (front ++ a ∷ (between ++ b ∷ back))) ≡ true
  two_give front between back a b p q =
      let last : has_some (read_under (between ++ b ∷ back)) ≡ true = ap has_some (read_append between (b ∷ back) ∙ ap (λ r. read_under between ++ r) (read_append (b ∷ []) back)) ∙ some_behind (read_under between) (read_under (b ∷ []) ++ read_under back) (some_before (read_under (b ∷ [])) (read_under back) q) in
      let both : has_several (read_under (a ∷ (between ++ b ∷ back))) ≡ true = ap has_several (read_append (a ∷ []) (between ++ b ∷ back)) ∙ several_of_two (read_under (a ∷ [])) (read_under (between ++ b ∷ back)) p last in
      ap has_several (read_append front (a ∷ (between ++ b ∷ back))) ∙ several_behind (read_under front) (read_under (a ∷ (between ++ b ∷ back))) both
