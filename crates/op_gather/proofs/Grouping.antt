-- The groups of the cells of all engines: each has a cell, no more than there are engines, and all of the kind that is asked.
use Rattle.std.proofs.Common.{◌≡◌, ◌∙◌, ◌<◌, ◌≤◌, ◌+◌, ◌^◌, ℕ, Bool, true, false, cond, List, [], ◌∷◌, ◌++◌, length, map, refl, sym, ap, subst, arith, append_assoc, length-append, suc}
use Rattle.std.specs.Prelude.{◌||◌, filter}
use Rattle.std.specs.BTreeMap.{is_at}
use Rattle.std.specs.List.{AllByRecursion, list_all, list_any}
use Rattle.std.specs.Map.{values_of}
use Rattle.std.specs.Ordering.{is_eq}
use Rattle.std.specs.declared.cmp.Ordering.{Ordering}
use Rattle.std.proofs.lemmas.Bool.{false≢true}
use Rattle.std.proofs.lemmas.Cmp.{tied_itself}
use Rattle.std.proofs.lemmas.List.{map-append}
use Rattle.std.proofs.lemmas.List.Elements.{filter-append}
use Rattle.func_table.specs.declared.table.Aggregate.{Aggregate}
use Rattle.holders.specs.Joins.{both_of}
use Rattle.label_set.specs.LabelOrder.{labels_cmp_total}
use Rattle.label_set.specs.Labels.{labels_cmp}
use Rattle.label_set.specs.declared.rules.Grouping.{Grouping}
use Rattle.step_cells.specs.Joined.{all_cells, keyed_cells}
use Rattle.step_table.specs.Alike.{any_name, has_some, none_shared}
use Rattle.step_table.specs.Groups.{Names, gathered, has_several, items_of, names_among, shared_names}
use Rattle.step_table.specs.declared.cells.Cell.{Cell}
use Rattle.step_table.specs.declared.cells.CellRow.{CellRow}
use Rattle.step_table.specs.declared.cells.PartKind.{PartKind}
use Rattle.step_table.specs.declared.cells.PartKind.TheVariants.{Partial}
use Rattle.step_table.specs.declared.cells.StepCells.{StepCells}
use Rattle.remote_api.specs.Strays.{has_kind, is_cell_of, is_distinct, is_empty, is_group_cell, named}
use Rattle.remote_api.specs.declared.asks.Ask.{Ask}
use Rattle.op_gather.specs.Cells.{AreGroups, MayFinish}
use Rattle.op_gather.specs.Histories.{AreWell}
use Rattle.op_gather.specs.Joins.{with_sets}
use Rattle.op_gather.proofs.Standing.{both_true}

-- ---- what is asked of steps

pub groups_are : (ask : Ask) (f : Aggregate) (by : Grouping) → ask.kind ≡ Partial f by → (steps : List StepCells) → AreWell ask steps → AllByRecursion (AreGroups f) steps
groups_are ask f by e [] a = tt
groups_are ask f by e (step ∷ steps) a =
    let both = both_true (list_all (λ (row : CellRow). has_kind ask step.at row.cell) step.rows) (is_distinct step.rows) a.0 in
    (record { cells = subst (λ (k : PartKind). list_all (λ (row : CellRow). is_cell_of k ask step.at row.cell) step.rows ≡ true) e both.0; distinct = both.1 }, groups_are ask f by e steps a.1)

-- marks that are made sets change no cells
pub sets_groups : (f : Aggregate) (steps : List StepCells) → AllByRecursion (AreGroups f) steps → AllByRecursion (AreGroups f) (map with_sets steps)
sets_groups f [] a = tt
sets_groups f (step ∷ steps) a = (record { cells = a.0.cells; distinct = a.0.distinct }, sets_groups f steps a.1)

-- ---- how many cells have some labels

few_alone : {T : Type 0} (xs : List T) → has_several xs ≡ false → length xs ≤ 1
few_alone [] e = omega arith
few_alone (x ∷ []) e = omega arith
few_alone (x ∷ y ∷ xs) e = absurd (false≢true (sym e))

nothing_in : {T : Type 0} (xs : List T) → is_empty xs ≡ true → xs ≡ []
nothing_in [] e = refl
nothing_in (x ∷ xs) e = absurd (false≢true e)

-- as many cells as labels
as_many : (rows : List CellRow) (n : Names) → length (items_of (keyed_cells rows) n) ≡ length (items_of (named rows) n)
as_many [] n = refl
as_many (row ∷ rows) n = by (is_at (labels_cmp n) row.labels) (as_many rows n)
  where
    by : (b : Bool) → length (items_of (keyed_cells rows) n) ≡ length (items_of (named rows) n)
        → length (values_of (cond b ((row.labels, row.cell) ∷ filter (λ e. is_at (labels_cmp n) e.0) (keyed_cells rows)) (filter (λ e. is_at (labels_cmp n) e.0) (keyed_cells rows))))
        ≡ length (values_of (cond b ((row.labels, true) ∷ filter (λ e. is_at (labels_cmp n) e.0) (named rows)) (filter (λ e. is_at (labels_cmp n) e.0) (named rows))))
    by true e = ap (λ (k : ℕ). suc k) e
    by false e = e

one_of : (rows : List CellRow) (n : Names) → is_distinct rows ≡ true → length (items_of (keyed_cells rows) n) ≤ 1
one_of rows n d =
    let e : length (items_of (keyed_cells rows) n) ≡ length (items_of (named rows) n) = as_many rows n in
    let f : length (items_of (named rows) n) ≤ 1 = few_alone (items_of (named rows) n) (none_shared (named rows) (nothing_in (shared_names (named rows)) d) n) in
    subst (λ (k : ℕ). k ≤ 1) (sym e) f

items_append : {T : Type 0} (xs ys : List (Names × T)) (n : Names) → items_of (xs ++ ys) n ≡ items_of xs n ++ items_of ys n
items_append xs ys n =
    ap values_of (filter-append (λ item. is_at (labels_cmp n) item.0) xs ys) ∙ map-append (λ e. e.1) (filter (λ item. is_at (labels_cmp n) item.0) xs) (filter (λ item. is_at (labels_cmp n) item.0) ys)

under_all : (step : StepCells) (steps : List StepCells) (n : Names)
    → items_of (keyed_cells (all_cells (step ∷ steps))) n ≡ items_of (keyed_cells step.rows) n ++ items_of (keyed_cells (all_cells steps)) n
under_all step steps n =
    ap (λ (items : List (Names × Cell)). items_of items n) (map-append (λ (row : CellRow). (row.labels, row.cell)) step.rows (all_cells steps)) ∙ items_append (keyed_cells step.rows) (keyed_cells (all_cells steps)) n

few_of : (f : Aggregate) (steps : List StepCells) (n : Names) → AllByRecursion (AreGroups f) steps → length (items_of (keyed_cells (all_cells steps)) n) ≤ length steps
few_of f [] n a = omega arith
few_of f (step ∷ steps) n a =
    let l : length (items_of (keyed_cells (all_cells (step ∷ steps))) n) ≡ length (items_of (keyed_cells step.rows) n) + length (items_of (keyed_cells (all_cells steps)) n) =
    ap length (under_all step steps n) ∙ length-append (items_of (keyed_cells step.rows) n) (items_of (keyed_cells (all_cells steps)) n) in
    let one : length (items_of (keyed_cells step.rows) n) ≤ 1 = one_of step.rows n a.0.distinct in
    let rest : length (items_of (keyed_cells (all_cells steps)) n) ≤ length steps = few_of f steps n a.1 in
    omega (arith, l, one, rest)

-- ---- of which kind they are

each_in : (f : Aggregate) (rows : List CellRow) (n : Names) → list_all (λ (row : CellRow). is_group_cell f row.cell) rows ≡ true → AllByRecursion (λ (c : Cell). is_group_cell f c ≡ true) (items_of (keyed_cells rows) n)
each_in f [] n a = tt
each_in f (row ∷ rows) n a =
    let both : (is_group_cell f row.cell ≡ true) × (list_all (λ (row : CellRow). is_group_cell f row.cell) rows ≡ true) = both_true (is_group_cell f row.cell) (list_all (λ (row : CellRow). is_group_cell f row.cell) rows) a in
    by (is_at (labels_cmp n) row.labels) both.0 (each_in f rows n both.1)
  where
    by : (b : Bool) → is_group_cell f row.cell ≡ true → AllByRecursion (λ (c : Cell). is_group_cell f c ≡ true) (items_of (keyed_cells rows) n)
        → AllByRecursion (λ (c : Cell). is_group_cell f c ≡ true) (values_of (cond b ((row.labels, row.cell) ∷ filter (λ e. is_at (labels_cmp n) e.0) (keyed_cells rows)) (filter (λ e. is_at (labels_cmp n) e.0) (keyed_cells rows))))
    by true h rest = (h, rest)
    by false h rest = rest

each_of : (f : Aggregate) (steps : List StepCells) (n : Names) → AllByRecursion (AreGroups f) steps → AllByRecursion (λ (c : Cell). is_group_cell f c ≡ true) (items_of (keyed_cells (all_cells steps)) n)
each_of f [] n a = tt
each_of f (step ∷ steps) n a =
    subst (AllByRecursion (λ (c : Cell). is_group_cell f c ≡ true)) (sym (under_all step steps n))
    (both_of (λ (c : Cell). is_group_cell f c ≡ true) (items_of (keyed_cells step.rows) n) (items_of (keyed_cells (all_cells steps)) n) (each_in f step.rows n a.0.cells) (each_of f steps n a.1))

-- ---- all groups

or_true : (b : Bool) → (b || true) ≡ true
or_true true = refl
or_true false = refl

some_there : {T : Type 0} (xs : List T) → has_some xs ≡ true → 0 < length xs
some_there [] e = absurd (false≢true e)
some_there (x ∷ xs) e = omega arith

any_here : (front : List Names) (n : Names) (ks : List Names) → list_any (is_at (labels_cmp n)) (front ++ n ∷ ks) ≡ true
any_here [] n ks = ap (λ (r : Ordering). is_eq r || list_any (is_at (labels_cmp n)) ks) (tied_itself labels_cmp_total n)
any_here (m ∷ front) n ks = ap (λ (b : Bool). is_at (labels_cmp n) m || b) (any_here front n ks) ∙ or_true (is_at (labels_cmp n) m)

module _ (f : Aggregate) (h : Names → List Cell) (all : List Names) (may : (n : Names) → list_any (is_at (labels_cmp n)) all ≡ true → MayFinish f (h n)) where
  each_may : (front ks : List Names) → front ++ ks ≡ all → AllByRecursion (λ (group : Names × List Cell). MayFinish f group.1) (map (λ (n : Names). (n, h n)) ks)
  each_may front [] e = tt
  each_may front (n ∷ ks) e = (may n (ap (list_any (is_at (labels_cmp n))) (sym e) ∙ any_here front n ks), each_may (front ++ n ∷ []) ks (append_assoc front (n ∷ []) ks ∙ e))

pub groups_may : (f : Aggregate) (steps : List StepCells) → length steps < 2 ^ 32 → AllByRecursion (AreGroups f) steps
    → AllByRecursion (λ (group : Names × List Cell). MayFinish f group.1) (gathered (keyed_cells (all_cells steps)))
unfolding gathered
groups_may f steps few a =
    each_may f (items_of (keyed_cells (all_cells steps))) (names_among (keyed_cells (all_cells steps)))
    (λ (n : Names) e. record {
      some = some_there (items_of (keyed_cells (all_cells steps)) n) (sym (any_name (keyed_cells (all_cells steps)) n) ∙ e);
      few = let l : length (items_of (keyed_cells (all_cells steps)) n) ≤ length steps = few_of f steps n a in omega (arith, l, few);
      each = each_of f steps n a;
    })
    [] (names_among (keyed_cells (all_cells steps))) refl
