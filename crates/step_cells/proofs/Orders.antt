-- Rows that share no labels are only brought into order, and an aggregation doesn't depend on the order of its values.
use Rattle.std.proofs.Common.{◌≡◌, ◌∙◌, List, [], ◌∷◌, map, refl, sym, ap, subst}
use Rattle.std.specs.Prelude.{Ok, Some}
use Rattle.std.specs.List.{AllByRecursion, filter_map}
use Rattle.std.specs.List.Sorted.{IsPermutation}
use Rattle.std.specs.Map.{values_of}
use Rattle.std.proofs.lemmas.List.Elements.{All-from_recursion}
use Rattle.func_table.specs.declared.table.Aggregate.{Aggregate}
use Rattle.window_fn.specs.Laws.{AreAggregatedAlike, OrderOfAnyDoesntMatter}
use Rattle.xfrac.specs.AnySize.{InLowestTerms}
use Rattle.xfrac.specs.declared.value.XFrac.{XFrac}
use Rattle.step_table.specs.AllGathered.{all_gathered, all_in}
use Rattle.step_table.specs.Groups.{Names, alone, gathered, items_of, lone_items, names_among, shared_names, shared_of}
use Rattle.step_table.specs.Operators.{some_value}
use Rattle.step_table.specs.Outcomes.{keyed}
use Rattle.step_table.specs.Shuffles.{Shuffled}
use Rattle.step_table.specs.Shuffling.{from_permutation, items_shuffled, names_shuffled, to_permutation}
use Rattle.step_table.specs.declared.step.Row.{Row}
use Rattle.promql_meaning.specs.Aggregations.{aggregate_of, group_outcome, keyed_values}
use Rattle.label_set.specs.declared.rules.Grouping.{Grouping}
use Rattle.step_cells.proofs.Merges.{AllLowest}
use Rattle.step_cells.proofs.SameNames.{each_under, groups_alike}
use Rattle.step_cells.proofs.Asked.{IsAsked}

-- ---- rows

values_keyed : (rows : List Row) → values_of (keyed rows) ≡ rows
values_keyed [] = refl
values_keyed (row ∷ rows) = ap (λ (rs : List Row). row ∷ rs) (values_keyed rows)

all_alone : {T : Type 0} (groups : List (Names × List T)) → filter_map shared_of groups ≡ [] → filter_map (λ (group : Names × List T). alone group.1) groups ≡ all_in groups
all_alone [] e = refl
all_alone ((names, []) ∷ groups) e = all_alone groups e
all_alone ((names, x ∷ []) ∷ groups) e = ap (λ xs. x ∷ xs) (all_alone groups e)
all_alone ((names, x ∷ y ∷ xs) ∷ groups) e = absurd (cc)

pub lone_rows : (rows : List Row) → shared_names (keyed rows) ≡ [] → Shuffled rows (lone_items (keyed rows))
lone_rows rows e =
    from_permutation rows (lone_items (keyed rows))
    (subst (λ xs. IsPermutation rows xs) (sym (all_alone (gathered (keyed rows)) e))
    (subst (λ xs. IsPermutation xs (all_in (gathered (keyed rows)))) (values_keyed rows) (all_gathered (keyed rows))))

-- ---- values

-- what holds of the values of rows holds of those of their groups
pub values_in_groups : (P : XFrac → Type 0) (by : Grouping) (rows : List Row) → AllByRecursion (λ (row : Row). P row.value) rows → AllByRecursion (λ (p : Names × XFrac). P p.1) (keyed_values by rows)
values_in_groups P by [] a = tt
values_in_groups P by (row ∷ rows) a = (a.0, values_in_groups P by rows a.1)

-- an aggregation of values in another order
pub aggregate_shuffled : OrderOfAnyDoesntMatter → (f : Aggregate) (q : XFrac) (xs ys : List XFrac) → IsAsked f → AllLowest xs → Shuffled xs ys → aggregate_of f q ys ≡ aggregate_of f q xs
aggregate_shuffled order f q xs ys is n s = one f is (order xs ys (All-from_recursion InLowestTerms xs n) (to_permutation xs ys s))
  where
    one : (f : Aggregate) → IsAsked f → AreAggregatedAlike xs ys → aggregate_of f q ys ≡ aggregate_of f q xs
    one f IsAsked.sum same = ap some_value same.sum
    one f IsAsked.avg same = ap some_value same.avg
    one f IsAsked.count same = ap (λ (v : XFrac). Ok (Some v)) same.count
    one f IsAsked.group same = refl
    one f IsAsked.min same = ap (λ (v : XFrac). Ok (Some v)) same.min
    one f IsAsked.max same = ap (λ (v : XFrac). Ok (Some v)) same.max

-- what comes of the groups of items in another order
pub outcomes_shuffled : OrderOfAnyDoesntMatter → (f : Aggregate) (q : XFrac) (xs ys : List (Names × XFrac)) → IsAsked f → AllByRecursion (λ (p : Names × XFrac). InLowestTerms p.1) xs → Shuffled xs ys
    → map (group_outcome f q) (gathered ys) ≡ map (group_outcome f q) (gathered xs)
unfolding gathered
outcomes_shuffled order f q xs ys is n s =
    ap (λ ms. map (group_outcome f q) (map (λ m. (m, items_of ys m)) ms)) (sym (names_shuffled xs ys s))
    ∙ groups_alike (group_outcome f q) (group_outcome f q) (items_of ys) (items_of xs)
    (λ m i. record { labels = m; value = aggregate_shuffled order f q (items_of xs m) (items_of ys m) is (each_under InLowestTerms xs m n) (items_shuffled xs ys s m) i }) (names_among xs)
