-- A sum divided by a count is the average.
use Rattle.std.proofs.Common.{◌≡◌, ◌∙◌, ℕ, List, [], ◌∷◌, ◌++◌, map, ap, ap₂, sym, refl, subst, Some, None, Bool, true, false, cond, append_assoc}
use Rattle.std.specs.Prelude.{ℤ, Option, ◌||◌, length, fold, nat_lt, if◌then◌else◌}
use Rattle.std.specs.List.{AllByRecursion, filter_map, list_any}
use Rattle.std.specs.BTreeMap.{is_at}
use Rattle.std.specs.BTreeSet.{insert_key}
use Rattle.std.specs.Map.{lookup}
use Rattle.std.specs.Ordering.{is_eq}
use Rattle.std.specs.Set.{sorted_merge}
use Rattle.std.specs.declared.cmp.Ordering.{Ordering}
use Rattle.std.specs.Cmp.{IsTotalOrder}
use Rattle.std.proofs.lemmas.Cmp.{tied_itself}
use Rattle.std.proofs.lemmas.List.Folds.{list_any-append}
use Rattle.func_table.specs.declared.table.Aggregate.{Aggregate}
use Rattle.func_table.specs.declared.table.Aggregate.TheVariants.{Sum, Avg, Count}
use Rattle.func_table.specs.declared.table.Aggregate.TheVariants as aggregate
use Rattle.label_set.specs.Labels.{labels_cmp}
use Rattle.label_set.specs.LabelOrder.{labels_cmp_total, labels_cmp_ties}
use Rattle.label_set.specs.declared.rules.Grouping.{Grouping}
use Rattle.window_fn.specs.Aggregates.{count_of}
use Rattle.xfrac.specs.Arithmetic.{quotient, whole_number}
use Rattle.xfrac.specs.Sums.{sum_of}
use Rattle.xfrac.specs.declared.value.XFrac.{XFrac}
use Rattle.step_table.specs.Groups.{Names, gathered, items_of, names_among}
use Rattle.step_table.specs.KeySets.{lookup_valued, merged-nil}
use Rattle.step_table.specs.OrderLaws.{mark_cmp_total, note_cmp_total}
use Rattle.step_table.specs.Orders.{mark_cmp, note_cmp}
use Rattle.step_table.specs.Outcomes.{mark_of, row_of}
use Rattle.step_table.specs.Unions.{set_of, union, united, with_fatal}
use Rattle.step_table.specs.declared.marks.Mark.{Mark}
use Rattle.step_table.specs.declared.marks.Mark.TheVariants.{OutOfCalendar, Overflow, Irrational, SameLabelset, DuplicateOneSide, ImplicitManyToOne, DuplicateResult}
use Rattle.step_table.specs.declared.marks.Marks.{Marks}
use Rattle.step_table.specs.declared.marks.Note.{Note}
use Rattle.step_table.specs.declared.outcomes.Outcome.{Outcome}
use Rattle.step_table.specs.declared.step.Row.{Row}
use Rattle.step_table.specs.declared.step.Step.{Step}
use Rattle.promql_meaning.specs.Aggregations.{aggregated, group_outcome, keyed_values}
use Rattle.promql_meaning.specs.Outcomes.{with_notes}
use Rattle.logical_plan.specs.PlanRules.{keyed, ratio, ratio_outcome}
use Rattle.logical_plan.specs.declared.nodes.Plan.{Plan}
use Rattle.logical_plan.specs.declared.nodes.PlanNode.TheVariants as node
use Rattle.logical_plan.specs.declared.nodes.PlanNode.TheOpen.{PlanNode-F}
use Rattle.logical_plan.specs.declared.nodes.PlanNode.TheViews.{roll-PlanNode, outs-Group}
use Rattle.logical_plan.specs.declared.nodes.PlanNode.TheFolds.{fold_out-PlanNode}
use Rattle.logical_plan.specs.Lowering.{planned}
use Rattle.logical_plan.specs.PlanFolds.{of-Group}
use Rattle.logical_plan.specs.PlanMeaning.{Meant, givens_at, node_meant, plan_meant}
use Rattle.promql_meaning.specs.Meaning.{step_at, zero_number}
use Rattle.promql_meaning.specs.Selecting.{Asked}
use Rattle.promql_meaning.specs.declared.given.Given.TheVariants as given
use Rattle.plan_rewrite.specs.NodeMeanings.{at_ratio, rolled_means}
use Rattle.plan_rewrite.specs.Rebuilding.{KeepsMeaning, node_of}
use Rattle.opt_split_avg.specs.Averages.{deepest_of, most_nested, nested, split_average}

-- ---- one union more

module _ {K : Type 0} {R : K → K → Ordering} (o : IsTotalOrder R) where
  merged_itself : (xs : List K) → sorted_merge R true xs xs ≡ xs
  merged_itself [] = refl
  merged_itself (x ∷ xs) = rw (tied_itself o x) (ap (λ r. x ∷ r) (merged_itself xs))

-- the marks of a list that has Overflow alone, or nothing
abbrev flags : Bool → List Mark
flags true = Overflow ∷ []
flags false = []

abbrev is_any : List Mark → Bool
is_any [] = false
is_any (m ∷ ms) = true

abbrev AreOverflows : List Mark → Type 0
AreOverflows ms = AllByRecursion (λ m. m ≡ Overflow) ms

abbrev U : List Mark → List Mark → List Mark
U = union mark_cmp

once_more : (m : List Mark) (b : Bool) → U (U m (flags b)) m ≡ U m (flags b)
once_more m false = ap (λ z. U z m) (merged-nil mark_cmp m) ∙ merged_itself mark_cmp_total m ∙ sym (merged-nil mark_cmp m)
once_more [] true = refl
once_more (Overflow ∷ xs) true = ap (λ z. Overflow ∷ z) (ap (λ z. U z xs) (merged-nil mark_cmp xs) ∙ merged_itself mark_cmp_total xs ∙ sym (merged-nil mark_cmp xs))
once_more (OutOfCalendar ∷ xs) true = ap (λ z. Overflow ∷ z) (merged_itself mark_cmp_total (OutOfCalendar ∷ xs))
once_more (Irrational ∷ xs) true = ap (λ z. Overflow ∷ z) (merged_itself mark_cmp_total (Irrational ∷ xs))
once_more (SameLabelset l ∷ xs) true = ap (λ z. Overflow ∷ z) (merged_itself mark_cmp_total (SameLabelset l ∷ xs))
once_more (DuplicateOneSide l ∷ xs) true = ap (λ z. Overflow ∷ z) (merged_itself mark_cmp_total (DuplicateOneSide l ∷ xs))
once_more (ImplicitManyToOne l ∷ xs) true = ap (λ z. Overflow ∷ z) (merged_itself mark_cmp_total (ImplicitManyToOne l ∷ xs))
once_more (DuplicateResult l ∷ xs) true = ap (λ z. Overflow ∷ z) (merged_itself mark_cmp_total (DuplicateResult l ∷ xs))

again : (m : List Mark) (a b : Bool) → U (U m (flags a)) (flags b) ≡ U m (flags (a || b))
again m false b = ap (λ z. U z (flags b)) (merged-nil mark_cmp m)
again m true false = merged-nil mark_cmp (U m (flags true))
again [] true true = refl
again (Overflow ∷ xs) true true = ap (λ z. Overflow ∷ z) (merged-nil mark_cmp (U xs []))
again (OutOfCalendar ∷ xs) true true = refl
again (Irrational ∷ xs) true true = refl
again (SameLabelset l ∷ xs) true true = refl
again (DuplicateOneSide l ∷ xs) true true = refl
again (ImplicitManyToOne l ∷ xs) true true = refl
again (DuplicateResult l ∷ xs) true true = refl

folded_flags : (b : Bool) (ms : List Mark) → AreOverflows ms → fold (insert_key mark_cmp) (flags b) ms ≡ flags (b || is_any ms)
folded_flags true [] a = refl
folded_flags false [] a = refl
folded_flags true (m ∷ ms) a = ap (λ z. fold (insert_key mark_cmp) (insert_key mark_cmp (flags true) z) ms) a.0 ∙ folded_flags true ms a.1
folded_flags false (m ∷ ms) a = ap (λ z. fold (insert_key mark_cmp) (insert_key mark_cmp (flags false) z) ms) a.0 ∙ folded_flags true ms a.1

set_flags : (ms : List Mark) → AreOverflows ms → set_of mark_cmp ms ≡ flags (is_any ms)
set_flags ms a = folded_flags false ms a

notes_same : (n : List Note) → union note_cmp (union note_cmp (union note_cmp n []) (union note_cmp n [])) [] ≡ union note_cmp n []
notes_same n = merged-nil note_cmp (union note_cmp (union note_cmp n []) (union note_cmp n [])) ∙ merged_itself note_cmp_total (union note_cmp n [])

marks_same : (m : Marks) (sums counts ratios averages : List Mark) → counts ≡ [] → AreOverflows sums → AreOverflows ratios → AreOverflows averages
    → (is_any sums || is_any ratios) ≡ is_any averages
    → with_fatal (united (with_fatal m sums) (with_fatal m counts)) ratios ≡ with_fatal m averages
marks_same m sums counts ratios averages none s r a any =
    ap (λ c. with_fatal (united (with_fatal m sums) (with_fatal m c)) ratios) none
    ∙ (λ i. record { fatal = fatal i; notes = notes_same m.notes i })
  where
    fatal : U (U (U m.fatal (set_of mark_cmp sums)) (U m.fatal [])) (set_of mark_cmp ratios) ≡ U m.fatal (set_of mark_cmp averages)
    fatal =
        ap₂ (λ x y. U (U (U m.fatal x) (U m.fatal [])) y) (set_flags sums s) (set_flags ratios r)
        ∙ ap (λ z. U (U (U m.fatal (flags (is_any sums))) z) (flags (is_any ratios))) (merged-nil mark_cmp m.fatal)
        ∙ ap (λ z. U z (flags (is_any ratios))) (once_more m.fatal (is_any sums))
        ∙ again m.fatal (is_any sums) (is_any ratios)
        ∙ ap (λ b. U m.fatal (flags b)) any
        ∙ sym (ap (U m.fatal) (set_flags averages a))

-- ---- group by group

abbrev Group : Type 0
Group = Names × List XFrac

module _ (q : XFrac) (counts : List Row) where
  abbrev sums_of : List Group → List Outcome
  sums_of gs = map (group_outcome Sum q) gs

  abbrev averages_of : List Group → List Outcome
  averages_of gs = map (group_outcome Avg q) gs

  abbrev ratios_of : List Group → List Outcome
  ratios_of gs = map (ratio_outcome counts) (filter_map row_of (sums_of gs))

  abbrev IsFound : Group → Type 0
  IsFound g = lookup (is_at (labels_cmp g.0)) (map keyed counts) ≡ Some (count_of g.1)

  rows_same : (gs : List Group) → AllByRecursion IsFound gs → filter_map row_of (ratios_of gs) ≡ filter_map row_of (averages_of gs)
  rows_same [] a = refl
  rows_same (g ∷ gs) a = by (sum_of g.1) refl (rows_same gs a.1)
    where
      divided : (s : XFrac) (v : Option XFrac) → sum_of g.1 ≡ Some s → quotient s (whole_number (length g.1)) ≡ v
          → filter_map row_of (ratios_of gs) ≡ filter_map row_of (averages_of gs) → filter_map row_of (ratios_of (g ∷ gs)) ≡ filter_map row_of (averages_of (g ∷ gs))
      divided s (Some v) is e rest = rw is (rw a.0 (rw e (ap (λ more. record { labels = g.0; value = v } ∷ more) rest)))
      divided s None is e rest = rw is (rw a.0 (rw e rest))

      by : (o : Option XFrac) → sum_of g.1 ≡ o → filter_map row_of (ratios_of gs) ≡ filter_map row_of (averages_of gs)
          → filter_map row_of (ratios_of (g ∷ gs)) ≡ filter_map row_of (averages_of (g ∷ gs))
      by (Some s) is rest = divided s (quotient s (whole_number (length g.1))) is refl rest
      by None is rest = rw is rest

  record Faults (gs : List Group) : Type 0 where
    sums : AreOverflows (filter_map mark_of (sums_of gs))
    ratios : AreOverflows (filter_map mark_of (ratios_of gs))
    averages : AreOverflows (filter_map mark_of (averages_of gs))
    any : (is_any (filter_map mark_of (sums_of gs)) || is_any (filter_map mark_of (ratios_of gs))) ≡ is_any (filter_map mark_of (averages_of gs))

  or_true : (b : Bool) → (b || true) ≡ true
  or_true true = refl
  or_true false = refl

  faults_same : (gs : List Group) → AllByRecursion IsFound gs → Faults gs
  faults_same [] a = record { sums = tt; ratios = tt; averages = tt; any = refl }
  faults_same (g ∷ gs) a = by (sum_of g.1) refl (faults_same gs a.1)
    where
      divided : (s : XFrac) (v : Option XFrac) → sum_of g.1 ≡ Some s → quotient s (whole_number (length g.1)) ≡ v → Faults gs → Faults (g ∷ gs)
      divided s (Some v) is e rest = record {
        sums = rw is rest.sums;
        ratios = rw is (rw a.0 (rw e rest.ratios));
        averages = rw is (rw e rest.averages);
        any = rw is (rw a.0 (rw e rest.any));
      }
      divided s None is e rest = record {
        sums = rw is rest.sums;
        ratios = rw is (rw a.0 (rw e (refl, rest.ratios)));
        averages = rw is (rw e (refl, rest.averages));
        any = rw is (rw a.0 (rw e (or_true (is_any (filter_map mark_of (sums_of gs))))));
      }

      by : (o : Option XFrac) → sum_of g.1 ≡ o → Faults gs → Faults (g ∷ gs)
      by (Some s) is rest = divided s (quotient s (whole_number (length g.1))) is refl rest
      by None is rest = record {
        sums = rw is (refl, rest.sums);
        ratios = rw is rest.ratios;
        averages = rw is (refl, rest.averages);
        any = rw is refl;
      }

-- ---- each group's count is found

module _ (q : XFrac) (items : List (Names × XFrac)) where
  abbrev under : Names → Group
  under names = (names, items_of items names)

  abbrev count_under : Names → XFrac
  count_under names = count_of (items_of items names)

  counts_are : (ks : List Names) → map keyed (filter_map row_of (map (group_outcome Count q) (map under ks))) ≡ map (λ n. (n, count_under n)) ks
  counts_are [] = refl
  counts_are (k ∷ ks) = ap (λ more. (k, count_under k) ∷ more) (counts_are ks)

  count_faults : (ks : List Names) → filter_map mark_of (map (group_outcome Count q) (map under ks)) ≡ []
  count_faults [] = refl
  count_faults (k ∷ ks) = count_faults ks

  all_there : (front back : List Names) → AllByRecursion (λ n. list_any (is_at (labels_cmp n)) (front ++ back) ≡ true) back
  all_there front [] = tt
  all_there front (n ∷ back) = (
    list_any-append (is_at (labels_cmp n)) front (n ∷ back) ∙ there (list_any (is_at (labels_cmp n)) front) (is_at (labels_cmp n) n) (ap is_eq (tied_itself labels_cmp_total n)),
    subst (λ all. AllByRecursion (λ m. list_any (is_at (labels_cmp m)) all ≡ true) back) (append_assoc front (n ∷ []) back) (all_there (front ++ n ∷ []) back),
  )
    where
      there : (a b : Bool) → b ≡ true → (a || (b || list_any (is_at (labels_cmp n)) back)) ≡ true
      there true b e = refl
      there false b e = ap (λ z. z || list_any (is_at (labels_cmp n)) back) e

  found_in : (all ks : List Names) → AllByRecursion (λ n. list_any (is_at (labels_cmp n)) all ≡ true) ks
      → AllByRecursion (λ (g : Group). lookup (is_at (labels_cmp g.0)) (map (λ n. (n, count_under n)) all) ≡ Some (count_of g.1)) (map under ks)
  found_in all [] a = tt
  found_in all (k ∷ ks) a = (
    lookup_valued labels_cmp_total labels_cmp_ties count_under k all ∙ ap (λ b. cond b (Some (count_under k)) None) a.0,
    found_in all ks a.1,
  )

  counts_found : (all : List Names) → AllByRecursion (IsFound q (filter_map row_of (map (group_outcome Count q) (map under all)))) (map under all)
  counts_found all =
      subst (λ pairs. AllByRecursion (λ (g : Group). lookup (is_at (labels_cmp g.0)) pairs ≡ Some (count_of g.1)) (map under all)) (sym (counts_are all)) (found_in all all (all_there [] all))

-- a sum divided by the count is the average, notes and marks included
pub ratio_is_average : (by : Grouping) (q : XFrac) (label : List ℕ) (v : Step) → ratio (aggregated Sum by q label v) (aggregated Count by q label v) ≡ aggregated Avg by q label v
unfolding gathered
ratio_is_average by q label v =
    let items = keyed_values by v.table.rows in
    let all = names_among items in
    let counts = filter_map row_of (map (group_outcome Count q) (map (under q items) all)) in
    let found = counts_found q items all in
    let faults = faults_same q counts (map (under q items) all) found in
    λ i. record {
      table = record { rows = rows_same q counts (map (under q items) all) found i };
      marks = marks_same (with_notes v.marks []) _ _ _ _ (count_faults q items all) faults.sums faults.ratios faults.averages faults.any i;
    }

-- ---- the node

module _ (asked : Asked) where
  group_means : (at : ℕ) (f : Aggregate) (by : Grouping) (arguments : List Plan) (label : List ℕ)
      → plan_meant asked (planned at (node.Group f by arguments label)) ≡ node_meant asked (PlanNode-F.Group f by (map (plan_meant asked) arguments) label)
  group_means at f by arguments label = of-Group (node_meant asked) (λ p. p.node) at f by arguments label

  pub average_kept : KeepsMeaning asked split_average
  average_kept at (PlanNode-F.Group Avg by arguments label) = one (nat_lt (deepest_of (map nested arguments)) most_nested)
    where
      one : (b : Bool) → node_of asked (if b then node.Ratio (planned at (node.Group Sum by arguments label)) (planned at (node.Group Count by arguments label)) else node.Group Avg by arguments label) ≡ node_of asked (roll-PlanNode (PlanNode-F.Group Avg by arguments label))
      one false =
          fold_out-PlanNode Meant Meant (node_meant asked) (λ p. p.node) (node.Group Avg by arguments label) ∙ rw outs-Group refl
          ∙ sym (rolled_means asked (PlanNode-F.Group Avg by arguments label))
      one true =
          at_ratio asked (planned at (node.Group Sum by arguments label)) (planned at (node.Group Count by arguments label))
          ∙ ap₂ (λ x y. node_meant asked (PlanNode-F.Ratio x y)) (group_means at Sum by arguments label) (group_means at Count by arguments label)
          ∙ ap (λ (step : ℤ → Step). record { own = false; gives = λ (t : ℤ). given.Vector (step t) }) (λ i. λ (t : ℤ). ratio_is_average by zero_number [] (step_at (givens_at (map (plan_meant asked) arguments) t) 0) i)
          ∙ sym (rolled_means asked (PlanNode-F.Group Avg by arguments label))
  average_kept at (PlanNode-F.Group aggregate.Sum by arguments label) = refl
  average_kept at (PlanNode-F.Group aggregate.Min by arguments label) = refl
  average_kept at (PlanNode-F.Group aggregate.Max by arguments label) = refl
  average_kept at (PlanNode-F.Group aggregate.Count by arguments label) = refl
  average_kept at (PlanNode-F.Group aggregate.Group by arguments label) = refl
  average_kept at (PlanNode-F.Group aggregate.Stdvar by arguments label) = refl
  average_kept at (PlanNode-F.Group aggregate.TopK by arguments label) = refl
  average_kept at (PlanNode-F.Group aggregate.BottomK by arguments label) = refl
  average_kept at (PlanNode-F.Group aggregate.Quantile by arguments label) = refl
  average_kept at (PlanNode-F.Group aggregate.CountValues by arguments label) = refl
  average_kept at PlanNode-F.Time = refl
  average_kept at (PlanNode-F.Number value) = refl
  average_kept at (PlanNode-F.Select rules moment stamped) = refl
  average_kept at (PlanNode-F.Range rules moment range) = refl
  average_kept at (PlanNode-F.Subquery inner range step moment) = refl
  average_kept at (PlanNode-F.Element f inner arguments) = refl
  average_kept at (PlanNode-F.Stamp inner) = refl
  average_kept at (PlanNode-F.Window f inner arguments) = refl
  average_kept at (PlanNode-F.Absent labels inner) = refl
  average_kept at (PlanNode-F.Buckets quantile inner) = refl
  average_kept at (PlanNode-F.Relabel rule inner) = refl
  average_kept at (PlanNode-F.Sort down inner) = refl
  average_kept at (PlanNode-F.ScalarOf inner) = refl
  average_kept at (PlanNode-F.VectorOf inner) = refl
  average_kept at (PlanNode-F.Pair op left right pairing) = refl
  average_kept at (PlanNode-F.Set op left right pairing) = refl
  average_kept at (PlanNode-F.Filter base rules) = refl
  average_kept at (PlanNode-F.Ratio sum count) = refl
  average_kept at (PlanNode-F.Once inner) = refl
  average_kept at (PlanNode-F.Gather expr kind engines) = refl
