-- Rules that one side of an operator hands to the other leave out no row that has a partner.
use Rattle.std.proofs.Common.{◌≡◌, ◌∙◌, ℕ, List, [], ◌∷◌, map, ap, ap₂, sym, refl, Some, None, Bool, true, false}
use Rattle.std.specs.Prelude.{ℤ, Option, filter}
use Rattle.std.specs.List.{AllByRecursion}
use Rattle.std.specs.List.Sorted.{IsStrictlySortedBy}
use Rattle.std.specs.BTreeMap.{is_at}
use Rattle.std.specs.Map.{keys_of}
use Rattle.std.specs.declared.cmp.Ordering.TheVariants.{Less, Equal}
use Rattle.std.proofs.lemmas.Cmp.{tied_itself}
use Rattle.label_set.specs.Entries.{all_keys_insert, sorted_insert}
use Rattle.label_set.specs.Labels.{IsLabelSet, byte_cmp, labels_cmp, metric_name, value_at, without}
use Rattle.label_set.specs.LabelOrder.{by_labels, labels_cmp_total}
use Rattle.label_set.specs.declared.rules.Pairing.{Pairing}
use Rattle.label_set.specs.declared.rules.Rule.{Rule}
use Rattle.match_rule.specs.Patterns.{labels_pass}
use Rattle.promql_ast.specs.declared.tree.Moment.{Moment}
use Rattle.promql_meaning.specs.Filters.{MoreRulesFilterRows}
use Rattle.promql_meaning.specs.Givens.{no_marks, unstamped}
use Rattle.promql_meaning.specs.Selecting.{AllSeries, Asked, Samples, moment_of, newest, newest_rows}
use Rattle.promql_meaning.specs.declared.given.Given.TheVariants as given
use Rattle.step_table.specs.Groups.{Names}
use Rattle.step_table.specs.Matching.{paired}
use Rattle.step_table.specs.Sets.{step_of_rows}
use Rattle.step_table.specs.declared.step.Row.{Row}
use Rattle.step_table.specs.declared.step.Step.{Step}
use Rattle.ticks.specs.declared.moment.Ms.{Ms}
use Rattle.xfrac.specs.declared.value.PairOp.{PairOp}
use Rattle.xfrac.specs.declared.value.XFrac.{XFrac}
use Rattle.logical_plan.specs.declared.nodes.PlanNode.TheVariants as node
use Rattle.logical_plan.specs.declared.nodes.PlanNode.TheOpen.{PlanNode-F}
use Rattle.logical_plan.specs.Lowering.{planned}
use Rattle.logical_plan.specs.PlanFolds.{of-Select}
use Rattle.logical_plan.specs.PlanMeaning.{node_meant}
use Rattle.plan_rewrite.specs.NodeMeanings.{at_pair}
use Rattle.plan_rewrite.specs.Rebuilding.{node_of}
use Rattle.plan_rewrite.specs.RuleLists.{AreTogether}
use Rattle.plan_rewrite.specs.RulesSplit.{rows_split}
use Rattle.opt_matchers.specs.Handing.{HaveLabelSets}
use Rattle.opt_matchers.proofs.Partners.{Apart, HasPartners, filtered_apart, no_duplicates, pairs_kept, same_of, wordless}
use Rattle.opt_matchers.proofs.Signed.{pass_same, same_labels}

-- what passes rules has a metric's name
abbrev pub AskName : Asked → List Rule → List ℕ → Type 0
AskName asked rules name = (names : Names) → labels_pass asked.kept rules names ≡ true → value_at names metric_name ≡ Some name

-- rules that are on other labels than the metric's name, and that what passes some rules passes
pub record AreHanded (asked : Asked) (rules more : List Rule) : Type 0 where
  pub others : AllByRecursion (λ (rule : Rule). is_at (byte_cmp rule.label) metric_name ≡ false) more
  pub part : (names : Names) → labels_pass asked.kept rules names ≡ true → labels_pass asked.kept more names ≡ true

-- ---- all series, by their labels

by_labels_sorted : (ss : AllSeries) → IsStrictlySortedBy labels_cmp (keys_of (by_labels ss))
unfolding IsStrictlySortedBy
by_labels_sorted [] = tt
by_labels_sorted (s ∷ ss) = sorted_insert labels_cmp labels_cmp_total s.0 s.1 (by_labels ss) (by_labels_sorted ss)

by_labels_sets : (ss : AllSeries) → AllByRecursion (λ (s : Names × Samples). IsLabelSet s.0) ss → AllByRecursion IsLabelSet (keys_of (by_labels ss))
by_labels_sets [] a = tt
by_labels_sets (s ∷ ss) a = all_keys_insert labels_cmp IsLabelSet s.0 s.1 (by_labels ss) a.0 (by_labels_sets ss a.1)

module _ (asked : Asked) (closed : Bool) (m : ℤ) (rules : List Rule) where
  abbrev rows_of : AllSeries → List Row
  rows_of ss = map unstamped (newest_rows closed m (filter (λ (s : Names × Samples). labels_pass asked.kept rules s.0) ss))

  -- what holds of each row
  rows_all : (P : Row → Type 0) (ss : AllSeries) → AllByRecursion (λ names. labels_pass asked.kept rules names ≡ true → (v : XFrac) → P (record { labels = names; value = v })) (keys_of ss) → AllByRecursion P (rows_of ss)
  rows_all P [] a = tt
  rows_all P (s ∷ ss) a = by (labels_pass asked.kept rules s.0) (newest closed m s.1) refl refl (rows_all P ss a.1)
    where
      by : (b : Bool) (o : Option (Ms × XFrac)) → labels_pass asked.kept rules s.0 ≡ b → newest closed m s.1 ≡ o → AllByRecursion P (rows_of ss) → AllByRecursion P (rows_of (s ∷ ss))
      by false o is n rest = rw is rest
      by true None is n rest = rw is (rw n rest)
      by true (Some x) is n rest = rw is (rw n (a.0 is x.1, rest))

  module _ (extra : List (List ℕ)) (op : PairOp) (name : List ℕ) (asks : AskName asked rules name) where
    differ : (ps qs : Names) → IsLabelSet ps → IsLabelSet qs → labels_cmp ps qs ≡ Less → labels_pass asked.kept rules ps ≡ true → labels_pass asked.kept rules qs ≡ true
        → is_at (labels_cmp (without (metric_name ∷ []) ps)) (without (metric_name ∷ []) qs) ≡ false
    differ ps qs a b less x y = by (is_at (labels_cmp (without (metric_name ∷ []) ps)) (without (metric_name ∷ []) qs)) refl
      where
        by : (r : Bool) → is_at (labels_cmp (without (metric_name ∷ []) ps)) (without (metric_name ∷ []) qs) ≡ r → is_at (labels_cmp (without (metric_name ∷ []) ps)) (without (metric_name ∷ []) qs) ≡ false
        by false is = is
        by true is =
            let same = same_labels metric_name name ps qs a b (asks ps x) (asks qs y) (same_of extra op _ _ is) in
            let equal : labels_cmp ps qs ≡ Equal = ap (labels_cmp ps) (sym same) ∙ tied_itself labels_cmp_total ps in
            absurd (cc)

    behind : (ps : Names) (ks : List Names) → IsLabelSet ps → labels_pass asked.kept rules ps ≡ true → AllByRecursion (λ k. labels_cmp ps k ≡ Less) ks → AllByRecursion IsLabelSet ks
        → AllByRecursion (λ names. labels_pass asked.kept rules names ≡ true → (v : XFrac) → is_at (labels_cmp (without (metric_name ∷ []) ps)) (without (metric_name ∷ []) names) ≡ false) ks
    behind ps [] set x less sets = tt
    behind ps (k ∷ ks) set x less sets = (λ y v. differ ps k set sets.0 less.0 x y, behind ps ks set x less.1 sets.1)

    -- rows of one name are told apart by their other labels
    rows_apart : (ss : AllSeries) → IsStrictlySortedBy labels_cmp (keys_of ss) → AllByRecursion IsLabelSet (keys_of ss) → Apart extra op (rows_of ss)
    unfolding IsStrictlySortedBy
    rows_apart [] s a = tt
    rows_apart (t ∷ ss) s a = by (labels_pass asked.kept rules t.0) (newest closed m t.1) refl refl (rows_apart ss s.1 a.1)
      where
        by : (b : Bool) (o : Option (Ms × XFrac)) → labels_pass asked.kept rules t.0 ≡ b → newest closed m t.1 ≡ o → Apart extra op (rows_of ss) → Apart extra op (rows_of (t ∷ ss))
        by false o is n rest = rw is rest
        by true None is n rest = rw is (rw n rest)
        by true (Some x) is n rest =
            rw is (rw n (rows_all (λ c. is_at (labels_cmp (without (metric_name ∷ []) t.0)) (without (metric_name ∷ []) c.labels) ≡ false) ss (behind t.0 (keys_of ss) a.0 is s.0 a.1), rest))

-- ---- both sides

module _ (asked : Asked) (extra : List (List ℕ)) (op : PairOp) (a b more_a more_b : List Rule) (to_a : AreHanded asked b more_a) (to_b : AreHanded asked a more_b) where
  abbrev el : Row → Bool
  el row = labels_pass asked.kept more_a row.labels

  abbrev er : Row → Bool
  er row = labels_pass asked.kept more_b row.labels

  abbrev sig : Names → Names
  sig names = without (metric_name ∷ []) names

  partner : (ps qs : Names) → labels_pass asked.kept a ps ≡ true → labels_pass asked.kept b qs ≡ true → is_at (labels_cmp (sig ps)) (sig qs) ≡ true
      → (labels_pass asked.kept more_a ps ≡ true) × (labels_pass asked.kept more_b qs ≡ true)
  partner ps qs x y is =
      let same = same_of extra op (sig ps) (sig qs) is in (
        pass_same metric_name asked.kept more_a ps qs to_a.others same ∙ to_a.part qs y,
        sym (pass_same metric_name asked.kept more_b ps qs to_b.others same) ∙ to_b.part ps x,
      )

  each_right : (ps : Names) (ks : List Names) → labels_pass asked.kept a ps ≡ true
      → AllByRecursion (λ qs. labels_pass asked.kept b qs ≡ true → (v : XFrac) → is_at (labels_cmp (sig ps)) (sig qs) ≡ true → (labels_pass asked.kept more_a ps ≡ true) × (labels_pass asked.kept more_b qs ≡ true)) ks
  each_right ps [] x = tt
  each_right ps (k ∷ ks) x = (λ y v is. partner ps k x y is, each_right ps ks x)

  each_left : (closed : Bool) (mb : ℤ) (ss : AllSeries) (ks : List Names)
      → AllByRecursion (λ ps. labels_pass asked.kept a ps ≡ true → (v : XFrac) → HasPartners extra op el er (rows_of asked closed mb b ss) (record { labels = ps; value = v })) ks
  each_left closed mb ss [] = tt
  each_left closed mb ss (k ∷ ks) = (
    λ x v. rows_all asked closed mb b (λ c. is_at (labels_cmp (sig k)) (sig c.labels) ≡ true → (labels_pass asked.kept more_a k ≡ true) × (labels_pass asked.kept more_b c.labels ≡ true)) ss (each_right k (keys_of ss) x),
    each_left closed mb ss ks,
  )

  rows_kept : (closed_a closed_b : Bool) (ma mb : ℤ) (name : List ℕ) → AskName asked b name → HaveLabelSets asked
      → paired (step_of_rows (rows_of asked closed_a ma a (by_labels asked.samples)) no_marks) (step_of_rows (rows_of asked closed_b mb b (by_labels asked.samples)) no_marks) op (wordless extra)
      ≡ paired (step_of_rows (filter el (rows_of asked closed_a ma a (by_labels asked.samples))) no_marks) (step_of_rows (filter er (rows_of asked closed_b mb b (by_labels asked.samples))) no_marks) op (wordless extra)
  rows_kept closed_a closed_b ma mb name asks sets =
      let ss = by_labels asked.samples in
      let apart = rows_apart asked closed_b mb b extra op name asks ss (by_labels_sorted asked.samples) (by_labels_sets asked.samples sets) in
      pairs_kept extra op el er (rows_of asked closed_a ma a ss) (rows_of asked closed_b mb b ss) no_marks no_marks
      (rows_all asked closed_a ma a (HasPartners extra op el er (rows_of asked closed_b mb b ss)) ss (each_left closed_b mb ss (keys_of ss)))
      (no_duplicates extra op (rows_of asked closed_b mb b ss) apart) (no_duplicates extra op (filter er (rows_of asked closed_b mb b ss)) (filtered_apart extra op er (rows_of asked closed_b mb b ss) apart))

-- ---- the node

module _ (asked : Asked) where
  at_both : (at at' : ℕ) (op : PairOp) (a b : List Rule) (ma mb : Moment) (p : Pairing)
      → node_of asked (node.Pair op (planned at (node.Select a ma false)) (planned at' (node.Select b mb false)) p)
      ≡ record { own = false; gives = λ (t : ℤ). given.Vector (paired (step_of_rows (rows_of asked ma.closed (moment_of asked ma t) a (by_labels asked.samples)) no_marks) (step_of_rows (rows_of asked mb.closed (moment_of asked mb t) b (by_labels asked.samples)) no_marks) op p) }
  at_both at at' op a b ma mb p =
      at_pair asked op (planned at (node.Select a ma false)) (planned at' (node.Select b mb false)) p
      ∙ ap₂ (λ x y. node_meant asked (PlanNode-F.Pair op x y p)) (of-Select (node_meant asked) (λ p. p.node) at a ma false) (of-Select (node_meant asked) (λ p. p.node) at' b mb false)

-- two selectors with the rules of each other
pub both_keep : MoreRulesFilterRows → (asked : Asked) (at at' : ℕ) (op : PairOp) (extra : List (List ℕ)) (a b more_a more_b all_a all_b : List Rule) (ma mb : Moment) (name : List ℕ)
    → HaveLabelSets asked → AskName asked b name → AreTogether asked all_a a more_a → AreTogether asked all_b b more_b → AreHanded asked b more_a → AreHanded asked a more_b
    → node_of asked (node.Pair op (planned at (node.Select a ma false)) (planned at' (node.Select b mb false)) (wordless extra))
    ≡ node_of asked (node.Pair op (planned at (node.Select all_a ma false)) (planned at' (node.Select all_b mb false)) (wordless extra))
both_keep rows_pass asked at at' op extra a b more_a more_b all_a all_b ma mb name sets ask with_a with_b to_a to_b =
    at_both asked at at' op a b ma mb (wordless extra)
    ∙ ap (λ (step : ℤ → Step). record { own = false; gives = λ (t : ℤ). given.Vector (step t) })
    (λ i. λ (t : ℤ). (rows_kept asked extra op a b more_a more_b to_a to_b ma.closed mb.closed (moment_of asked ma t) (moment_of asked mb t) name ask sets
    ∙ ap₂ (λ x y. paired (step_of_rows x no_marks) (step_of_rows y no_marks) op (wordless extra))
    (rows_split asked all_a a more_a with_a rows_pass ma.closed (moment_of asked ma t)) (rows_split asked all_b b more_b with_b rows_pass mb.closed (moment_of asked mb t))) i)
    ∙ sym (at_both asked at at' op all_a all_b ma mb (wordless extra))
