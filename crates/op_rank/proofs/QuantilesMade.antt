-- The quantiles of the groups that end are those of the groups of rows.
use Rattle.std.proofs.Common.{◌≡◌, ◌∙◌, ℕ, zero, suc, ◌+◌, ◌<◌, ◌≤◌, Bool, true, false, cond, List, [], ◌∷◌, ◌++◌, length, get_or, slice_get, map, refl, sym, ap, subst, arith, Option, Some, None}
use Rattle.std.specs.Prelude.{◌==◌, ◌||◌, not, filter, pos, if◌then◌else◌, ⊤}
use Rattle.std.specs.BTreeMap.{is_at}
use Rattle.std.specs.BTreeSet.{insert_key}
use Rattle.std.specs.List.{All, AllByRecursion, IsDistinct, list_any}
use Rattle.std.specs.List.Sorted.{IsPermutation, IsStrictlySortedBy}
use Rattle.std.specs.Map.{keys_of, values_of}
use Rattle.std.specs.Cmp.{IsTotalOrder}
use Rattle.std.specs.Ordering.{is_eq}
use Rattle.std.specs.declared.cmp.Ordering.{Ordering}
use Rattle.std.specs.declared.cmp.Ordering.TheVariants.{Less, Equal, Greater}
use Rattle.std.proofs.lemmas.Bool.{eqb-true, eq-eqb, ne_eqb}
use Rattle.std.proofs.lemmas.Cmp.{tied_itself}
use Rattle.std.proofs.lemmas.List.Elements.{All-from_recursion, recursion_from_All}
use Rattle.std.proofs.lemmas.List.Sorted.{All-permutation}
use Rattle.label_set.specs.LabelEquality.{labels_eq}
use Rattle.label_set.specs.LabelOrder.{labels_cmp_ties, labels_cmp_total}
use Rattle.label_set.specs.Labels.{labels_cmp}
use Rattle.label_set.specs.declared.rules.Grouping.{Grouping}
use Rattle.func_table.specs.declared.table.Aggregate.TheVariants.{Quantile}
use Rattle.promql_meaning.specs.Aggregations.{group_outcome, keyed_values, summarised}
use Rattle.promql_meaning.specs.Givens.{barren, marked, with_scalar}
use Rattle.promql_meaning.specs.Outcomes.{range_notes_of, with_notes}
use Rattle.promql_meaning.specs.Ranks.{kept_labels}
use Rattle.step_batch.specs.Laws.{LentRowsAreThoseOfSlots}
use Rattle.step_batch.specs.Lent.{SlotsRise, entries_of, step_of}
use Rattle.step_batch.specs.declared.steps.PlacedStep.{PlacedStep}
use Rattle.step_batch.specs.declared.steps.Slot.{Slot}
use Rattle.step_put.specs.Placed.{PlacesRise, made_step, outcomes_of}
use Rattle.step_put.specs.Puts.{AreAt}
use Rattle.step_put.specs.declared.labels_left.Left.TheVariants as kind
use Rattle.step_put.specs.declared.placed.PlacedOutcome.{PlacedOutcome}
use Rattle.step_table.specs.Alike.{same_sets}
use Rattle.step_table.specs.Gathering.{nothing_more, settled_table}
use Rattle.step_table.specs.Groups.{Names, gathered, items_of, names_among}
use Rattle.step_table.specs.KeySets.{any_of_set, set_of_sorted, sorted_insert, sorted_set}
use Rattle.step_table.specs.Laws.{TakenIsTable}
use Rattle.step_table.specs.Operators.{some_value}
use Rattle.step_table.specs.Outcomes.{settled, taken}
use Rattle.step_table.specs.Shuffles.{OutcomesIgnoreOrder, Shuffled, none, kept, swapped, joined}
use Rattle.step_table.specs.Shuffling.{any_shuffled, from_permutation, itself, items_shuffled, mapped_shuffled, names_shuffled, set_shuffled, to_permutation, turned_back}
use Rattle.step_table.specs.Timed.{StepAt}
use Rattle.step_table.specs.Unions.{set_of, united}
use Rattle.step_table.specs.declared.marks.Marks.{Marks}
use Rattle.step_table.specs.declared.outcomes.Outcome.{Outcome}
use Rattle.step_table.specs.declared.step.Row.{Row}
use Rattle.step_table.specs.declared.step.Step.{Step}
use Rattle.ticks.specs.declared.moment.Ms.{Ms}
use Rattle.window_fn.specs.Aggregates.{quantile_of}
use Rattle.window_fn.specs.Laws.{OrderDoesntMatter}
use Rattle.xfrac.specs.Laws.{IsNumber}
use Rattle.xfrac.specs.declared.value.XFrac.{XFrac}
use Rattle.op_rank.specs.Contenders.{number_at}
use Rattle.op_rank.specs.Entries.{AreNumberEntries, entry_of}
use Rattle.op_rank.specs.Quantiles.{AreMade, GroupsRise, ended, group_made, is_end, made_until, marks_noted, quantile_at, value_asked, values_in}
use Rattle.op_rank.specs.declared.entries.Entry.{Entry}
use Rattle.op_rank.proofs.FirstsMade.{AreWithin, get_some, map_there, map_count, one_place, placed_there, row_at, rows_are, rows_at, same_some, at_same, within_all}
use Rattle.op_rank.proofs.Splitting.{ends_from, strictly_above}

-- ---- a list of which no two are equal is its set in another order

module _ {K : Type 0} {R : K → K → Ordering} (o : IsTotalOrder R) (ties : (x y : K) → R x y ≡ Equal → x ≡ y) where
  abbrev pub AreDistinct : List K → Type 0
  AreDistinct [] = ⊤
  AreDistinct (k ∷ ks) = (list_any (is_at (R k)) ks ≡ false) × AreDistinct ks

  insert_new : (k : K) (ks : List K) → list_any (is_at (R k)) ks ≡ false → Shuffled (k ∷ ks) (insert_key R ks k)
  insert_new k [] n = itself (k ∷ [])
  insert_new k (x ∷ ks) n = pick (R k x) refl (insert_new k ks (later (is_at (R k) x) (list_any (is_at (R k)) ks) n))
    where
      later : (a b : Bool) → (a || b) ≡ false → b ≡ false
      later true b h = absurd (cc)
      later false b h = h

      first : (a b : Bool) → (a || b) ≡ false → a ≡ false
      first true b h = absurd (cc)
      first false b h = refl

      pick : (r : Ordering) → R k x ≡ r → Shuffled (k ∷ ks) (insert_key R ks k) → Shuffled (k ∷ x ∷ ks) (insert_key R (x ∷ ks) k)
      pick Less e rest = rw e (itself (k ∷ x ∷ ks))
      pick Equal e rest = let here : is_at (R k) x ≡ true = ap is_eq e in let away : is_at (R k) x ≡ false = first (is_at (R k) x) (list_any (is_at (R k)) ks) n in absurd (cc)
      pick Greater e rest = rw e (joined (k ∷ x ∷ ks) (x ∷ k ∷ ks) (x ∷ insert_key R ks k) (swapped k x ks) (kept x (k ∷ ks) (insert_key R ks k) rest))

  sorted_of : (ks : List K) → AreDistinct ks → (zs : List K) × IsStrictlySortedBy R zs × Shuffled ks zs
  unfolding IsStrictlySortedBy
  sorted_of [] d = ([], tt, none)
  sorted_of (k ∷ ks) d =
      let r = sorted_of ks d.1 in
      (insert_key R r.0 k, sorted_insert o ties k r.0 r.1, joined (k ∷ ks) (k ∷ r.0) (insert_key R r.0 k) (kept k ks r.0 r.2) (insert_new k r.0 (sym (any_shuffled (is_at (R k)) ks r.0 r.2) ∙ d.0)))

  pub set_distinct : (ks : List K) → AreDistinct ks → Shuffled ks (set_of R ks)
  set_distinct ks d =
      let r = sorted_of ks d in
      subst (Shuffled ks) (sym (set_shuffled o ties ks r.0 r.2 ∙ set_of_sorted o r.0 r.1)) r.2

  pub same_set : (xs ys : List K) → ((k : K) → list_any (is_at (R k)) xs ≡ list_any (is_at (R k)) ys) → set_of R xs ≡ set_of R ys
  same_set xs ys e = same_sets o ties (set_of R xs) (set_of R ys) (sorted_set o ties xs) (sorted_set o ties ys) (λ k. any_of_set o ties (is_at (R k)) xs ∙ e k ∙ sym (any_of_set o ties (is_at (R k)) ys))

-- ---- names

abbrev pub name : List Names → ℕ → Names
name names g = get_or names g []

pub name_same : (names : List Names) (i j : ℕ) → IsDistinct labels_eq names → i < length names → j < length names → is_at (labels_cmp (name names i)) (name names j) ≡ (i == j)
name_same names i j d l m = pick (i == j) refl (is_at (labels_cmp (name names i)) (name names j)) refl
  where
    tied : (n : Names) → is_at (labels_cmp n) n ≡ true
    tied n = rw (tied_itself labels_cmp_total n) refl

    pick : (b : Bool) → (i == j) ≡ b → (c : Bool) → is_at (labels_cmp (name names i)) (name names j) ≡ c → is_at (labels_cmp (name names i)) (name names j) ≡ (i == j)
    pick true e true f = f ∙ sym e
    pick false e false f = f ∙ sym e
    pick true e false f =
        let same : i ≡ j = eqb-true i j e in
        let yes : is_at (labels_cmp (name names i)) (name names j) ≡ true = subst (λ (n : ℕ). is_at (labels_cmp (name names i)) (name names n) ≡ true) same (tied (name names i)) in
        absurd (cc)
    pick false e true f =
        let same : name names i ≡ name names j = at_same (name names i) (name names j) f in
        let place : i ≡ j = one_place names (name names i) i j d (get_some names i [] l) (get_some names j [] m ∙ ap (λ (z : Names). Some z) (sym same)) in
        let yes : (i == j) ≡ true = eq-eqb i j place in
        absurd (cc)

abbrev keyed_entries : List Names → List Entry → List (Names × XFrac)
keyed_entries names es = map (λ (e : Entry). (name names e.group, e.value)) es

abbrev AreIn : ℕ → List Entry → Type 0
AreIn n es = AllByRecursion (λ (e : Entry). e.group < n) es

module _ (names : List Names) (d : IsDistinct labels_eq names) where
  values_are : (g : ℕ) (es : List Entry) → g < length names → AreIn (length names) es → values_in g es ≡ items_of (keyed_entries names es) (name names g)
  values_are g [] l w = refl
  values_are g (e ∷ es) l w =
      let same : (g == e.group) ≡ is_at (labels_cmp (name names g)) (name names e.group) = sym (name_same names g e.group d l w.0) in
      (λ j. if same j then e.value ∷ values_are g es l w.1 j else values_are g es l w.1 j) ∙ inside (is_at (labels_cmp (name names g)) (name names e.group))
    where
      inside : (b : Bool) → (if b then e.value ∷ items_of (keyed_entries names es) (name names g) else items_of (keyed_entries names es) (name names g))
          ≡ values_of (cond b ((name names e.group, e.value) ∷ filter (λ (item : Names × XFrac). is_at (labels_cmp (name names g)) item.0) (keyed_entries names es)) (filter (λ (item : Names × XFrac). is_at (labels_cmp (name names g)) item.0) (keyed_entries names es)))
      inside true = refl
      inside false = refl

  -- ---- the groups that end

  above_all : (e : Entry) (es : List Entry) → GroupsRise (e ∷ es) → is_end e es ≡ true → AllByRecursion (λ (o : Entry). e.group + 1 ≤ o.group) es
  above_all e [] r n = tt
  above_all e (o ∷ es) r n =
      let less : e.group + 1 ≤ o.group = above e.group o.group r.0.0 (unnot (o.group == e.group) n) in
      (less, later (e.group + 1) o es less r.1.0)
    where
      unnot : (b : Bool) → not b ≡ true → b ≡ false
      unnot true h = absurd (cc)
      unnot false h = refl

      above : (a b : ℕ) → a ≤ b → (b == a) ≡ false → a + 1 ≤ b
      above a b l h = let less : a < b = strictly_above a b l h in omega arith

      later : (low : ℕ) (o : Entry) (es : List Entry) → low ≤ o.group → AllByRecursion (λ (x : Entry). o.group ≤ x.group) es → AllByRecursion (λ (x : Entry). low ≤ x.group) es
      later low o [] l a = tt
      later low o (x ∷ es) l a = let m : o.group ≤ x.group = a.0 in (omega arith, later low o es l a.1)

  ended_within : (n i : ℕ) (es : List Entry) → AreIn n es → AllByRecursion (λ (g : ℕ). g < n) (ended i es)
  ended_within n zero es w = tt
  ended_within n (suc i) [] w = tt
  ended_within n (suc i) (e ∷ es) w = pick (is_end e es) (ended_within n i es w.1)
    where
      pick : (b : Bool) → AllByRecursion (λ (g : ℕ). g < n) (ended i es) → AllByRecursion (λ (g : ℕ). g < n) (if b then e.group ∷ ended i es else ended i es)
      pick true rest = (w.0, rest)
      pick false rest = rest

  none_named : (g : ℕ) (gs : List ℕ) → g < length names → AllByRecursion (λ (h : ℕ). g + 1 ≤ h) gs → AllByRecursion (λ (h : ℕ). h < length names) gs → list_any (is_at (labels_cmp (name names g))) (map (name names) gs) ≡ false
  none_named g [] l a w = refl
  none_named g (h ∷ gs) l a w =
      let m : g + 1 ≤ h = a.0 in
      let out : is_at (labels_cmp (name names g)) (name names h) ≡ false = name_same names g h d l w.0 ∙ ne_eqb g h (λ e. absurd (omega arith)) in
      ap (λ (b : Bool). b || list_any (is_at (labels_cmp (name names g))) (map (name names) gs)) out ∙ none_named g gs l a.1 w.1

  ended_distinct : (i : ℕ) (es : List Entry) → GroupsRise es → AreIn (length names) es → AreDistinct labels_cmp_total labels_cmp_ties (map (name names) (ended i es))
  ended_distinct zero es r w = tt
  ended_distinct (suc i) [] r w = tt
  ended_distinct (suc i) (e ∷ es) r w = pick (is_end e es) refl (ended_distinct i es r.1 w.1)
    where
      pick : (b : Bool) → is_end e es ≡ b → AreDistinct labels_cmp_total labels_cmp_ties (map (name names) (ended i es)) → AreDistinct labels_cmp_total labels_cmp_ties (map (name names) (if b then e.group ∷ ended i es else ended i es))
      pick true n rest = (none_named e.group (ended i es) w.0 (ends_from (e.group + 1) i es (above_all e es r n)) (ended_within (length names) i es w.1), rest)
      pick false n rest = rest

  -- the labels of groups that end are those of all entries
  ended_any : (p : Names → Bool) (i : ℕ) (es : List Entry) → i ≡ length es → list_any p (map (name names) (ended i es)) ≡ list_any p (keys_of (keyed_entries names es))
  ended_any p i [] n = ap (λ (m : ℕ). list_any p (map (name names) (ended m []))) n
  ended_any p zero (e ∷ es) n = absurd (omega arith)
  ended_any p (suc i) (e ∷ []) n = let none : i ≡ 0 = omega arith in ap (λ (m : ℕ). p (name names e.group) || list_any p (map (name names) (ended m []))) none
  ended_any p (suc i) (e ∷ o ∷ es) n = pick (o.group == e.group) refl (ended_any p i (o ∷ es) (omega arith))
    where
      twice : (a b : Bool) → (a || b) ≡ (a || (a || b))
      twice true b = refl
      twice false b = refl

      pick : (b : Bool) → (o.group == e.group) ≡ b → list_any p (map (name names) (ended i (o ∷ es))) ≡ list_any p (keys_of (keyed_entries names (o ∷ es)))
          → list_any p (map (name names) (if not b then e.group ∷ ended i (o ∷ es) else ended i (o ∷ es))) ≡ list_any p (keys_of (keyed_entries names (e ∷ o ∷ es)))
      pick false h rest = ap (λ (b : Bool). p (name names e.group) || b) rest
      pick true h rest =
          let same : o.group ≡ e.group = eqb-true o.group e.group h in
          rest ∙ twice (p (name names o.group)) (list_any p (keys_of (keyed_entries names es))) ∙ ap (λ (g : ℕ). p (name names g) || (p (name names o.group) || list_any p (keys_of (keyed_entries names es)))) same

  ended_names : (es : List Entry) → GroupsRise es → AreIn (length names) es → Shuffled (map (name names) (ended (length es) es)) (names_among (keyed_entries names es))
  ended_names es r w =
      subst (Shuffled (map (name names) (ended (length es) es))) (same_set labels_cmp_total labels_cmp_ties (map (name names) (ended (length es) es)) (keys_of (keyed_entries names es)) (λ k. ended_any (is_at (labels_cmp k)) (length es) es refl))
      (set_distinct labels_cmp_total labels_cmp_ties (map (name names) (ended (length es) es)) (ended_distinct (length es) es r w))

  made_rise : (q : XFrac) (all : List Entry) (low i : ℕ) (es : List Entry) → GroupsRise es → AreIn (length names) es → AllByRecursion (λ (o : Entry). low ≤ o.group) es → PlacesRise low (length names) (map (group_made q all) (ended i es))
  made_rise q all low zero es r w a = tt
  made_rise q all low (suc i) [] r w a = tt
  made_rise q all low (suc i) (e ∷ es) r w a = pick (is_end e es) refl (made_rise q all low i es r.1 w.1 a.1) (λ n. made_rise q all (e.group + 1) i es r.1 w.1 (above_all e es r n))
    where
      pick : (b : Bool) → is_end e es ≡ b → PlacesRise low (length names) (map (group_made q all) (ended i es)) → (is_end e es ≡ true → PlacesRise (e.group + 1) (length names) (map (group_made q all) (ended i es)))
          → PlacesRise low (length names) (map (group_made q all) (if b then e.group ∷ ended i es else ended i es))
      pick true n rest above = (a.0, w.0, above n)
      pick false n rest above = rest

  -- ---- outcomes

  abbrev outcome_named : XFrac → List Entry → Names → Outcome
  outcome_named q es n = record { labels = n; value = some_value (quantile_of q (items_of (keyed_entries names es) n)) }

  made_named : (q : XFrac) (es : List Entry) (gs : List ℕ) → AreIn (length names) es → AllByRecursion (λ (g : ℕ). g < length names) gs → outcomes_of kind.All names (map (group_made q es) gs) ≡ map (outcome_named q es) (map (name names) gs)
  made_named q es [] w a = refl
  made_named q es (g ∷ gs) w a =
      let e = get_some names g [] a.0 in
      let value = ap (λ (vs : List XFrac). some_value (quantile_of q vs)) (values_are g es a.0 w) in
      rw e (λ j. record { labels = name names g; value = value j } ∷ made_named q es gs w a.1 j)

numbers_of : (names : List Names) (es : List Entry) (n : Names) → AreNumberEntries es → AllByRecursion IsNumber (items_of (keyed_entries names es) n)
numbers_of names [] n a = tt
numbers_of names (e ∷ es) n a = pick (is_at (labels_cmp n) (name names e.group)) (numbers_of names es n a.1)
  where
    pick : (b : Bool) → AllByRecursion IsNumber (items_of (keyed_entries names es) n)
        → AllByRecursion IsNumber (values_of (cond b ((name names e.group, e.value) ∷ filter (λ (item : Names × XFrac). is_at (labels_cmp n) item.0) (keyed_entries names es)) (filter (λ (item : Names × XFrac). is_at (labels_cmp n) item.0) (keyed_entries names es))))
    pick true rest = (a.0, rest)
    pick false rest = rest

-- the outcomes of groups of rows, by the labels of groups
theirs_named : OrderDoesntMatter → (q : XFrac) (names : List Names) (es : List Entry) (items : List (Names × XFrac)) → AreNumberEntries es → Shuffled (keyed_entries names es) items
    → map (group_outcome Quantile q) (gathered items) ≡ map (λ (n : Names). record { labels = n; value = some_value (quantile_of q (items_of (keyed_entries names es) n)) }) (names_among (keyed_entries names es))
unfolding gathered
theirs_named law q names es items a s = each (names_among items) ∙ ap (map (λ (n : Names). record { labels = n; value = some_value (quantile_of q (items_of (keyed_entries names es) n)) })) (sym (names_shuffled (keyed_entries names es) items s))
  where
    one : (n : Names) → quantile_of q (items_of items n) ≡ quantile_of q (items_of (keyed_entries names es) n)
    one n = (law (items_of (keyed_entries names es) n) (items_of items n) (All-from_recursion IsNumber (items_of (keyed_entries names es) n) (numbers_of names es n a)) (to_permutation (items_of (keyed_entries names es) n) (items_of items n) (items_shuffled (keyed_entries names es) items s n))).quantiles q

    each : (ns : List Names) → map (group_outcome Quantile q) (map (λ (n : Names). (n, items_of items n)) ns) ≡ map (λ (n : Names). record { labels = n; value = some_value (quantile_of q (items_of (keyed_entries names es) n)) }) ns
    each [] = refl
    each (n ∷ ns) = λ j. record { labels = n; value = some_value (one n j) } ∷ each ns j

pub named_labels : (f : Names → Outcome) (same : (n : Names) → (f n).labels ≡ n) (ns : List Names) → map (λ (o : Outcome). o.labels) (map f ns) ≡ ns
named_labels f same [] = refl
named_labels f same (n ∷ ns) = λ j. same n j ∷ named_labels f same ns j

-- ---- slots and entries

pub some_get : (names : List Names) (p : ℕ) (n : Names) → slice_get names p ≡ Some n → (p < length names) × (get_or names p [] ≡ n)
some_get [] p n e = absurd (cc)
some_get (x ∷ names) zero n e = (omega arith, same_some x n e)
some_get (x ∷ names) (suc p) n e = let r = some_get names p n e in (omega (arith, r.0), r.1)

module _ (by : Grouping) (fed names : List Names) (places : List ℕ) (a : AreAt names (map (kept_labels by) fed) places) where
  pub group_named : (s : Slot) → s.place < length fed → (number_at places s < length names) × (name names (number_at places s) ≡ kept_labels by (get_or fed s.place []))
  group_named s l =
      let n = map_count (kept_labels by) fed in
      some_get names (number_at places s) (kept_labels by (get_or fed s.place [])) (placed_there names (map (kept_labels by) fed) places s.place a (omega (arith, n, l)) ∙ ap (λ (z : Names). Some z) (map_there (kept_labels by) fed s.place l))

  pub entries_in : (slots : List Slot) → AreWithin (length fed) slots → AreIn (length names) (map (entry_of places) slots)
  entries_in [] w = tt
  entries_in (s ∷ slots) w = ((group_named s w.0).0, entries_in slots w.1)

  entries_keyed : (slots : List Slot) → AreWithin (length fed) slots → keyed_entries names (map (entry_of places) slots) ≡ keyed_values by (map (row_at fed) slots)
  entries_keyed [] w = refl
  entries_keyed (s ∷ slots) w = λ j. ((group_named s w.0).1 j, s.value) ∷ entries_keyed slots w.1 j

notes_same : (q : XFrac) (xs ys : List Row) → Shuffled xs ys → range_notes_of q xs ≡ range_notes_of q ys
notes_same q _ _ none = refl
notes_same q _ _ (kept x xs ys s) = refl
notes_same q _ _ (swapped x y xs) = refl
notes_same q _ _ (joined xs ys zs s t) = notes_same q xs ys s ∙ notes_same q ys zs t

notes_at : (q : XFrac) (fed : List Names) (slots : List Slot) → range_notes_of q slots ≡ range_notes_of q (map (row_at fed) slots)
notes_at q fed [] = refl
notes_at q fed (s ∷ slots) = refl

-- the step of the quantiles that are made
quantile_step : LentRowsAreThoseOfSlots → OutcomesIgnoreOrder → TakenIsTable → OrderDoesntMatter → (by : Grouping) (q : XFrac) (fed names : List Names) (places : List ℕ) (slots : List Slot) (es : List Entry) (own more marks : Marks)
    → IsDistinct labels_eq fed → IsDistinct labels_eq names → AreAt names (map (kept_labels by) fed) places → SlotsRise 0 (length fed) slots → GroupsRise es → AreNumberEntries es → IsPermutation (map (entry_of places) slots) es
    → marks ≡ with_notes (united own more) (range_notes_of q slots)
    → made_step kind.All names marks (made_until q (length es) es) ≡ summarised Quantile by q (marked more (step_of (entries_of fed slots) own))
quantile_step law order table same by q fed names places slots es own more marks df dn a rise r num p em =
    let w : AreWithin (length fed) slots = within_all 0 (length fed) slots rise in
    let placed : PlacedStep = record { at = record { 0 = pos 0 }; slots = slots; marks = own } in
    let rows : List Row = (step_of (entries_of fed slots) own).table.rows in
    let there : Shuffled (rows_at fed slots) rows = law (record { labels = fed; steps = [] }) placed (record { distinct = df; placed = tt; rising = tt }) rise in
    let rows_in : Shuffled (map (row_at fed) slots) rows = subst (λ (z : List Row). Shuffled z rows) (rows_are fed slots w) there in
    let within : AreIn (length names) es = recursion_from_All (λ (e : Entry). e.group < length names) es (All-permutation (λ (e : Entry). e.group < length names) (map (entry_of places) slots) es p (All-from_recursion (λ (e : Entry). e.group < length names) (map (entry_of places) slots) (entries_in by fed names places a slots w))) in
    let items : List (Names × XFrac) = keyed_values by rows in
    let keyed : Shuffled (keyed_entries names es) items =
    joined (keyed_entries names es) (keyed_entries names (map (entry_of places) slots)) items
    (turned_back (keyed_entries names (map (entry_of places) slots)) (keyed_entries names es) (mapped_shuffled (λ (e : Entry). (name names e.group, e.value)) (map (entry_of places) slots) es (from_permutation (map (entry_of places) slots) es p)))
    (subst (λ (z : List (Names × XFrac)). Shuffled z items) (sym (entries_keyed by fed names places a slots w)) (mapped_shuffled (λ (row : Row). (kept_labels by row.labels, row.value)) (map (row_at fed) slots) rows rows_in)) in
    let f : Names → Outcome = λ n. record { labels = n; value = some_value (quantile_of q (items_of (keyed_entries names es) n)) } in
    let ns : List Names = names_among (keyed_entries names es) in
    let mine : outcomes_of kind.All names (made_until q (length es) es) ≡ map f (map (name names) (ended (length es) es)) = made_named names dn q es (ended (length es) es) within (ended_within names dn (length names) (length es) es within) in
    let their : map (group_outcome Quantile q) (gathered items) ≡ map f ns = theirs_named same q names es items num keyed in
    let notes : marks ≡ with_notes (united own more) (range_notes_of q rows) = em ∙ ap (with_notes (united own more)) (notes_at q fed slots ∙ notes_same q (map (row_at fed) slots) rows rows_in) in
    let sorted : IsStrictlySortedBy labels_cmp (map (λ (o : Outcome). o.labels) (map f ns)) = subst (IsStrictlySortedBy labels_cmp) (sym (named_labels f (λ n. refl) ns)) (sorted_set labels_cmp_total labels_cmp_ties (keys_of (keyed_entries names es))) in
    ap (λ (z : List Outcome). settled (taken marks z)) mine
    ∙ order marks (map f (map (name names) (ended (length es) es))) (map f ns) (mapped_shuffled f (map (name names) (ended (length es) es)) ns (ended_names names dn es r within))
    ∙ settled_table (taken marks (map f ns)) (table marks (map f ns) sorted)
    ∙ (λ j. taken (notes j) (sym their j))

none_made : (names : List Names) (marks : Marks) → made_step kind.All names marks [] ≡ barren marks
unfolding IsStrictlySortedBy
none_made names marks = settled_table (taken marks []) tt ∙ ap barren (nothing_more marks)

-- what is made rises
pub filled_rise : (q : Option XFrac) (names : List Names) (places : List ℕ) (slots : List Slot) (placed : List PlacedOutcome) → IsDistinct labels_eq names → All (λ (p : ℕ). p < length names) places → SlotsRise 0 (length places) slots
    → AreMade q places slots placed → PlacesRise 0 (length names) placed
filled_rise None names places slots placed d w r m = subst (PlacesRise 0 (length names)) (sym m) tt
filled_rise (Some q) names places slots placed d w r m =
    let within : AreIn (length names) m.entries = recursion_from_All (λ (e : Entry). e.group < length names) m.entries (All-permutation (λ (e : Entry). e.group < length names) (map (entry_of places) slots) m.entries m.moved (All-from_recursion (λ (e : Entry). e.group < length names) (map (entry_of places) slots) (each 0 slots r))) in
    subst (PlacesRise 0 (length names)) (sym m.made) (made_rise names d q m.entries 0 (length m.entries) m.entries m.rise within (least m.entries))
  where
    each : (low : ℕ) (some : List Slot) → SlotsRise low (length places) some → AreIn (length names) (map (entry_of places) some)
    each low [] r = tt
    each low (s ∷ some) r = (w s.place 0 r.1, each (s.place + 1) some r.2)

    least : (es : List Entry) → AllByRecursion (λ (o : Entry). 0 ≤ o.group) es
    least [] = tt
    least (e ∷ es) = (omega arith, least es)

-- the step that is put, by what is known of each of its parts
pub one_quantile : LentRowsAreThoseOfSlots → OutcomesIgnoreOrder → TakenIsTable → OrderDoesntMatter → (by : Grouping) (fed params names : List Names) (places : List ℕ) (slots pslots : List Slot) (own more : Marks) (t : Ms) (p s : StepAt)
    → (q : Option XFrac) (marks : Marks) (placed : List PlacedOutcome) (old new : List StepAt)
    → AreAt names (map (kept_labels by) fed) places → IsDistinct labels_eq fed → IsDistinct labels_eq names → SlotsRise 0 (length fed) slots → SlotsRise 0 (length params) pslots → length pslots ≤ 1
    → p.step ≡ step_of (entries_of params pslots) more → s ≡ record { at = t; step = step_of (entries_of fed slots) own }
    → q ≡ value_asked pslots → marks ≡ marks_noted q slots (united own more) → AreMade q places slots placed
    → new ≡ old ++ record { at = t; step = made_step kind.All names marks placed } ∷ [] → new ≡ old ++ quantile_at by p s ∷ []
one_quantile law order table same by fed params names places slots pslots own more t p s q marks placed old new a df dn rise prise few ep es eq em m n =
    let step : Step = step_of (entries_of fed slots) own in
    let there : quantile_at by p s ≡ record { at = t; step = with_scalar (λ q. summarised Quantile by q) (step_of (entries_of params pslots) more) step } = λ j. record { at = (es j).at; step = with_scalar (λ q. summarised Quantile by q) (ep j) (es j).step } in
    n ∙ ap (λ (z : Step). old ++ record { at = t; step = z } ∷ []) (told pslots prise few (subst (λ (o : Option XFrac). marks ≡ marks_noted o slots (united own more)) eq em) (subst (λ (o : Option XFrac). AreMade o places slots placed) eq m)) ∙ ap (λ (z : StepAt). old ++ z ∷ []) (sym there)
  where
    told : (ps : List Slot) → SlotsRise 0 (length params) ps → length ps ≤ 1 → marks ≡ marks_noted (value_asked ps) slots (united own more) → AreMade (value_asked ps) places slots placed
        → made_step kind.All names marks placed ≡ with_scalar (λ q. summarised Quantile by q) (step_of (entries_of params ps) more) (step_of (entries_of fed slots) own)
    told [] r f e m = (λ j. made_step kind.All names (e j) (m j)) ∙ none_made names (united own more)
    told (p ∷ []) r f e m =
        let h = get_some params p.place [] r.1 in
        rw h (ap (made_step kind.All names marks) m.made ∙ quantile_step law order table same by p.value fed names places slots m.entries own more marks df dn a rise m.rise m.numbers m.moved e)
    told (p ∷ x ∷ ps) r f e m = absurd (omega arith)
