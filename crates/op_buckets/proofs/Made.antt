-- The quantiles of the histograms that end are those of the histograms of rows.
use Rattle.std.proofs.Common.{◌≡◌, ◌∙◌, ℕ, zero, suc, ◌+◌, ◌<◌, ◌≤◌, Bool, true, false, cond, List, [], ◌∷◌, ◌++◌, length, get_or, slice_get, map, refl, sym, ap, subst, arith, Option, Some, None}
use Rattle.std.specs.Prelude.{◌==◌, ◌||◌, not, filter, pos, if◌then◌else◌, ⊤}
use Rattle.std.specs.BTreeMap.{is_at}
use Rattle.std.specs.BTreeSet.{insert_key}
use Rattle.std.specs.List.{AllByRecursion, IsDistinct, cons_option, filter_map, list_any}
use Rattle.std.specs.List.Sorted.{IsPermutation, IsStrictlySortedBy}
use Rattle.std.specs.Map.{keys_of, values_of}
use Rattle.std.specs.Option.{option_map}
use Rattle.std.specs.Cmp.{IsTotalOrder}
use Rattle.std.specs.Ordering.{is_eq}
use Rattle.std.specs.declared.cmp.Ordering.{Ordering}
use Rattle.std.specs.declared.cmp.Ordering.TheVariants.{Less, Equal, Greater}
use Rattle.std.proofs.lemmas.Bool.{eqb-true, eq-eqb, ne_eqb}
use Rattle.std.proofs.lemmas.Cmp.{tied_itself}
use Rattle.std.proofs.lemmas.List.Elements.{All-from_recursion, recursion_from_All}
use Rattle.std.proofs.lemmas.List.Sorted.{All-permutation}
use Rattle.label_set.specs.LabelEquality.{labels_decide, labels_eq}
use Rattle.label_set.specs.LabelOrder.{labels_cmp_ties, labels_cmp_total, labels_eq_at}
use Rattle.label_set.specs.Labels.{labels_cmp}
use Rattle.promql_meaning.specs.Buckets.{bound_note, bound_of, bound_text, bucket_of, bucket_quantiles, fixed_note, histogram_outcome, histogram_quantile}
use Rattle.promql_meaning.specs.Elements.{nameless}
use Rattle.promql_meaning.specs.Givens.{barren, with_scalar}
use Rattle.promql_meaning.specs.Outcomes.{range_notes, with_notes}
use Rattle.promql_meaning.specs.declared.buckets.Bucket.{Bucket}
use Rattle.step_batch.specs.Laws.{LentRowsAreThoseOfSlots}
use Rattle.step_batch.specs.Lent.{SlotsRise, entries_of, row_of, step_of}
use Rattle.step_batch.specs.declared.steps.PlacedStep.{PlacedStep}
use Rattle.step_batch.specs.declared.steps.Slot.{Slot}
use Rattle.step_put.specs.Placed.{PlacesRise, made_step, outcomes_of}
use Rattle.step_put.specs.Puts.{AreAt}
use Rattle.step_put.specs.declared.labels_left.Left.{Left}
use Rattle.step_put.specs.declared.labels_left.Left.TheVariants as kind
use Rattle.step_put.specs.declared.placed.PlacedOutcome.{PlacedOutcome}
use Rattle.step_table.specs.Alike.{same_sets}
use Rattle.step_table.specs.Gathering.{nothing_more, settled_table}
use Rattle.step_table.specs.Groups.{Names, gathered, items_of, names_among}
use Rattle.step_table.specs.KeySets.{any_of_set, set_of_sorted, sorted_insert, sorted_set}
use Rattle.step_table.specs.Operators.{some_value}
use Rattle.step_table.specs.Orders.{note_cmp}
use Rattle.step_table.specs.Outcomes.{settled, taken}
use Rattle.step_table.specs.Shuffles.{NotesIgnoreOrder, OutcomesIgnoreOrder, Shuffled, none, kept, swapped, joined}
use Rattle.step_table.specs.Shuffling.{any_shuffled, chosen_shuffled, from_permutation, itself, items_shuffled, mapped_shuffled, names_shuffled, set_shuffled, turned_back}
use Rattle.step_table.specs.Timed.{StepAt}
use Rattle.step_table.specs.Unions.{set_of, united}
use Rattle.step_table.specs.declared.marks.Marks.{Marks}
use Rattle.step_table.specs.declared.marks.Note.{Note}
use Rattle.step_table.specs.declared.marks.Note.TheVariants.{BadBucket, FixedBuckets}
use Rattle.step_table.specs.declared.outcomes.Outcome.{Outcome}
use Rattle.step_table.specs.declared.step.Row.{Row}
use Rattle.step_table.specs.declared.step.Step.{Step}
use Rattle.ticks.specs.declared.moment.Ms.{Ms}
use Rattle.window_fn.specs.Laws.{OrderDoesntMatter}
use Rattle.xfrac.specs.Laws.{EqualIsSame, LessIsTransitive, OrderIsReversed}
use Rattle.xfrac.specs.declared.value.XFrac.{XFrac}
use Rattle.op_buckets.specs.Histograms.{bound_in, histogram_of}
use Rattle.op_buckets.specs.Rules.{quantiles_at}
use Rattle.op_buckets.specs.Splits.{AreMade, AreNumberEntries, AreSplit, GroupsRise, bound_at, bound_there, buckets_in, ended, entry_of, entry_with, group_at, group_made, group_noted, is_end, note_at, noted_until, text_note, value_asked}
use Rattle.op_buckets.specs.declared.split.Entry.{Entry}
use Rattle.op_buckets.proofs.Orders.{AreNumbers, fixed_same, quantile_same}
use Rattle.op_buckets.proofs.Splitting.{ends_from, strictly_above}

-- ---- places

pub get_some : {X : Type 0} (xs : List X) (i : ℕ) (d : X) → i < length xs → slice_get xs i ≡ Some (get_or xs i d)
get_some [] i d h = absurd (omega arith)
get_some (x ∷ xs) zero d h = refl
get_some (x ∷ xs) (suc i) d h = get_some xs i d (omega arith)

pub same_some : {X : Type 0} (x y : X) → Some x ≡ Some y → x ≡ y
same_some x y e = cc

pub placed_there : (groups names : List Names) (places : List ℕ) (i : ℕ) → AreAt groups names places → i < length names → slice_get groups (get_or places i 0) ≡ Some (get_or names i [])
placed_there groups [] places i a l = absurd (omega arith)
placed_there groups (n ∷ names) [] i a l = absurd a
placed_there groups (n ∷ names) (p ∷ places) zero a l = a.0
placed_there groups (n ∷ names) (p ∷ places) (suc i) a l = placed_there groups names places i a.1 (omega arith)

pub placed_count : (groups names : List Names) (places : List ℕ) → AreAt groups names places → length places ≡ length names
placed_count groups [] [] a = refl
placed_count groups [] (p ∷ places) a = absurd a
placed_count groups (n ∷ names) [] a = absurd a
placed_count groups (n ∷ names) (p ∷ places) a = ap suc (placed_count groups names places a.1)

pub map_count : {A B : Type 0} (f : A → B) (xs : List A) → length (map f xs) ≡ length xs
map_count f [] = refl
map_count f (x ∷ xs) = ap suc (map_count f xs)

pub placed_as_many : (f : Names → Names) (groups fed : List Names) (places : List ℕ) → AreAt groups (map f fed) places → length places ≡ length fed
placed_as_many f groups fed places a = placed_count groups (map f fed) places a ∙ map_count f fed

pub map_there : (f : Names → Names) (fed : List Names) (i : ℕ) → i < length fed → get_or (map f fed) i [] ≡ f (get_or fed i [])
map_there f [] i l = absurd (omega arith)
map_there f (x ∷ fed) zero l = refl
map_there f (x ∷ fed) (suc i) l = map_there f fed i (omega arith)

not_among : (names : Names) (groups : List Names) (i : ℕ) → AllByRecursion (λ (g : Names). labels_eq names g ≡ false) groups → slice_get groups i ≡ Some names → ⊥
not_among names [] i a e = absurd (cc)
not_among names (g ∷ groups) zero a e =
    let same : g ≡ names = cc in
    let own : labels_eq names names ≡ true = sym (labels_eq_at names names) ∙ tied_itself' names in
    let no : labels_eq names names ≡ false = subst (λ (z : Names). labels_eq names z ≡ false) same a.0 in
    absurd (cc)
  where
    tied_itself' : (n : Names) → is_at (labels_cmp n) n ≡ true
    tied_itself' n = rw (tied_itself labels_cmp_total n) refl
not_among names (g ∷ groups) (suc i) a e = not_among names groups i a.1 e

pub one_place : (groups : List Names) (names : Names) (i j : ℕ) → IsDistinct labels_eq groups → slice_get groups i ≡ Some names → slice_get groups j ≡ Some names → i ≡ j
unfolding IsDistinct
one_place [] names i j d e f = absurd (cc)
one_place (g ∷ groups) names zero zero d e f = refl
one_place (g ∷ groups) names zero (suc j) d e f = let same : g ≡ names = cc in absurd (not_among names groups j (subst (λ (z : Names). AllByRecursion (λ (q : Names). labels_eq z q ≡ false) groups) same d.0) f)
one_place (g ∷ groups) names (suc i) zero d e f = let same : g ≡ names = cc in absurd (not_among names groups i (subst (λ (z : Names). AllByRecursion (λ (q : Names). labels_eq z q ≡ false) groups) same d.0) e)
one_place (g ∷ groups) names (suc i) (suc j) d e f = ap suc (one_place groups names i j d.1 e f)

pub at_same : (a b : Names) → is_at (labels_cmp a) b ≡ true → a ≡ b
at_same a b h = (labels_decide a b (labels_eq a b) refl).0 (sym (labels_eq_at a b) ∙ h)

-- ---- a list of which no two are equal is its set in another order

module _ {K : Type 0} {R : K → K → Ordering} (o : IsTotalOrder R) (ties : (x y : K) → R x y ≡ Equal → x ≡ y) where
  abbrev pub AreDistinct : List K → Type 0
  AreDistinct [] = ⊤
  AreDistinct (k ∷ ks) = (list_any (is_at (R k)) ks ≡ false) × AreDistinct ks

  insert_new : (k : K) (ks : List K) → list_any (is_at (R k)) ks ≡ false → Shuffled (k ∷ ks) (insert_key R ks k)
  insert_new k [] n = itself (k ∷ [])
  insert_new k (x ∷ ks) n = pick (R k x) refl (insert_new k ks (later (is_at (R k) x) (list_any (is_at (R k)) ks) n))
    where
      later : (a b : Bool) → (a || b) ≡ false → b ≡ false
      later true b h = absurd (cc)
      later false b h = h

      first : (a b : Bool) → (a || b) ≡ false → a ≡ false
      first true b h = absurd (cc)
      first false b h = refl

      pick : (r : Ordering) → R k x ≡ r → Shuffled (k ∷ ks) (insert_key R ks k) → Shuffled (k ∷ x ∷ ks) (insert_key R (x ∷ ks) k)
      pick Less e rest = rw e (itself (k ∷ x ∷ ks))
      pick Equal e rest = let here : is_at (R k) x ≡ true = ap is_eq e in let away : is_at (R k) x ≡ false = first (is_at (R k) x) (list_any (is_at (R k)) ks) n in absurd (cc)
      pick Greater e rest = rw e (joined (k ∷ x ∷ ks) (x ∷ k ∷ ks) (x ∷ insert_key R ks k) (swapped k x ks) (kept x (k ∷ ks) (insert_key R ks k) rest))

  sorted_of : (ks : List K) → AreDistinct ks → (zs : List K) × IsStrictlySortedBy R zs × Shuffled ks zs
  unfolding IsStrictlySortedBy
  sorted_of [] d = ([], tt, none)
  sorted_of (k ∷ ks) d =
      let r = sorted_of ks d.1 in
      (insert_key R r.0 k, sorted_insert o ties k r.0 r.1, joined (k ∷ ks) (k ∷ r.0) (insert_key R r.0 k) (kept k ks r.0 r.2) (insert_new k r.0 (sym (any_shuffled (is_at (R k)) ks r.0 r.2) ∙ d.0)))

  pub set_distinct : (ks : List K) → AreDistinct ks → Shuffled ks (set_of R ks)
  set_distinct ks d =
      let r = sorted_of ks d in
      subst (Shuffled ks) (sym (set_shuffled o ties ks r.0 r.2 ∙ set_of_sorted o r.0 r.1)) r.2

  pub same_set : (xs ys : List K) → ((k : K) → list_any (is_at (R k)) xs ≡ list_any (is_at (R k)) ys) → set_of R xs ≡ set_of R ys
  same_set xs ys e = same_sets o ties (set_of R xs) (set_of R ys) (sorted_set o ties xs) (sorted_set o ties ys) (λ k. any_of_set o ties (is_at (R k)) xs ∙ e k ∙ sym (any_of_set o ties (is_at (R k)) ys))

-- ---- names

abbrev name : List Names → ℕ → Names
name names g = get_or names g []

name_same : (names : List Names) (i j : ℕ) → IsDistinct labels_eq names → i < length names → j < length names → is_at (labels_cmp (name names i)) (name names j) ≡ (i == j)
name_same names i j d l m = pick (i == j) refl (is_at (labels_cmp (name names i)) (name names j)) refl
  where
    tied : (n : Names) → is_at (labels_cmp n) n ≡ true
    tied n = rw (tied_itself labels_cmp_total n) refl

    pick : (b : Bool) → (i == j) ≡ b → (c : Bool) → is_at (labels_cmp (name names i)) (name names j) ≡ c → is_at (labels_cmp (name names i)) (name names j) ≡ (i == j)
    pick true e true f = f ∙ sym e
    pick false e false f = f ∙ sym e
    pick true e false f =
        let same : i ≡ j = eqb-true i j e in
        let yes : is_at (labels_cmp (name names i)) (name names j) ≡ true = subst (λ (n : ℕ). is_at (labels_cmp (name names i)) (name names n) ≡ true) same (tied (name names i)) in
        absurd (cc)
    pick false e true f =
        let same : name names i ≡ name names j = at_same (name names i) (name names j) f in
        let place : i ≡ j = one_place names (name names i) i j d (get_some names i [] l) (get_some names j [] m ∙ ap (λ (z : Names). Some z) (sym same)) in
        let yes : (i == j) ≡ true = eq-eqb i j place in
        absurd (cc)

abbrev keyed_entries : List Names → List Entry → List (Names × Bucket)
keyed_entries names es = map (λ (e : Entry). (name names e.group, e.bucket)) es

abbrev AreIn : ℕ → List Entry → Type 0
AreIn n es = AllByRecursion (λ (e : Entry). e.group < n) es

module _ (names : List Names) (d : IsDistinct labels_eq names) where
  values_are : (g : ℕ) (es : List Entry) → g < length names → AreIn (length names) es → buckets_in g es ≡ items_of (keyed_entries names es) (name names g)
  values_are g [] l w = refl
  values_are g (e ∷ es) l w =
      let same : (g == e.group) ≡ is_at (labels_cmp (name names g)) (name names e.group) = sym (name_same names g e.group d l w.0) in
      (λ j. if same j then e.bucket ∷ values_are g es l w.1 j else values_are g es l w.1 j) ∙ inside (is_at (labels_cmp (name names g)) (name names e.group))
    where
      inside : (b : Bool) → (if b then e.bucket ∷ items_of (keyed_entries names es) (name names g) else items_of (keyed_entries names es) (name names g))
          ≡ values_of (cond b ((name names e.group, e.bucket) ∷ filter (λ (item : Names × Bucket). is_at (labels_cmp (name names g)) item.0) (keyed_entries names es)) (filter (λ (item : Names × Bucket). is_at (labels_cmp (name names g)) item.0) (keyed_entries names es)))
      inside true = refl
      inside false = refl

  -- ---- the groups that end

  above_all : (e : Entry) (es : List Entry) → GroupsRise (e ∷ es) → is_end e es ≡ true → AllByRecursion (λ (o : Entry). e.group + 1 ≤ o.group) es
  above_all e [] r n = tt
  above_all e (o ∷ es) r n =
      let less : e.group + 1 ≤ o.group = above e.group o.group r.0.0 (unnot (o.group == e.group) n) in
      (less, later (e.group + 1) o es less r.1.0)
    where
      unnot : (b : Bool) → not b ≡ true → b ≡ false
      unnot true h = absurd (cc)
      unnot false h = refl

      above : (a b : ℕ) → a ≤ b → (b == a) ≡ false → a + 1 ≤ b
      above a b l h = let less : a < b = strictly_above a b l h in omega arith

      later : (low : ℕ) (o : Entry) (es : List Entry) → low ≤ o.group → AllByRecursion (λ (x : Entry). o.group ≤ x.group) es → AllByRecursion (λ (x : Entry). low ≤ x.group) es
      later low o [] l a = tt
      later low o (x ∷ es) l a = let m : o.group ≤ x.group = a.0 in (omega arith, later low o es l a.1)

  ended_within : (n i : ℕ) (es : List Entry) → AreIn n es → AllByRecursion (λ (g : ℕ). g < n) (ended i es)
  ended_within n zero es w = tt
  ended_within n (suc i) [] w = tt
  ended_within n (suc i) (e ∷ es) w = pick (is_end e es) (ended_within n i es w.1)
    where
      pick : (b : Bool) → AllByRecursion (λ (g : ℕ). g < n) (ended i es) → AllByRecursion (λ (g : ℕ). g < n) (if b then e.group ∷ ended i es else ended i es)
      pick true rest = (w.0, rest)
      pick false rest = rest

  none_named : (g : ℕ) (gs : List ℕ) → g < length names → AllByRecursion (λ (h : ℕ). g + 1 ≤ h) gs → AllByRecursion (λ (h : ℕ). h < length names) gs → list_any (is_at (labels_cmp (name names g))) (map (name names) gs) ≡ false
  none_named g [] l a w = refl
  none_named g (h ∷ gs) l a w =
      let m : g + 1 ≤ h = a.0 in
      let out : is_at (labels_cmp (name names g)) (name names h) ≡ false = name_same names g h d l w.0 ∙ ne_eqb g h (λ e. absurd (omega arith)) in
      ap (λ (b : Bool). b || list_any (is_at (labels_cmp (name names g))) (map (name names) gs)) out ∙ none_named g gs l a.1 w.1

  ended_distinct : (i : ℕ) (es : List Entry) → GroupsRise es → AreIn (length names) es → AreDistinct labels_cmp_total labels_cmp_ties (map (name names) (ended i es))
  ended_distinct zero es r w = tt
  ended_distinct (suc i) [] r w = tt
  ended_distinct (suc i) (e ∷ es) r w = pick (is_end e es) refl (ended_distinct i es r.1 w.1)
    where
      pick : (b : Bool) → is_end e es ≡ b → AreDistinct labels_cmp_total labels_cmp_ties (map (name names) (ended i es)) → AreDistinct labels_cmp_total labels_cmp_ties (map (name names) (if b then e.group ∷ ended i es else ended i es))
      pick true n rest = (none_named e.group (ended i es) w.0 (ends_from (e.group + 1) i es (above_all e es r n)) (ended_within (length names) i es w.1), rest)
      pick false n rest = rest

  -- the labels of groups that end are those of all entries
  ended_any : (p : Names → Bool) (i : ℕ) (es : List Entry) → i ≡ length es → list_any p (map (name names) (ended i es)) ≡ list_any p (keys_of (keyed_entries names es))
  ended_any p i [] n = ap (λ (m : ℕ). list_any p (map (name names) (ended m []))) n
  ended_any p zero (e ∷ es) n = absurd (omega arith)
  ended_any p (suc i) (e ∷ []) n = let none : i ≡ 0 = omega arith in ap (λ (m : ℕ). p (name names e.group) || list_any p (map (name names) (ended m []))) none
  ended_any p (suc i) (e ∷ o ∷ es) n = pick (o.group == e.group) refl (ended_any p i (o ∷ es) (omega arith))
    where
      twice : (a b : Bool) → (a || b) ≡ (a || (a || b))
      twice true b = refl
      twice false b = refl

      pick : (b : Bool) → (o.group == e.group) ≡ b → list_any p (map (name names) (ended i (o ∷ es))) ≡ list_any p (keys_of (keyed_entries names (o ∷ es)))
          → list_any p (map (name names) (if not b then e.group ∷ ended i (o ∷ es) else ended i (o ∷ es))) ≡ list_any p (keys_of (keyed_entries names (e ∷ o ∷ es)))
      pick false h rest = ap (λ (b : Bool). p (name names e.group) || b) rest
      pick true h rest =
          let same : o.group ≡ e.group = eqb-true o.group e.group h in
          rest ∙ twice (p (name names o.group)) (list_any p (keys_of (keyed_entries names es))) ∙ ap (λ (g : ℕ). p (name names g) || (p (name names o.group) || list_any p (keys_of (keyed_entries names es)))) same

  ended_names : (es : List Entry) → GroupsRise es → AreIn (length names) es → Shuffled (map (name names) (ended (length es) es)) (names_among (keyed_entries names es))
  ended_names es r w =
      subst (Shuffled (map (name names) (ended (length es) es))) (same_set labels_cmp_total labels_cmp_ties (map (name names) (ended (length es) es)) (keys_of (keyed_entries names es)) (λ k. ended_any (is_at (labels_cmp k)) (length es) es refl))
      (set_distinct labels_cmp_total labels_cmp_ties (map (name names) (ended (length es) es)) (ended_distinct (length es) es r w))

  made_rise : (q : XFrac) (all : List Entry) (low i : ℕ) (es : List Entry) → GroupsRise es → AreIn (length names) es → AllByRecursion (λ (o : Entry). low ≤ o.group) es → PlacesRise low (length names) (map (group_made q all) (ended i es))
  made_rise q all low zero es r w a = tt
  made_rise q all low (suc i) [] r w a = tt
  made_rise q all low (suc i) (e ∷ es) r w a = pick (is_end e es) refl (made_rise q all low i es r.1 w.1 a.1) (λ n. made_rise q all (e.group + 1) i es r.1 w.1 (above_all e es r n))
    where
      pick : (b : Bool) → is_end e es ≡ b → PlacesRise low (length names) (map (group_made q all) (ended i es)) → (is_end e es ≡ true → PlacesRise (e.group + 1) (length names) (map (group_made q all) (ended i es)))
          → PlacesRise low (length names) (map (group_made q all) (if b then e.group ∷ ended i es else ended i es))
      pick true n rest above = (a.0, w.0, above n)
      pick false n rest above = rest

  -- ---- outcomes

  abbrev outcome_named : XFrac → List Entry → Names → Outcome
  outcome_named q es n = record { labels = nameless n; value = some_value (histogram_quantile q (items_of (keyed_entries names es) n)) }

  abbrev note_named : XFrac → List Entry → Names → Option Note
  note_named q es n = fixed_note q (n, items_of (keyed_entries names es) n)

  made_named : (q : XFrac) (es : List Entry) (gs : List ℕ) → AreIn (length names) es → AllByRecursion (λ (g : ℕ). g < length names) gs → outcomes_of kind.Nameless names (map (group_made q es) gs) ≡ map (outcome_named q es) (map (name names) gs)
  made_named q es [] w a = refl
  made_named q es (g ∷ gs) w a =
      let e = get_some names g [] a.0 in
      let value = ap (λ (bs : List Bucket). some_value (histogram_quantile q bs)) (values_are g es a.0 w) in
      rw e (λ j. record { labels = nameless (name names g); value = value j } ∷ made_named q es gs w a.1 j)

  notes_named : (q : XFrac) (es : List Entry) (gs : List ℕ) → AreIn (length names) es → AllByRecursion (λ (g : ℕ). g < length names) gs → filter_map (group_noted q es) gs ≡ filter_map (note_named q es) (map (name names) gs)
  notes_named q es [] w a = refl
  notes_named q es (g ∷ gs) w a = λ j. cons_option (fixed_note q ([], values_are g es a.0 w j)) (notes_named q es gs w a.1 j)

numbers_of : (names : List Names) (es : List Entry) (n : Names) → AreNumberEntries es → AreNumbers (items_of (keyed_entries names es) n)
numbers_of names [] n a = tt
numbers_of names (e ∷ es) n a = pick (is_at (labels_cmp n) (name names e.group)) (numbers_of names es n a.1)
  where
    pick : (b : Bool) → AreNumbers (items_of (keyed_entries names es) n)
        → AreNumbers (values_of (cond b ((name names e.group, e.bucket) ∷ filter (λ (item : Names × Bucket). is_at (labels_cmp n) item.0) (keyed_entries names es)) (filter (λ (item : Names × Bucket). is_at (labels_cmp n) item.0) (keyed_entries names es))))
    pick true rest = (a.0, rest)
    pick false rest = rest

-- the outcomes and notes of the histograms of rows, by the labels of histograms
module _ (equal : EqualIsSame) (reversed : OrderIsReversed) (transitive : LessIsTransitive) (law : OrderDoesntMatter) (q : XFrac) (names : List Names) (es : List Entry) (items : List (Names × Bucket)) (a : AreNumberEntries es) (s : Shuffled (keyed_entries names es) items) where
  abbrev mine_of : Names → List Bucket
  mine_of n = items_of (keyed_entries names es) n

  moved : (n : Names) → Shuffled (mine_of n) (items_of items n)
  moved n = items_shuffled (keyed_entries names es) items s n

  theirs_each : (ns : List Names) → map (histogram_outcome q) (map (λ (n : Names). (n, items_of items n)) ns) ≡ map (λ (n : Names). record { labels = nameless n; value = some_value (histogram_quantile q (mine_of n)) }) ns
  theirs_each [] = refl
  theirs_each (n ∷ ns) = λ j. record { labels = nameless n; value = some_value (sym (quantile_same equal reversed transitive law q (mine_of n) (items_of items n) (numbers_of names es n a) (moved n)) j) } ∷ theirs_each ns j

  abbrev note_if : Bool → Option Note
  note_if b = if b then Some FixedBuckets else None

  notes_each : (ns : List Names) → filter_map (fixed_note q) (map (λ (n : Names). (n, items_of items n)) ns) ≡ filter_map (λ (n : Names). fixed_note q (n, mine_of n)) ns
  notes_each [] = refl
  notes_each (n ∷ ns) = λ j. cons_option (note_if (sym (fixed_same equal reversed transitive law q (mine_of n) (items_of items n) (numbers_of names es n a) (moved n)) j)) (notes_each ns j)

  theirs_named : map (histogram_outcome q) (gathered items) ≡ map (λ (n : Names). record { labels = nameless n; value = some_value (histogram_quantile q (mine_of n)) }) (names_among (keyed_entries names es))
  unfolding gathered
  theirs_named = theirs_each (names_among items) ∙ ap (map (λ (n : Names). record { labels = nameless n; value = some_value (histogram_quantile q (mine_of n)) })) (sym (names_shuffled (keyed_entries names es) items s))

  notes_theirs : filter_map (fixed_note q) (gathered items) ≡ filter_map (λ (n : Names). fixed_note q (n, mine_of n)) (names_among (keyed_entries names es))
  unfolding gathered
  notes_theirs = notes_each (names_among items) ∙ ap (filter_map (λ (n : Names). fixed_note q (n, mine_of n))) (sym (names_shuffled (keyed_entries names es) items s))

-- ---- slots and entries

some_get : (names : List Names) (p : ℕ) (n : Names) → slice_get names p ≡ Some n → (p < length names) × (get_or names p [] ≡ n)
some_get [] p n e = absurd (cc)
some_get (x ∷ names) zero n e = (omega arith, same_some x n e)
some_get (x ∷ names) (suc p) n e = let r = some_get names p n e in (omega (arith, r.0), r.1)

get_mapped : {A B : Type 0} (f : A → B) (xs : List A) (i : ℕ) (x : A) → slice_get xs i ≡ Some x → slice_get (map f xs) i ≡ Some (f x)
get_mapped f [] i x e = absurd (cc)
get_mapped f (y ∷ xs) zero x e = let same : y ≡ x = cc in ap (λ z. Some (f z)) same
get_mapped f (y ∷ xs) (suc i) x e = get_mapped f xs i x e

abbrev rows_at : List Names → List Slot → List Row
rows_at fed slots = map row_of (entries_of fed slots)

bound_is : (fed : List Names) (s : Slot) → s.place < length fed → bound_at (map bound_in fed) s ≡ bound_in (get_or fed s.place [])
bound_is fed s l = ap bound_there (get_mapped bound_in fed s.place (get_or fed s.place []) (get_some fed s.place [] l))

module _ (fed names : List Names) (places : List ℕ) (a : AreAt names (map histogram_of fed) places) where
  group_named : (s : Slot) → s.place < length fed → (group_at places s < length names) × (name names (group_at places s) ≡ histogram_of (get_or fed s.place []))
  group_named s l =
      let n = map_count histogram_of fed in
      some_get names (group_at places s) (histogram_of (get_or fed s.place [])) (placed_there names (map histogram_of fed) places s.place a (omega (arith, n, l)) ∙ ap (λ (z : Names). Some z) (map_there histogram_of fed s.place l))

  entries_in : (low : ℕ) (slots : List Slot) → SlotsRise low (length fed) slots → AreIn (length names) (filter_map (entry_of places (map bound_in fed)) slots)
  entries_in low [] r = tt
  entries_in low (s ∷ slots) r = pick (bound_at (map bound_in fed) s) (entries_in (s.place + 1) slots r.2)
    where
      pick : (o : Option XFrac) → AreIn (length names) (filter_map (entry_of places (map bound_in fed)) slots) → AreIn (length names) (cons_option (option_map (entry_with (group_at places s) s.value) o) (filter_map (entry_of places (map bound_in fed)) slots))
      pick None rest = rest
      pick (Some b) rest = ((group_named s r.1).0, rest)

  entries_keyed : (low : ℕ) (slots : List Slot) → SlotsRise low (length fed) slots → keyed_entries names (filter_map (entry_of places (map bound_in fed)) slots) ≡ filter_map bucket_of (rows_at fed slots)
  entries_keyed low [] r = refl
  entries_keyed low (s ∷ slots) r =
      let n : Names = get_or fed s.place [] in
      let e : slice_get fed s.place ≡ Some n = get_some fed s.place [] r.1 in
      ap (λ (o : Option XFrac). keyed_entries names (cons_option (option_map (entry_with (group_at places s) s.value) o) (filter_map (entry_of places (map bound_in fed)) slots))) (bound_is fed s r.1)
      ∙ pick n (bound_in n) (group_named s r.1).1 (entries_keyed (s.place + 1) slots r.2)
      ∙ sym (ap (λ (o : Option Names). filter_map bucket_of (map row_of (cons_option (option_map (λ (names : Names). (names, s.value)) o) (entries_of fed slots)))) e)
    where
      pick : (n : Names) (o : Option XFrac) → name names (group_at places s) ≡ histogram_of n → keyed_entries names (filter_map (entry_of places (map bound_in fed)) slots) ≡ filter_map bucket_of (rows_at fed slots)
          → keyed_entries names (cons_option (option_map (entry_with (group_at places s) s.value) o) (filter_map (entry_of places (map bound_in fed)) slots))
          ≡ cons_option (option_map (λ (bound : XFrac). (histogram_of n, record { bound = bound; count = s.value })) o) (filter_map bucket_of (rows_at fed slots))
      pick n None g rest = rest
      pick n (Some b) g rest = λ j. (g j, record { bound = b; count = s.value }) ∷ rest j

noted : (row : Row) → bound_of row ≡ None → bound_note row ≡ Some (BadBucket (bound_text row))
noted row e = rw e refl

not_noted : (row : Row) (bound : XFrac) → bound_of row ≡ Some bound → bound_note row ≡ None
not_noted row bound e = rw e refl

note_is : (row : Row) (o : Option XFrac) → bound_of row ≡ o → text_note (bound_text row) o ≡ bound_note row
note_is row None e = sym (noted row e)
note_is row (Some bound) e = sym (not_noted row bound e)

notes_keyed : (fed : List Names) (low : ℕ) (slots : List Slot) → SlotsRise low (length fed) slots → filter_map (note_at fed (map bound_in fed)) slots ≡ filter_map bound_note (rows_at fed slots)
notes_keyed fed low [] r = refl
notes_keyed fed low (s ∷ slots) r =
    let n : Names = get_or fed s.place [] in
    let row : Row = record { labels = n; value = s.value } in
    let e : slice_get fed s.place ≡ Some n = get_some fed s.place [] r.1 in
    let one : note_at fed (map bound_in fed) s ≡ bound_note row = ap (text_note (bound_text row)) (bound_is fed s r.1) ∙ note_is row (bound_in n) refl in
    (λ j. cons_option (one j) (notes_keyed fed (s.place + 1) slots r.2 j))
    ∙ sym (ap (λ (o : Option Names). filter_map bound_note (map row_of (cons_option (option_map (λ (names : Names). (names, s.value)) o) (entries_of fed slots)))) e)

marks_same : (m : Marks) (xs xs' ys ys' : List Note) → set_of note_cmp xs ≡ set_of note_cmp xs' → set_of note_cmp ys ≡ set_of note_cmp ys' → with_notes (with_notes m xs) ys ≡ with_notes (with_notes m xs') ys'
marks_same m xs xs' ys ys' a b = λ j. united (united m (record { fatal = []; notes = a j })) (record { fatal = []; notes = b j })

-- the step of the quantiles that are made
histogram_step : LentRowsAreThoseOfSlots → OutcomesIgnoreOrder → NotesIgnoreOrder → OrderDoesntMatter → EqualIsSame → OrderIsReversed → LessIsTransitive → (q : XFrac) (fed names : List Names) (places : List ℕ) (slots : List Slot) (own marks noted : Marks) (placed : List PlacedOutcome)
    → IsDistinct labels_eq fed → IsDistinct labels_eq names → AreAt names (map histogram_of fed) places → SlotsRise 0 (length fed) slots → AreSplit q places fed (map bound_in fed) slots marks placed noted
    → made_step kind.Nameless names noted placed ≡ bucket_quantiles q (record { table = (step_of (entries_of fed slots) own).table; marks = marks })
histogram_step law order note_law same equal reversed transitive q fed names places slots own marks noted placed df dn a rise m =
    let es : List Entry = m.entries in
    let here : PlacedStep = record { at = record { 0 = pos 0 }; slots = slots; marks = own } in
    let rows : List Row = (step_of (entries_of fed slots) own).table.rows in
    let there : Shuffled (rows_at fed slots) rows = law (record { labels = fed; steps = [] }) here (record { distinct = df; placed = tt; rising = tt }) rise in
    let first : List Entry = filter_map (entry_of places (map bound_in fed)) slots in
    let within : AreIn (length names) es = recursion_from_All (λ (e : Entry). e.group < length names) es (All-permutation (λ (e : Entry). e.group < length names) first es m.moved (All-from_recursion (λ (e : Entry). e.group < length names) first (entries_in fed names places a 0 slots rise))) in
    let items : List (Names × Bucket) = filter_map bucket_of rows in
    let keyed : Shuffled (keyed_entries names es) items =
    joined (keyed_entries names es) (keyed_entries names first) items
    (turned_back (keyed_entries names first) (keyed_entries names es) (mapped_shuffled (λ (e : Entry). (name names e.group, e.bucket)) first es (from_permutation first es m.moved)))
    (subst (λ (z : List (Names × Bucket)). Shuffled z items) (sym (entries_keyed fed names places a 0 slots rise)) (chosen_shuffled bucket_of (rows_at fed slots) rows there)) in
    let f : Names → Outcome = λ n. record { labels = nameless n; value = some_value (histogram_quantile q (items_of (keyed_entries names es) n)) } in
    let g : Names → Option Note = λ n. fixed_note q (n, items_of (keyed_entries names es) n) in
    let ns : List Names = names_among (keyed_entries names es) in
    let ends : List ℕ = ended (length es) es in
    let some : Shuffled (map (name names) ends) ns = ended_names names dn es m.rise within in
    let bounded = ended_within names dn (length names) (length es) es within in
    let mine : outcomes_of kind.Nameless names placed ≡ map f (map (name names) ends) = ap (outcomes_of kind.Nameless names) m.made ∙ made_named names dn q es ends within bounded in
    let their : map (histogram_outcome q) (gathered items) ≡ map f ns = theirs_named equal reversed transitive same q names es items m.numbers keyed in
    let bad : set_of note_cmp (filter_map (note_at fed (map bound_in fed)) slots) ≡ set_of note_cmp (filter_map bound_note rows) =
    ap (set_of note_cmp) (notes_keyed fed 0 slots rise) ∙ note_law (filter_map bound_note (rows_at fed slots)) (filter_map bound_note rows) (chosen_shuffled bound_note (rows_at fed slots) rows there) in
    let fixed : set_of note_cmp (noted_until q (length es) es) ≡ set_of note_cmp (filter_map (fixed_note q) (gathered items)) =
    ap (set_of note_cmp) (notes_named names dn q es ends within bounded) ∙ note_law (filter_map g (map (name names) ends)) (filter_map g ns) (chosen_shuffled g (map (name names) ends) ns some)
    ∙ ap (set_of note_cmp) (sym (notes_theirs equal reversed transitive same q names es items m.numbers keyed)) in
    let notes = m.notes ∙ marks_same (with_notes marks (range_notes q)) (filter_map (note_at fed (map bound_in fed)) slots) (filter_map bound_note rows) (noted_until q (length es) es) (filter_map (fixed_note q) (gathered items)) bad fixed in
    ap (λ (z : List Outcome). settled (taken noted z)) mine
    ∙ order noted (map f (map (name names) ends)) (map f ns) (mapped_shuffled f (map (name names) ends) ns some)
    ∙ (λ j. settled (taken (notes j) (sym their j)))

none_made : (names : List Names) (marks : Marks) → made_step kind.Nameless names marks [] ≡ barren marks
unfolding IsStrictlySortedBy
none_made names marks = settled_table (taken marks []) tt ∙ ap barren (nothing_more marks)

-- what is made rises
pub filled_rise : (q : Option XFrac) (fed names : List Names) (places : List ℕ) (bounds : List (Option XFrac)) (slots : List Slot) (marks noted : Marks) (placed : List PlacedOutcome) → IsDistinct labels_eq names → AreAt names (map histogram_of fed) places
    → bounds ≡ map bound_in fed → SlotsRise 0 (length fed) slots → AreMade q places fed bounds slots marks placed noted → PlacesRise 0 (length names) placed
filled_rise None fed names places bounds slots marks noted placed d a b r m = subst (PlacesRise 0 (length names)) (sym m.0) tt
filled_rise (Some q) fed names places bounds slots marks noted placed d a b r m =
    let es : List Entry = m.entries in
    let first : List Entry = filter_map (entry_of places (map bound_in fed)) slots in
    let moved : IsPermutation first es = subst (λ (z : List (Option XFrac)). IsPermutation (filter_map (entry_of places z) slots) es) b m.moved in
    let within : AreIn (length names) es = recursion_from_All (λ (e : Entry). e.group < length names) es (All-permutation (λ (e : Entry). e.group < length names) first es moved (All-from_recursion (λ (e : Entry). e.group < length names) first (entries_in fed names places a 0 slots r))) in
    subst (PlacesRise 0 (length names)) (sym m.made) (made_rise names d q es 0 (length es) es m.rise within (least es))
  where
    least : (es : List Entry) → AllByRecursion (λ (o : Entry). 0 ≤ o.group) es
    least [] = tt
    least (e ∷ es) = (omega arith, least es)

-- the step that is put, by what is known of each of its parts
pub one_made : LentRowsAreThoseOfSlots → OutcomesIgnoreOrder → NotesIgnoreOrder → OrderDoesntMatter → EqualIsSame → OrderIsReversed → LessIsTransitive → (fed params names : List Names) (places : List ℕ) (bounds : List (Option XFrac)) (slots pslots : List Slot) (own more both : Marks) (t : Ms) (p s : StepAt)
    → (q : Option XFrac) (left : Left) (noted : Marks) (placed : List PlacedOutcome) (old new : List StepAt)
    → AreAt names (map histogram_of fed) places → IsDistinct labels_eq fed → IsDistinct labels_eq names → SlotsRise 0 (length fed) slots → SlotsRise 0 (length params) pslots → length pslots ≤ 1 → bounds ≡ map bound_in fed
    → p.step ≡ step_of (entries_of params pslots) more → s ≡ record { at = t; step = step_of (entries_of fed slots) own } → left ≡ kind.Nameless
    → q ≡ value_asked pslots → both ≡ united own more → AreMade q places fed bounds slots both placed noted
    → new ≡ old ++ record { at = t; step = made_step left names noted placed } ∷ [] → new ≡ old ++ quantiles_at p s ∷ []
one_made law order note_law same equal reversed transitive fed params names places bounds slots pslots own more both t p s q left noted placed old new a df dn rise prise few eb ep es el eq em m n =
    let step : Step = step_of (entries_of fed slots) own in
    let there : quantiles_at p s ≡ record { at = t; step = with_scalar bucket_quantiles (step_of (entries_of params pslots) more) step } = λ j. record { at = (es j).at; step = with_scalar bucket_quantiles (ep j) (es j).step } in
    let m1 : AreMade (value_asked pslots) places fed bounds slots both placed noted = subst (λ (o : Option XFrac). AreMade o places fed bounds slots both placed noted) eq m in
    let m2 : AreMade (value_asked pslots) places fed (map bound_in fed) slots both placed noted = subst (λ (z : List (Option XFrac)). AreMade (value_asked pslots) places fed z slots both placed noted) eb m1 in
    let m3 : AreMade (value_asked pslots) places fed (map bound_in fed) slots (united own more) placed noted = subst (λ (z : Marks). AreMade (value_asked pslots) places fed (map bound_in fed) slots z placed noted) em m2 in
    n ∙ ap (λ (l : Left). old ++ record { at = t; step = made_step l names noted placed } ∷ []) el ∙ ap (λ (z : Step). old ++ record { at = t; step = z } ∷ []) (told pslots prise few m3) ∙ ap (λ (z : StepAt). old ++ z ∷ []) (sym there)
  where
    told : (ps : List Slot) → SlotsRise 0 (length params) ps → length ps ≤ 1 → AreMade (value_asked ps) places fed (map bound_in fed) slots (united own more) placed noted
        → made_step kind.Nameless names noted placed ≡ with_scalar bucket_quantiles (step_of (entries_of params ps) more) (step_of (entries_of fed slots) own)
    told [] r f m = (λ j. made_step kind.Nameless names (m.1 j) (m.0 j)) ∙ none_made names (united own more)
    told (p ∷ []) r f m =
        let h = get_some params p.place [] r.1 in
        rw h (histogram_step law order note_law same equal reversed transitive p.value fed names places slots own (united own more) noted placed df dn a rise m)
    told (p ∷ x ∷ ps) r f m = absurd (omega arith)

-- ---- places of histograms

pub map_same : (f : Names → Names) (xs : List Names) → ((n : Names) → f n ≡ n) → map f xs ≡ xs
map_same f [] e = refl
map_same f (x ∷ xs) e = λ j. e x j ∷ map_same f xs e j
