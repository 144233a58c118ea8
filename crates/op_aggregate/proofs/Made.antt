-- What is made of the groups of slots is what the aggregation makes of the step.
use Rattle.std.proofs.Common.{◌≡◌, ◌∙◌, ◌+◌, ◌<◌, ℕ, zero, suc, arith, Bool, true, false, cond, List, [], ◌∷◌, ◌++◌, length, slice_get, map, refl, sym, ap, subst, Option, Some, append-nil}
use Rattle.std.specs.Prelude.{◌==◌, ◌||◌, IsTrue, filter, fold, if◌then◌else◌, pos, slice_index_or, Result, ⊤}
use Rattle.std.specs.BTreeMap.{insert_entry, is_at}
use Rattle.std.specs.BTreeSet.{insert_key}
use Rattle.std.specs.List.{AllByRecursion, IsDistinct, cons_option, filter_map, list_any}
use Rattle.std.specs.List.Sorted.{IsStrictlySortedBy}
use Rattle.std.specs.Map.{keys_of, values_of}
use Rattle.std.specs.Option.{option_map}
use Rattle.std.specs.Ordering.{is_eq, match_ordering}
use Rattle.std.specs.declared.cmp.Ordering.TheVariants.{Less, Equal, Greater}
use Rattle.std.proofs.lemmas.Cmp.{tied_itself}
use Rattle.std.proofs.lemmas.List.{map-append}
use Rattle.std.proofs.lemmas.List.Elements.{All-from_recursion}
use Rattle.std.proofs.lemmas.Option.{get_or_from_slice_get}
use Rattle.std.proofs.lemmas.Map.Keys.{IsDistinct-head, IsDistinct-tail}
use Rattle.func_table.specs.declared.table.Aggregate.{Aggregate}
use Rattle.func_table.specs.declared.table.Aggregate.TheVariants as aggregate
use Rattle.label_set.specs.Entries.{sorted_insert}
use Rattle.label_set.specs.LabelEquality.{labels_decide, labels_eq}
use Rattle.label_set.specs.LabelOrder.{labels_cmp_ties, labels_cmp_total}
use Rattle.label_set.specs.Labels.{labels_cmp}
use Rattle.label_set.specs.declared.rules.Grouping.{Grouping}
use Rattle.promql_meaning.specs.Aggregations.{aggregate_of, group_outcome, keyed_values}
use Rattle.promql_meaning.specs.Meaning.{zero_number}
use Rattle.promql_meaning.specs.Ranks.{kept_labels}
use Rattle.step_batch.specs.Laws.{LentRowsAreThoseOfSlots}
use Rattle.step_batch.specs.Lent.{SlotsRise, entries_of, entry_in, row_of, step_of}
use Rattle.step_batch.specs.Tables.{in_order, put_into}
use Rattle.step_batch.specs.declared.steps.PlacedStep.{PlacedStep}
use Rattle.step_batch.specs.declared.steps.Slot.{Slot}
use Rattle.step_put.specs.Puts.{AreAt}
use Rattle.step_table.specs.Gathering.{names_sorted, nothing_more}
use Rattle.step_table.specs.Groups.{Names, gathered, items_of, names_among}
use Rattle.step_table.specs.Alike.{same_sets}
use Rattle.step_table.specs.KeySets.{any_of_set, sorted_set}
use Rattle.step_table.specs.Laws.{TakenIsTable}
use Rattle.step_table.specs.Outcomes as outcomes
use Rattle.step_table.specs.Outcomes.{taken}
use Rattle.step_table.specs.Shuffles.{Shuffled, TableIsOneOrder, none, kept, swapped, joined}
use Rattle.step_table.specs.Shuffling.{any_shuffled, back_kept, chosen_shuffled, fatal_shuffled, items_shuffled, itself, mapped_shuffled, names_shuffled, to_back, turned_back}
use Rattle.step_table.specs.Unions.{set_of, with_fatal}
use Rattle.step_table.specs.WellFormed.{IsTable}
use Rattle.step_table.specs.declared.marks.Marks.{Marks}
use Rattle.step_table.specs.declared.outcomes.Outcome.{Outcome}
use Rattle.step_table.specs.declared.step.Row.{Row}
use Rattle.step_table.specs.declared.step.Step.{Step}
use Rattle.xfrac.specs.Laws.{IsNumber}
use Rattle.xfrac.specs.declared.value.NumFault.{NumFault}
use Rattle.xfrac.specs.declared.value.XFrac.{XFrac}
use Rattle.op_aggregate.specs.Laws.{AggregateIgnoresOrder}
use Rattle.op_aggregate.specs.Places.{AreApart, AreTallied, groups_made, group_made, has_place, items_at, places_of, values_at, with_place}
use Rattle.op_aggregate.specs.Rules.{aggregated_step, is_grouped}
use Rattle.op_aggregate.specs.Tallies.{group_of, group_value, or_overflow}
use Rattle.op_aggregate.specs.declared.groups.Groups.{Groups}
use Rattle.op_aggregate.specs.declared.tally.Group.{Group}
use Rattle.op_aggregate.proofs.AtPlaces.{Item, all_there, has_key, one_there, or_joined, or_none, places_apart, same_place, tests_itself}
use Rattle.op_aggregate.proofs.Grouping.{filled_key, filled_within}
use Rattle.op_aggregate.proofs.Tallying.{value_made}

abbrev Entry : Type 0
Entry = Names × XFrac

never : true ≡ false → ⊥
never e = cc

-- ---- labels that are equal

same_at : (q k : Names) → is_at (labels_cmp q) k ≡ true → q ≡ k
same_at q k e = elim (labels_cmp q k) as (λ r. labels_cmp q k ≡ r → is_eq r ≡ true → q ≡ k) [
  | Less ↦ λ h f. absurd (cc)
  | Equal ↦ λ h f. labels_cmp_ties q k h
  | Greater ↦ λ h f. absurd (cc)
] refl e

at_itself : (k : Names) → is_at (labels_cmp k) k ≡ true
at_itself k = rw (tied_itself labels_cmp_total k) refl

at_apart : (q k : Names) → (q ≡ k → ⊥) → is_at (labels_cmp q) k ≡ false
at_apart q k n = elim (is_at (labels_cmp q) k) as (λ b. is_at (labels_cmp q) k ≡ b → b ≡ false) [
  | true ↦ λ e. absurd (n (same_at q k e))
  | false ↦ λ e. refl
] refl

-- ---- labels by their places

abbrev pub name : List Names → ℕ → Names
name labels q = slice_index_or labels q []

told_apart : (l n : Names) (ls : List Names) (j : ℕ) → AllByRecursion (λ y. labels_eq l y ≡ false) ls → j < length ls → l ≡ name ls j → ⊥
told_apart l n [] j a h e = absurd (omega arith)
told_apart l n (m ∷ ls) zero a h e = never (sym ((labels_decide l m (labels_eq l m) refl).1 e) ∙ a.0)
told_apart l n (m ∷ ls) (suc j) a h e = told_apart l n ls j a.1 (omega arith) e

one_place : (ls : List Names) (i j : ℕ) → IsDistinct labels_eq ls → i < length ls → j < length ls → name ls i ≡ name ls j → i ≡ j
one_place [] i j d f g e = absurd (omega arith)
one_place (l ∷ ls) zero zero d f g e = refl
one_place (l ∷ ls) zero (suc j) d f g e = absurd (told_apart l l ls j (IsDistinct-head labels_eq l ls d) (omega arith) e)
one_place (l ∷ ls) (suc i) zero d f g e = absurd (told_apart l l ls i (IsDistinct-head labels_eq l ls d) (omega arith) (sym e))
one_place (l ∷ ls) (suc i) (suc j) d f g e = ap suc (one_place ls i j (IsDistinct-tail labels_eq l ls d) (omega arith) (omega arith) e)

-- a test of places is a test of their labels
names_test : (ls : List Names) (i j : ℕ) → IsDistinct labels_eq ls → i < length ls → j < length ls → is_at (labels_cmp (name ls i)) (name ls j) ≡ (i == j)
names_test ls i j d f g = elim (i == j) as (λ b. (i == j) ≡ b → is_at (labels_cmp (name ls i)) (name ls j) ≡ b) [
  | true ↦ λ e. subst (λ (k : ℕ). is_at (labels_cmp (name ls i)) (name ls k) ≡ true) (same_place i j e) (at_itself (name ls i))
  | false ↦ λ e. at_apart (name ls i) (name ls j) (λ s. differ (one_place ls i j d f g s) e)
] refl
  where
    differ : i ≡ j → (i == j) ≡ false → ⊥
    differ s e = let t : (i == j) ≡ true = ap (λ (k : ℕ). i == k) (sym s) ∙ tests_itself i in never (sym t ∙ e)

-- ---- values under labels are those at their places

abbrev under : List Names → List Item → List Entry
under labels items = map (λ (e : Item). (name labels e.0, e.1)) items

under_more : (labels : List Names) (q : ℕ) (e : Item) (items : List Item) → items_of (under labels items) (name labels q) ≡ values_at items q → (b : Bool)
    → values_of (cond b ((name labels e.0, e.1) ∷ filter (λ (x : Entry). is_at (labels_cmp (name labels q)) x.0) (under labels items)) (filter (λ (x : Entry). is_at (labels_cmp (name labels q)) x.0) (under labels items)))
    ≡ values_of (cond b (e ∷ filter (λ (x : Item). q == x.0) items) (filter (λ (x : Item). q == x.0) items))
under_more labels q e items rest true = ap (λ (r : List XFrac). e.1 ∷ r) rest
under_more labels q e items rest false = rest

values_under : (labels : List Names) (items : List Item) (q : ℕ) → IsDistinct labels_eq labels → q < length labels → AllByRecursion (λ (e : Item). e.0 < length labels) items → items_of (under labels items) (name labels q) ≡ values_at items q
values_under labels [] q d l a = refl
values_under labels (e ∷ items) q d l a =
    ap (λ (b : Bool). values_of (cond b ((name labels e.0, e.1) ∷ filter (λ (x : Entry). is_at (labels_cmp (name labels q)) x.0) (under labels items)) (filter (λ (x : Entry). is_at (labels_cmp (name labels q)) x.0) (under labels items)))) (names_test labels q e.0 d l a.0)
    ∙ under_more labels q e items (values_under labels items q d l a.1) (q == e.0)

-- ---- labels of which no two are equal

abbrev AreOthers : List Names → Type 0
AreOthers [] = ⊤
AreOthers (n ∷ ns) = (list_any (is_at (labels_cmp n)) ns ≡ false) × AreOthers ns

at_turned : (q k : Names) → is_at (labels_cmp q) k ≡ false → is_at (labels_cmp k) q ≡ false
at_turned q k e = at_apart k q (λ s. never (sym (at_itself q) ∙ ap (λ (z : Names). is_at (labels_cmp q) z) (sym s) ∙ e))

first_none : (a b : Bool) → (a || b) ≡ false → a ≡ false
first_none true b e = absurd (cc)
first_none false b e = refl

other_none : (a b : Bool) → (a || b) ≡ false → b ≡ false
other_none true b e = absurd (cc)
other_none false b e = e

both_none : (a b : Bool) → a ≡ false → b ≡ false → (a || b) ≡ false
both_none true b e f = absurd (cc)
both_none false b e f = f

pub others_shuffled : (xs ys : List Names) → Shuffled xs ys → AreOthers xs → AreOthers ys
others_shuffled _ _ none a = tt
others_shuffled _ _ (kept x xs ys s) a = (sym (any_shuffled (is_at (labels_cmp x)) xs ys s) ∙ a.0, others_shuffled xs ys s a.1)
others_shuffled _ _ (swapped x y xs) a = (
  both_none (is_at (labels_cmp y) x) (list_any (is_at (labels_cmp y)) xs) (at_turned x y (first_none (is_at (labels_cmp x) y) (list_any (is_at (labels_cmp x)) xs) a.0)) a.1.0,
  (other_none (is_at (labels_cmp x) y) (list_any (is_at (labels_cmp x)) xs) a.0, a.1.1),
)
others_shuffled _ _ (joined xs ys zs s t) a = others_shuffled ys zs t (others_shuffled xs ys s a)

any_front : (p : Names → Bool) (xs ys : List Names) → list_any p (xs ++ ys) ≡ false → list_any p xs ≡ false
any_front p [] ys e = refl
any_front p (x ∷ xs) ys e = both_none (p x) (list_any p xs) (first_none (p x) (list_any p (xs ++ ys)) e) (any_front p xs ys (other_none (p x) (list_any p (xs ++ ys)) e))

none_above : (k : Names) (ks : List Names) → AllByRecursion (λ q. labels_cmp k q ≡ Less) ks → list_any (is_at (labels_cmp k)) ks ≡ false
none_above k [] a = refl
none_above k (q ∷ ks) a = rw a.0 (none_above k ks a.1)

pub sorted_others : (ns : List Names) → IsStrictlySortedBy labels_cmp ns → AreOthers ns
unfolding IsStrictlySortedBy
sorted_others [] s = tt
sorted_others (n ∷ ns) s = (none_above n ns s.0, sorted_others ns s.1)

-- one comes to the front
to_front : {A : Type 0} (e : A) (es done : List A) → Shuffled (es ++ e ∷ done) (e ∷ (es ++ done))
to_front e es done = turned_back (e ∷ (es ++ done)) (es ++ e ∷ done) (to_back e es done)

-- ---- labels in their order

key_inserted : (k : Names) (ks : List Names) → list_any (is_at (labels_cmp k)) ks ≡ false → Shuffled (k ∷ ks) (insert_key labels_cmp ks k)
key_inserted k [] h = itself (k ∷ [])
key_inserted k (q ∷ ks) h = elim (labels_cmp k q) as (λ r. labels_cmp k q ≡ r → Shuffled (k ∷ q ∷ ks) (match_ordering r (k ∷ q ∷ ks) (q ∷ ks) (q ∷ insert_key labels_cmp ks k))) [
  | Less ↦ λ e. itself (k ∷ q ∷ ks)
  | Equal ↦ λ e. absurd (never (sym (ap is_eq e) ∙ first_none (is_at (labels_cmp k) q) (list_any (is_at (labels_cmp k)) ks) h))
  | Greater ↦ λ e. joined (k ∷ q ∷ ks) (q ∷ k ∷ ks) (q ∷ insert_key labels_cmp ks k) (swapped k q ks) (kept q (k ∷ ks) (insert_key labels_cmp ks k) (key_inserted k ks (other_none (is_at (labels_cmp k) q) (list_any (is_at (labels_cmp k)) ks) h)))
] refl

set_shuffled_on : (done ns : List Names) → AreOthers (done ++ ns) → Shuffled (done ++ ns) (fold (insert_key labels_cmp) done ns)
set_shuffled_on done [] a = subst (λ (z : List Names). Shuffled z done) (sym (append-nil done)) (itself done)
set_shuffled_on done (n ∷ ns) a =
    let front = to_front n done ns in
    let apart = others_shuffled (done ++ n ∷ ns) (n ∷ (done ++ ns)) front a in
    let in_set = back_kept ns (n ∷ done) (insert_key labels_cmp done n) (key_inserted n done (any_front (is_at (labels_cmp n)) done ns apart.0)) in
    let all = joined (done ++ n ∷ ns) (n ∷ (done ++ ns)) (insert_key labels_cmp done n ++ ns) front in_set in
    joined (done ++ n ∷ ns) (insert_key labels_cmp done n ++ ns) (fold (insert_key labels_cmp) (insert_key labels_cmp done n) ns) all
    (set_shuffled_on (insert_key labels_cmp done n) ns (others_shuffled (done ++ n ∷ ns) (insert_key labels_cmp done n ++ ns) all a))

entry_inserted : {T : Type 0} (k : Names) (v : T) (es : List (Names × T)) → list_any (is_at (labels_cmp k)) (keys_of es) ≡ false → Shuffled ((k, v) ∷ es) (insert_entry labels_cmp es k v)
entry_inserted k v [] h = itself ((k, v) ∷ [])
entry_inserted k v (q ∷ es) h = elim (labels_cmp k q.0) as (λ r. labels_cmp k q.0 ≡ r → Shuffled ((k, v) ∷ q ∷ es) (match_ordering r ((k, v) ∷ q ∷ es) ((q.0, v) ∷ es) (q ∷ insert_entry labels_cmp es k v))) [
  | Less ↦ λ e. itself ((k, v) ∷ q ∷ es)
  | Equal ↦ λ e. absurd (never (sym (ap is_eq e) ∙ first_none (is_at (labels_cmp k) q.0) (list_any (is_at (labels_cmp k)) (keys_of es)) h))
  | Greater ↦ λ e. joined ((k, v) ∷ q ∷ es) (q ∷ (k, v) ∷ es) (q ∷ insert_entry labels_cmp es k v) (swapped (k, v) q es) (kept q ((k, v) ∷ es) (insert_entry labels_cmp es k v) (entry_inserted k v es (other_none (is_at (labels_cmp k) q.0) (list_any (is_at (labels_cmp k)) (keys_of es)) h)))
] refl

keys_shuffled : {T : Type 0} (xs ys : List (Names × T)) → Shuffled xs ys → Shuffled (keys_of xs) (keys_of ys)
keys_shuffled xs ys s = mapped_shuffled (λ (e : Names × _). e.0) xs ys s

pub order_shuffled_on : {T : Type 0} (done es : List (Names × T)) → AreOthers (keys_of (done ++ es)) → Shuffled (done ++ es) (fold put_into done es)
order_shuffled_on done [] a = subst (λ z. Shuffled z done) (sym (append-nil done)) (itself done)
order_shuffled_on done (e ∷ es) a =
    let front = to_front e done es in
    let apart = others_shuffled (keys_of (done ++ e ∷ es)) (keys_of (e ∷ (done ++ es))) (keys_shuffled (done ++ e ∷ es) (e ∷ (done ++ es)) front) a in
    let first : list_any (is_at (labels_cmp e.0)) (keys_of done ++ keys_of es) ≡ false = ap (list_any (is_at (labels_cmp e.0))) (sym (map-append (λ (x : Names × _). x.0) done es)) ∙ apart.0 in
    let in_order = back_kept es (e ∷ done) (put_into done e) (entry_inserted e.0 e.1 done (any_front (is_at (labels_cmp e.0)) (keys_of done) (keys_of es) first)) in
    let all = joined (done ++ e ∷ es) (e ∷ (done ++ es)) (put_into done e ++ es) front in_order in
    joined (done ++ e ∷ es) (put_into done e ++ es) (fold put_into (put_into done e) es) all
    (order_shuffled_on (put_into done e) es (others_shuffled (keys_of (done ++ e ∷ es)) (keys_of (put_into done e ++ es)) (keys_shuffled (done ++ e ∷ es) (put_into done e ++ es) all) a))

order_sorted_on : {T : Type 0} (done es : List (Names × T)) → IsStrictlySortedBy labels_cmp (keys_of done) → IsStrictlySortedBy labels_cmp (keys_of (fold put_into done es))
order_sorted_on done [] s = s
order_sorted_on done (e ∷ es) s = order_sorted_on (put_into done e) es (sorted_insert labels_cmp labels_cmp_total e.0 e.1 done s)

pub order_sorted : {T : Type 0} (es : List (Names × T)) → IsStrictlySortedBy labels_cmp (keys_of (in_order es))
unfolding IsStrictlySortedBy
order_sorted es = order_sorted_on [] es tt

-- ---- the labels of groups

names_any : (labels : List Names) (ps : List ℕ) (q : ℕ) → IsDistinct labels_eq labels → q < length labels → AllByRecursion (λ p. p < length labels) ps → list_any (is_at (labels_cmp (name labels q))) (map (name labels) ps) ≡ has_place q ps
names_any labels [] q d l a = refl
names_any labels (p ∷ ps) q d l a = let here = names_test labels q p d l a.0 in let rest = names_any labels ps q d l a.1 in λ i. here i || rest i

names_apart : (labels : List Names) (ps : List ℕ) → IsDistinct labels_eq labels → AllByRecursion (λ p. p < length labels) ps → AreApart ps → AreOthers (map (name labels) ps)
names_apart labels [] d a r = tt
names_apart labels (p ∷ ps) d a r = (names_any labels ps p d a.0 a.1 ∙ none_there (has_place p ps) r.0, names_apart labels ps d a.1 r.1)
  where
    none_there : (b : Bool) → ((b ≡ true) → ⊥) → b ≡ false
    none_there true n = absurd (n refl)
    none_there false n = refl

any_with : (P : ℕ → Bool) (places : List ℕ) (p : ℕ) → list_any P (with_place places p) ≡ (list_any P places || P p)
any_with P places p = elim (has_place p places) as (λ b. has_place p places ≡ b → list_any P (if b then places else places ++ p ∷ []) ≡ (list_any P places || P p)) [
  | true ↦ λ e. there places e
  | false ↦ λ e. behind places
] refl
  where
    absorbed : (a b : Bool) → (b ≡ true → a ≡ true) → a ≡ (a || b)
    absorbed true b f = refl
    absorbed false true f = absurd (never (sym (f refl)))
    absorbed false false f = refl

    found : (places : List ℕ) → has_place p places ≡ true → P p ≡ true → list_any P places ≡ true
    found places e h = one_there_any places e h
      where
        one_there_any : (places : List ℕ) → has_place p places ≡ true → P p ≡ true → list_any P places ≡ true
        one_there_any [] e h = absurd (cc)
        one_there_any (x ∷ places) e h = elim (p == x) as (λ b. (p == x) ≡ b → (b || has_place p places) ≡ true → (P x || list_any P places) ≡ true) [
          | true ↦ λ f g. ap (λ (b : Bool). b || list_any P places) (ap P (sym (same_place p x f)) ∙ h)
          | false ↦ λ f g. later (P x) (list_any P places) (one_there_any places g h)
        ] refl e
          where
            later : (a b : Bool) → b ≡ true → (a || b) ≡ true
            later true b e = refl
            later false b e = e

    there : (places : List ℕ) → has_place p places ≡ true → list_any P places ≡ (list_any P places || P p)
    there places e = absorbed (list_any P places) (P p) (found places e)

    behind : (places : List ℕ) → list_any P (places ++ p ∷ []) ≡ (list_any P places || P p)
    behind [] = or_none (P p)
    behind (x ∷ places) = ap (λ (b : Bool). P x || b) (behind places) ∙ sym (or_joined (P x) (list_any P places) (P p))

any_fold : (P : ℕ → Bool) (done ps : List ℕ) → list_any P (fold with_place done ps) ≡ (list_any P done || list_any P ps)
any_fold P done [] = sym (or_none (list_any P done))
any_fold P done (p ∷ ps) = any_fold P (with_place done p) ps ∙ ap (λ (b : Bool). b || list_any P ps) (any_with P done p) ∙ or_joined (list_any P done) (P p) (list_any P ps)

any_map : {A : Type 0} (P : Names → Bool) (f : A → Names) (xs : List A) → list_any P (map f xs) ≡ list_any (λ x. P (f x)) xs
any_map P f [] = refl
any_map P f (x ∷ xs) = ap (λ (b : Bool). P (f x) || b) (any_map P f xs)

keys_under : (labels : List Names) (items : List Item) → keys_of (under labels items) ≡ map (name labels) (keys_of items)
keys_under labels [] = refl
keys_under labels (e ∷ items) = ap (λ (r : List Names). name labels e.0 ∷ r) (keys_under labels items)

-- the labels of the places are those that values have
names_shuffled_among : (labels : List Names) (items : List Item) → IsDistinct labels_eq labels → AllByRecursion (λ p. p < length labels) (places_of items) → Shuffled (map (name labels) (places_of items)) (names_among (under labels items))
names_shuffled_among labels items d a =
    let T : List Names = map (name labels) (places_of items) in
    let K : List Names = keys_of (under labels items) in
    let same : set_of labels_cmp T ≡ set_of labels_cmp K =
    same_sets labels_cmp_total labels_cmp_ties (set_of labels_cmp T) (set_of labels_cmp K) (sorted_set labels_cmp_total labels_cmp_ties T) (sorted_set labels_cmp_total labels_cmp_ties K)
    (λ k. any_of_set labels_cmp_total labels_cmp_ties (is_at (labels_cmp k)) T ∙ any_map (is_at (labels_cmp k)) (name labels) (places_of items) ∙ any_fold (λ q. is_at (labels_cmp k) (name labels q)) [] (keys_of items)
    ∙ sym (any_map (is_at (labels_cmp k)) (name labels) (keys_of items)) ∙ ap (list_any (is_at (labels_cmp k))) (sym (keys_under labels items)) ∙ sym (any_of_set labels_cmp_total labels_cmp_ties (is_at (labels_cmp k)) K)) in
    subst (λ (z : List Names). Shuffled T z) same (set_shuffled_on [] T (names_apart labels (places_of items) d a (places_apart items)))

-- ---- what is made of groups

-- what is made of labels and of the values under them
abbrev pub made_under : {X : Type 0} → (Names → List XFrac → X) → List Entry → Names → X
made_under F entries n = F n (items_of entries n)

-- it doesn't depend on the order of the values
abbrev pub IgnoresOrder : {X : Type 0} → (Names → List XFrac → X) → Type 0
IgnoresOrder F = (n : Names) (xs ys : List XFrac) → AllByRecursion IsNumber xs → Shuffled xs ys → F n xs ≡ F n ys

-- the outcome of the values that have labels
abbrev outcome_of : Aggregate → Names → List XFrac → Outcome
outcome_of f n xs = record { labels = n; value = aggregate_of f zero_number xs }

abbrev outcome_under : Aggregate → List Entry → Names → Outcome
outcome_under f entries n = made_under (outcome_of f) entries n

map_map : {A B C : Type 0} (g : B → C) (f : A → B) (xs : List A) → map g (map f xs) ≡ map (λ x. g (f x)) xs
map_map g f [] = refl
map_map g f (x ∷ xs) = ap (λ r. g (f x) ∷ r) (map_map g f xs)

map_alike : {A B : Type 0} (f g : A → B) (xs : List A) → ((x : A) → f x ≡ g x) → map f xs ≡ map g xs
map_alike f g [] e = refl
map_alike f g (x ∷ xs) e = λ i. e x i ∷ map_alike f g xs e i

gathered_made : (f : Aggregate) (entries : List Entry) → map (group_outcome f zero_number) (gathered entries) ≡ map (outcome_under f entries) (names_among entries)
unfolding gathered
gathered_made f entries = map_map (group_outcome f zero_number) (λ (n : Names). (n, items_of entries n)) (names_among entries)

made_named : (f : Aggregate) (labels : List Names) (items : List Item) (all : List Group) (ps : List ℕ) → IsTrue (is_grouped f)
    → ((q : ℕ) → q < length labels → slice_get all q ≡ Some (group_of f (values_at items q))) → AllByRecursion (λ p. p < length labels) ps
    → groups_made f labels all ps ≡ map (λ q. outcome_of f (name labels q) (values_at items q)) ps
made_named f labels items all [] g k a = refl
made_named f labels items all (p ∷ ps) g k a =
    let one : group_made f labels all p ≡ Some (outcome_of f (name labels p) (values_at items p)) =
    ap (option_map (λ (x : Group). record { labels = name labels p; value = or_overflow (group_value f x) })) (k p a.0)
    ∙ ap (λ (v : Result (Option XFrac) NumFault). Some (record { labels = name labels p; value = v })) (value_made f (values_at items p) g) in
    ap (λ (o : Option Outcome). cons_option o (groups_made f labels all ps)) one
    ∙ ap (λ (r : List Outcome). outcome_of f (name labels p) (values_at items p) ∷ r) (made_named f labels items all ps g k a.1)

items_all : (P : XFrac → Type 0) (entries : List Entry) (n : Names) → AllByRecursion P (values_of entries) → AllByRecursion P (items_of entries n)
items_all P [] n a = tt
items_all P (e ∷ entries) n a = elim (is_at (labels_cmp n) e.0) as (λ b. AllByRecursion P (values_of (cond b (e ∷ filter (λ (x : Entry). is_at (labels_cmp n) x.0) entries) (filter (λ (x : Entry). is_at (labels_cmp n) x.0) entries)))) [
  | true ↦ (a.0, items_all P entries n a.1)
  | false ↦ items_all P entries n a.1
]

-- what is made of groups doesn't depend on the order of the values
made_alike : {X : Type 0} (F : Names → List XFrac → X) → IgnoresOrder F → (xs ys : List Entry) → AllByRecursion IsNumber (values_of xs) → Shuffled xs ys → map (made_under F xs) (names_among xs) ≡ map (made_under F ys) (names_among ys)
made_alike F law xs ys n s =
    ap (map (made_under F xs)) (names_shuffled xs ys s)
    ∙ map_alike (made_under F xs) (made_under F ys) (names_among ys) (λ k. law k (items_of xs k) (items_of ys k) (items_all IsNumber xs k n) (items_shuffled xs ys s k))

values_same : (labels : List Names) (items : List Item) → values_of (under labels items) ≡ values_of items
values_same labels [] = refl
values_same labels (e ∷ items) = ap (λ (r : List XFrac). e.1 ∷ r) (values_same labels items)

-- ---- the rows of the step that is fed

pub there : (fed : List Names) (i : ℕ) → i < length fed → slice_get fed i ≡ Some (name fed i)
there [] i h = absurd (omega arith)
there (l ∷ fed) zero h = refl
there (l ∷ fed) (suc i) h = there fed i (omega arith)

named : (f : Names → Names) (labels fed : List Names) (places : List ℕ) (i : ℕ) → AreAt labels (map f fed) places → i < length fed → name labels (slice_index_or places i 0) ≡ f (name fed i)
named f labels [] places i a l = absurd (omega arith)
named f labels (n ∷ fed) [] i a l = absurd a
named f labels (n ∷ fed) (p ∷ places) zero a l = get_or_from_slice_get labels p (f n) [] a.0
named f labels (n ∷ fed) (p ∷ places) (suc i) a l = named f labels fed places i a.1 (omega arith)

rows_keyed : (by : Grouping) (labels fed : List Names) (places : List ℕ) (low : ℕ) (slots : List Slot) → AreAt labels (map (kept_labels by) fed) places → SlotsRise low (length fed) slots
    → under labels (items_at places slots) ≡ keyed_values by (map row_of (entries_of fed slots))
rows_keyed by labels fed places low [] a r = refl
rows_keyed by labels fed places low (s ∷ slots) a r =
    let e = there fed s.place r.1 in
    let n = named (kept_labels by) labels fed places s.place a r.1 in
    let rest = rows_keyed by labels fed places (s.place + 1) slots a r.2 in
    rw e (λ i. (n i, s.value) ∷ rest i)

-- ---- the step

by_groups : (f : Aggregate) (by : Grouping) (step : Step) → IsTrue (is_grouped f) → aggregated_step f by step ≡ taken step.marks (map (group_outcome f zero_number) (gathered (keyed_values by step.table.rows)))
by_groups aggregate.Sum by step g = ap (λ (m : Marks). taken m (map (group_outcome aggregate.Sum zero_number) (gathered (keyed_values by step.table.rows)))) (nothing_more step.marks)
by_groups aggregate.Avg by step g = ap (λ (m : Marks). taken m (map (group_outcome aggregate.Avg zero_number) (gathered (keyed_values by step.table.rows)))) (nothing_more step.marks)
by_groups aggregate.Min by step g = ap (λ (m : Marks). taken m (map (group_outcome aggregate.Min zero_number) (gathered (keyed_values by step.table.rows)))) (nothing_more step.marks)
by_groups aggregate.Max by step g = ap (λ (m : Marks). taken m (map (group_outcome aggregate.Max zero_number) (gathered (keyed_values by step.table.rows)))) (nothing_more step.marks)
by_groups aggregate.Count by step g = ap (λ (m : Marks). taken m (map (group_outcome aggregate.Count zero_number) (gathered (keyed_values by step.table.rows)))) (nothing_more step.marks)
by_groups aggregate.Group by step g = ap (λ (m : Marks). taken m (map (group_outcome aggregate.Group zero_number) (gathered (keyed_values by step.table.rows)))) (nothing_more step.marks)
by_groups aggregate.Stdvar by step g = ap (λ (m : Marks). taken m (map (group_outcome aggregate.Stdvar zero_number) (gathered (keyed_values by step.table.rows)))) (nothing_more step.marks)
by_groups aggregate.TopK by step g = absurd (cc)
by_groups aggregate.BottomK by step g = absurd (cc)
by_groups aggregate.Quantile by step g = absurd (cc)
by_groups aggregate.CountValues by step g = absurd (cc)

labels_made : (f : Aggregate) (entries : List Entry) (ns : List Names) → map (λ (o : Outcome). o.labels) (map (outcome_under f entries) ns) ≡ ns
labels_made f entries [] = refl
labels_made f entries (n ∷ ns) = ap (λ (r : List Names). n ∷ r) (labels_made f entries ns)

keys_are : (rows : List Row) → keys_of (map entry_in rows) ≡ map (λ (row : Row). row.labels) rows
keys_are [] = refl
keys_are (r ∷ rows) = ap (λ ns. r.labels ∷ ns) (keys_are rows)

names_are : (es : List Entry) → map (λ (row : Row). row.labels) (map row_of es) ≡ keys_of es
names_are [] = refl
names_are (e ∷ es) = ap (λ ns. e.0 ∷ ns) (names_are es)

rows_back : (rows : List Row) → map row_of (map entry_in rows) ≡ rows
rows_back [] = refl
rows_back (r ∷ rows) = ap (λ rs. r ∷ rs) (rows_back rows)

-- rows that are put in another order are the table
table_made : TableIsOneOrder → (rows table : List Row) → IsTable table → Shuffled rows table → map row_of (in_order (map entry_in rows)) ≡ table
table_made law rows table t s =
    let names : List Row → List Names = map (λ (row : Row). row.labels) in
    let others : AreOthers (names rows) = others_shuffled (names table) (names rows) (turned_back (names rows) (names table) (mapped_shuffled (λ (row : Row). row.labels) rows table s)) (sorted_others (names table) t) in
    let put : Shuffled (map entry_in rows) (in_order (map entry_in rows)) = order_shuffled_on [] (map entry_in rows) (subst AreOthers (sym (keys_are rows)) others) in
    let ordered : Shuffled rows (map row_of (in_order (map entry_in rows))) = subst (λ (z : List Row). Shuffled z (map row_of (in_order (map entry_in rows)))) (rows_back rows) (mapped_shuffled row_of (map entry_in rows) (in_order (map entry_in rows)) put) in
    let is_table : IsTable (map row_of (in_order (map entry_in rows))) = subst (IsStrictlySortedBy labels_cmp) (sym (names_are (in_order (map entry_in rows)))) (order_sorted (map entry_in rows)) in
    law (map row_of (in_order (map entry_in rows))) table is_table t (joined (map row_of (in_order (map entry_in rows))) rows table (turned_back rows (map row_of (in_order (map entry_in rows))) ordered) s)

-- what is made of the values at each place, and of those that rows have under each labels, are the same in another order
pub made_shuffled : {X : Type 0} (F : Names → List XFrac → X) → IgnoresOrder F → LentRowsAreThoseOfSlots → (by : Grouping) (fed labels : List Names) (places : List ℕ) (slots : List Slot) (marks : Marks) (groups : Groups)
    → length groups.all.items ≡ length labels → IsDistinct labels_eq fed → IsDistinct labels_eq labels → SlotsRise 0 (length fed) slots → AreAt labels (map (kept_labels by) fed) places → AreTallied (items_at places slots) groups
    → Shuffled (map (λ q. F (name labels q) (values_at (items_at places slots) q)) groups.filled.items) (map (λ (g : Names × List XFrac). F g.0 g.1) (gathered (keyed_values by (step_of (entries_of fed slots) marks).table.rows)))
unfolding gathered
made_shuffled F law rows_law by fed labels places slots marks groups many d_fed d r a t =
    let step : Step = step_of (entries_of fed slots) marks in
    let items : List Item = items_at places slots in
    let K : List Entry = under labels items in
    let table : List Entry = keyed_values by step.table.rows in
    let filled : List ℕ = groups.filled.items in
    let placed : PlacedStep = record { at = record { 0 = pos 0 }; slots = slots; marks = marks } in
    let rows : Shuffled (map row_of (entries_of fed slots)) step.table.rows = rows_law (record { labels = fed; steps = [] }) placed (record { distinct = d_fed; placed = tt; rising = tt }) r in
    let entries : Shuffled K table = subst (λ (z : List Entry). Shuffled z table) (sym (rows_keyed by labels fed places 0 slots a r)) (mapped_shuffled (λ (row : Row). (kept_labels by row.labels, row.value)) (map row_of (entries_of fed slots)) step.table.rows rows) in
    let within_items : AllByRecursion (λ (e : Item). e.0 < length labels) items = subst (λ (n : ℕ). AllByRecursion (λ (e : Item). e.0 < n) items) many t.within in
    let within_filled : AllByRecursion (λ p. p < length labels) filled = subst (λ (n : ℕ). AllByRecursion (λ p. p < n) filled) many (filled_within items groups t) in
    let within_places : AllByRecursion (λ p. p < length labels) (places_of items) = all_there (λ p. p < length labels) (places_of items) (λ q h. one_there (λ p. p < length labels) filled q within_filled (filled_key items groups q t ∙ sym (has_key q items) ∙ h)) in
    let h : ℕ → _ = λ q. made_under F K (name labels q) in
    let made : List _ = map (made_under F table) (names_among table) in
    let all : Shuffled (map h filled) made =
    joined (map h filled) (map h (places_of items)) made (mapped_shuffled h filled (places_of items) (turned_back (places_of items) filled t.filled))
    (subst (λ (z : List _). Shuffled z made) (map_map (made_under F K) (name labels) (places_of items))
    (subst (λ (z : List _). Shuffled (map (made_under F K) (map (name labels) (places_of items))) z) (made_alike F law K table (subst (AllByRecursion IsNumber) (sym (values_same labels items)) t.numbers) entries)
    (mapped_shuffled (made_under F K) (map (name labels) (places_of items)) (names_among K) (names_shuffled_among labels items d within_places)))) in
    subst (λ (z : List _). Shuffled z (map (λ (g : Names × List XFrac). F g.0 g.1) (map (λ n. (n, items_of table n)) (names_among table)))) (at_places filled within_filled within_items)
    (subst (λ (z : List _). Shuffled (map h filled) z) (sym (map_map (λ (g : Names × List XFrac). F g.0 g.1) (λ (n : Names). (n, items_of table n)) (names_among table))) all)
  where
    at_places : (ps : List ℕ) → AllByRecursion (λ p. p < length labels) ps → AllByRecursion (λ (e : Item). e.0 < length labels) (items_at places slots)
        → map (λ q. made_under F (under labels (items_at places slots)) (name labels q)) ps ≡ map (λ q. F (name labels q) (values_at (items_at places slots) q)) ps
    at_places [] b w = refl
    at_places (p ∷ ps) b w = λ i. F (name labels p) (values_under labels (items_at places slots) p d b.0 w i) ∷ at_places ps b.1 w i

pub step_made : LentRowsAreThoseOfSlots → TableIsOneOrder → TakenIsTable → AggregateIgnoresOrder → (f : Aggregate) (by : Grouping) (fed labels : List Names) (places : List ℕ) (slots : List Slot) (marks : Marks) (groups : Groups)
    → IsTrue (is_grouped f) → groups.f ≡ f → length groups.all.items ≡ length labels → IsDistinct labels_eq fed → IsDistinct labels_eq labels → SlotsRise 0 (length fed) slots → AreAt labels (map (kept_labels by) fed) places → AreTallied (items_at places slots) groups
    → step_of (map entry_in (filter_map outcomes.row_of (groups_made f labels groups.all.items groups.filled.items))) (with_fatal marks (filter_map outcomes.mark_of (groups_made f labels groups.all.items groups.filled.items)))
    ≡ aggregated_step f by (step_of (entries_of fed slots) marks)
step_made rows_law one_order is_table alike f by fed labels places slots marks groups g same_f many d_fed d r a t =
    let step : Step = step_of (entries_of fed slots) marks in
    let items : List Item = items_at places slots in
    let table : List Entry = keyed_values by step.table.rows in
    let filled : List ℕ = groups.filled.items in
    let within_filled : AllByRecursion (λ p. p < length labels) filled = subst (λ (n : ℕ). AllByRecursion (λ p. p < n) filled) many (filled_within items groups t) in
    let kept_groups : (q : ℕ) → q < length labels → slice_get groups.all.items q ≡ Some (group_of f (values_at items q)) = λ q l. t.kept q (subst (λ (n : ℕ). q < n) (sym many) l) ∙ ap (λ (h : Aggregate). Some (group_of h (values_at items q))) same_f in
    let O1 : List Outcome = groups_made f labels groups.all.items filled in
    let O2 : List Outcome = map (group_outcome f zero_number) (gathered table) in
    let made : Shuffled O1 O2 =
    subst (λ (z : List Outcome). Shuffled z O2) (sym (made_named f labels items groups.all.items filled g kept_groups within_filled))
    (made_shuffled (outcome_of f) (λ n xs ys b s i. record { labels = n; value = alike f zero_number xs ys (All-from_recursion IsNumber xs b) s i }) rows_law by fed labels places slots marks groups many d_fed d r a t) in
    let sorted : IsStrictlySortedBy labels_cmp (map (λ (o : Outcome). o.labels) O2) = subst (λ (z : List Outcome). IsStrictlySortedBy labels_cmp (map (λ (o : Outcome). o.labels) z)) (sym (gathered_made f table)) (subst (IsStrictlySortedBy labels_cmp) (sym (labels_made f table (names_among table))) (names_sorted table)) in
    let rows_are = table_made one_order (filter_map outcomes.row_of O1) (filter_map outcomes.row_of O2) (is_table marks O2 sorted) (chosen_shuffled outcomes.row_of O1 O2 made) in
    let marks_are = fatal_shuffled marks (filter_map outcomes.mark_of O1) (filter_map outcomes.mark_of O2) (chosen_shuffled outcomes.mark_of O1 O2 made) in
    let whole : step_of (map entry_in (filter_map outcomes.row_of O1)) (with_fatal marks (filter_map outcomes.mark_of O1)) ≡ taken marks O2 = λ i. record { table = record { rows = rows_are i }; marks = marks_are i } in
    whole ∙ sym (by_groups f by step g)
