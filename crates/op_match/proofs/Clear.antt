-- Where labels are apart each group has one item, and an operator between vectors goes pair by pair.
use Rattle.std.proofs.Common.{◌≡◌, ◌∙◌, Bool, true, false, cond, List, [], ◌∷◌, ◌++◌, map, refl, sym, ap, subst, Some, None}
use Rattle.std.specs.Prelude.{filter, if◌then◌else◌}
use Rattle.std.specs.BTreeMap.{is_at}
use Rattle.std.specs.List.{AllByRecursion, cons_option, filter_map}
use Rattle.std.specs.List.Sorted.{IsStrictlySortedBy}
use Rattle.std.specs.Map.{keys_of, values_of}
use Rattle.std.specs.declared.cmp.Ordering.{Ordering}
use Rattle.std.specs.declared.cmp.Ordering.TheVariants.{Equal, Less, Greater}
use Rattle.std.specs.Ordering.{is_eq}
use Rattle.label_set.specs.LabelOrder.{labels_cmp_ties}
use Rattle.label_set.specs.Labels.{labels_cmp}
use Rattle.label_set.specs.declared.rules.Card.{Card}
use Rattle.step_table.specs.AllGathered.{all_gathered, all_in}
use Rattle.step_table.specs.Groups.{Names, alone, gathered, has_several, items_of, lone_items, names_among, shared_names, shared_of}
use Rattle.step_table.specs.Laws.{SettledIsWellFormed}
use Rattle.step_table.specs.Matching.{by_signature, clash_mark, crowded, duplicates, faults_of, matches, uncrowded}
use Rattle.step_table.specs.Operators.{is_grouped}
use Rattle.step_table.specs.Outcomes.{keyed}
use Rattle.step_table.specs.Shuffles.{Shuffled}
use Rattle.step_table.specs.Shuffling.{from_permutation, itself, lone_shuffled, mapped_shuffled, shared_shuffled}
use Rattle.step_table.specs.declared.marks.Mark.{Mark}
use Rattle.step_table.specs.declared.marks.Mark.TheVariants.{DuplicateOneSide, ImplicitManyToOne}
use Rattle.step_table.specs.declared.step.Row.{Row}
use Rattle.op_match.specs.Apart.{AreApart, PairsAreTaken, pairs_left}
use Rattle.op_match.proofs.Lists.{none_behind}

-- ---- groups of one item

tied : (a b : Names) → is_at (labels_cmp a) b ≡ true → a ≡ b
tied a b e = labels_cmp_ties a b (by_order (labels_cmp a b) e)
  where
    by_order : (r : Ordering) → is_eq r ≡ true → r ≡ Equal
    by_order Less e = absurd (cc)
    by_order Equal e = refl
    by_order Greater e = absurd (cc)

module _ {T : Type 0} where
  abbrev pub IsFew : List T → Type 0
  IsFew xs = has_several xs ≡ false

  none_under : (names : Names) (items : List (Names × T)) → AllByRecursion (λ (m : Names). is_at (labels_cmp names) m ≡ false) (keys_of items) → items_of items names ≡ []
  none_under names [] a = refl
  none_under names (item ∷ items) a = rw a.0 (none_under names items a.1)

  one_under : (names : Names) (items : List (Names × T)) → AreApart (keys_of items) → IsFew (items_of items names)
  one_under names [] a = refl
  one_under names (item ∷ items) a =
      elim (is_at (labels_cmp names) item.0) as (λ b. is_at (labels_cmp names) item.0 ≡ b → has_several (values_of (cond b (item ∷ filter (λ e. is_at (labels_cmp names) e.0) items) (filter (λ e. is_at (labels_cmp names) e.0) items))) ≡ false) [
        | true ↦ λ e. let same : names ≡ item.0 = tied names item.0 e in
            let none : items_of items names ≡ [] = none_under names items (subst (λ (n : Names). AllByRecursion (λ (m : Names). is_at (labels_cmp n) m ≡ false) (keys_of items)) (sym same) a.0) in
            ap (λ (r : List T). has_several (item.1 ∷ r)) none
        | false ↦ λ e. one_under names items a.1
      ] refl

  few_alone : (xs : List T) (r : List T) → IsFew xs → cons_option (alone xs) r ≡ xs ++ r
  few_alone [] r f = refl
  few_alone (x ∷ []) r f = refl
  few_alone (x ∷ y ∷ xs) r f = absurd (cc)

  lone_all : (f : Names → List T) (ns : List Names) → ((n : Names) → IsFew (f n)) → filter_map (λ (g : Names × List T). alone g.1) (map (λ n. (n, f n)) ns) ≡ all_in (map (λ n. (n, f n)) ns)
  lone_all f [] h = refl
  lone_all f (n ∷ ns) h = few_alone (f n) (filter_map (λ (g : Names × List T). alone g.1) (map (λ n. (n, f n)) ns)) (h n) ∙ ap (λ (r : List T). f n ++ r) (lone_all f ns h)

  shared_none : (f : Names → List T) (ns : List Names) → ((n : Names) → IsFew (f n)) → filter_map shared_of (map (λ n. (n, f n)) ns) ≡ []
  shared_none f [] h = refl
  shared_none f (n ∷ ns) h = ap (λ (b : Bool). cons_option (if b then Some n else None) (filter_map shared_of (map (λ n. (n, f n)) ns))) (h n) ∙ shared_none f ns h

  -- no items share their labels
  pub apart_shared : (items : List (Names × T)) → AreApart (keys_of items) → shared_names items ≡ []
  unfolding gathered
  apart_shared items a = shared_none (items_of items) (names_among items) (λ n. one_under n items a)

  -- and each is taken
  pub apart_lone : (items : List (Names × T)) → AreApart (keys_of items) → Shuffled (values_of items) (lone_items items)
  unfolding gathered
  apart_lone items a = subst (λ (ys : List T). Shuffled (values_of items) ys) (sym all) (from_permutation (values_of items) (all_in (gathered items)) (all_gathered items))
    where
      all : lone_items items ≡ all_in (gathered items)
      all = lone_all (items_of items) (names_among items) (λ n. one_under n items a)

-- ---- pairs

marked_none : (f : Names → Mark) (names : List Names) → names ≡ [] → map f names ≡ []
marked_none f names e = ap (map f) e

-- the pairs that are left without a group word, too
uncrowded_all : (card : Card) (left : List (Names × Row)) → (is_grouped card ≡ false → AreApart (keys_of left)) → Shuffled (values_of left) (uncrowded card left) × (crowded card left ≡ [])
uncrowded_all card left a =
    elim (is_grouped card) as (λ b. (b ≡ false → AreApart (keys_of left)) → Shuffled (values_of left) (if b then values_of left else lone_items left) × ((if b then [] else shared_names left) ≡ [])) [
      | true ↦ λ h. (itself (values_of left), refl)
      | false ↦ λ h. (apart_lone left (h refl), apart_shared left (h refl))
    ] a

keyed_values : (rows : List Row) → values_of (keyed rows) ≡ rows
keyed_values [] = refl
keyed_values (row ∷ rows) = ap (λ rs. row ∷ rs) (keyed_values rows)

only_marks : (a b c d : List Mark) → a ≡ [] → c ≡ [] → d ≡ [] → a ++ b ++ c ++ d ≡ b
only_marks a b c d e f g = (λ i. e i ++ b ++ f i ++ g i) ∙ none_behind (b ++ []) ∙ none_behind b

pub pair_by_pair : SettledIsWellFormed → PairsAreTaken
unfolding IsStrictlySortedBy
pair_by_pair law op p many ones c =
    let left : List (Names × Row) = pairs_left op p many ones in
    let rows : List Row = uncrowded p.card left in
    let un = uncrowded_all p.card left c.pairs in
    let same : Shuffled (keyed (values_of left)) (keyed rows) = mapped_shuffled (λ (row : Row). (row.labels, row)) (values_of left) rows un.0 in
    let lone : lone_items (keyed (values_of left)) ≡ lone_items (keyed rows) = lone_shuffled (keyed (values_of left)) (keyed rows) same in
    let shared : shared_names (keyed rows) ≡ [] = sym (shared_shuffled (keyed (values_of left)) (keyed rows) same) ∙ apart_shared (keyed (values_of left)) c.labels in
    record {
      rows = subst (λ (ys : List Row). Shuffled ys (lone_items (keyed rows))) (keyed_values (values_of left)) (subst (λ (ys : List Row). Shuffled (values_of (keyed (values_of left))) ys) lone (apart_lone (keyed (values_of left)) c.labels));
      table = (law (record { table = record { rows = rows }; marks = record { fatal = []; notes = [] } }) (record { fatal = tt; notes = tt })).rows;
      marks = only_marks (map DuplicateOneSide (duplicates p ones)) (faults_of (matches op p many ones)) (map ImplicitManyToOne (crowded p.card left)) (map (clash_mark p.card) (shared_names (keyed rows)))
          (marked_none DuplicateOneSide (duplicates p ones) (apart_shared (by_signature p ones) c.one_side)) (marked_none ImplicitManyToOne (crowded p.card left) un.1) (marked_none (clash_mark p.card) (shared_names (keyed rows)) shared);
    }
