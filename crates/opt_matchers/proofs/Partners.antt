-- An operator between two vectors of which rows are left out that have no partner.
use Rattle.std.proofs.Common.{◌≡◌, ◌∙◌, ℕ, List, [], ◌∷◌, ◌++◌, map, ap, sym, refl, subst, Some, None, Bool, true, false, cond}
use Rattle.std.specs.Prelude.{Option, filter}
use Rattle.std.specs.Option.{option_map}
use Rattle.label_set.specs.Entries.{recursion_filter}
use Rattle.std.specs.List.{AllByRecursion, filter_map}
use Rattle.std.specs.BTreeMap.{is_at}
use Rattle.std.specs.Ordering.{is_eq}
use Rattle.std.specs.declared.cmp.Ordering.{Ordering}
use Rattle.std.specs.declared.cmp.Ordering.TheVariants.{Less, Equal, Greater}
use Rattle.label_set.specs.Labels.{labels_cmp}
use Rattle.label_set.specs.LabelOrder.{labels_cmp_ties}
use Rattle.label_set.specs.declared.rules.Pairing.{Pairing}
use Rattle.xfrac.specs.declared.value.PairOp.{PairOp}
use Rattle.step_table.specs.Gathering.{nothing_more}
use Rattle.step_table.specs.Groups.{Names, alone, gathered, has_several, items_of, lone_items, names_among, shared_of}
use Rattle.step_table.specs.Matching.{by_signature, clash_marks, crowded, duplicates, faults_of, left_rows, match_of, matches, paired, pair_outcome, pair_rows, signature_of, uncrowded}
use Rattle.step_table.specs.Outcomes.{keyed}
use Rattle.step_table.specs.Unions.{united, with_fatal}
use Rattle.step_table.specs.declared.marks.Mark.TheVariants.{DuplicateOneSide, ImplicitManyToOne}
use Rattle.step_table.specs.declared.marks.Marks.{Marks}
use Rattle.step_table.specs.declared.outcomes.Outcome.{Outcome}
use Rattle.step_table.specs.declared.step.Row.{Row}
use Rattle.step_table.specs.declared.step.Step.{Step}
use Rattle.step_table.specs.Sets.{step_of_rows}
use Rattle.label_set.specs.declared.rules.Card.TheVariants.{OneToOne}

-- a matching one to one, without `on` and `ignoring`
abbrev pub wordless : List (List ℕ) → Pairing
wordless extra = record { on = false; names = []; card = OneToOne; extra = extra }

-- ---- lists

module _ {A B : Type 0} where
  fm_same : (f g : A → Option B) (a : A) (xs ys : List A) → f a ≡ g a → filter_map f xs ≡ filter_map g ys → filter_map f (a ∷ xs) ≡ filter_map g (a ∷ ys)
  fm_same f g a xs ys e rest = by (g a) refl
    where
      by : (o : Option B) → g a ≡ o → filter_map f (a ∷ xs) ≡ filter_map g (a ∷ ys)
      by None is = rw e (rw is rest)
      by (Some b) is = rw e (rw is (ap (λ more. b ∷ more) rest))

  fm_none : (f : A → Option B) (a : A) (xs : List A) → f a ≡ None → filter_map f (a ∷ xs) ≡ filter_map f xs
  fm_none f a xs e = rw e refl

-- ---- partners

module _ (extra : List (List ℕ)) (op : PairOp) where
  abbrev pub p : Pairing
  p = wordless extra

  abbrev pub sig : Row → Names
  sig row = signature_of p row

  abbrev pub is_same : Names → Row → Bool
  is_same n row = is_at (labels_cmp n) (sig row)

  abbrev under : List Row → Names → List Row
  under rows n = items_of (by_signature p rows) n

  none_under : (n : Names) (rows : List Row) → AllByRecursion (λ b. is_same n b ≡ false) rows → under rows n ≡ []
  none_under n [] a = refl
  none_under n (b ∷ rows) a = rw a.0 (none_under n rows a.1)

  kept_under : (er : Row → Bool) (n : Names) (rows : List Row) → AllByRecursion (λ b. is_same n b ≡ true → er b ≡ true) rows → under (filter er rows) n ≡ under rows n
  kept_under er n [] a = refl
  kept_under er n (b ∷ rows) a = by (er b) (is_same n b) refl refl (kept_under er n rows a.1)
    where
      by : (e s : Bool) → er b ≡ e → is_same n b ≡ s → under (filter er rows) n ≡ under rows n → under (filter er (b ∷ rows)) n ≡ under (b ∷ rows) n
      by true true is same rest = rw is (rw same (ap (λ more. b ∷ more) rest))
      by true false is same rest = rw is (rw same rest)
      by false false is same rest = rw is (rw same rest)
      by false true is same rest = let t = a.0 same in absurd (cc)

  module _ (el er : Row → Bool) (r : List Row) where
    abbrev pub HasPartners : Row → Type 0
    HasPartners a = AllByRecursion (λ b. is_same (sig a) b ≡ true → (el a ≡ true) × (er b ≡ true)) r

    right_ones : (a : Row) (rows : List Row) → AllByRecursion (λ b. is_same (sig a) b ≡ true → (el a ≡ true) × (er b ≡ true)) rows → AllByRecursion (λ b. is_same (sig a) b ≡ true → er b ≡ true) rows
    right_ones a [] h = tt
    right_ones a (b ∷ rows) h = (λ e. (h.0 e).1, right_ones a rows h.1)

    no_ones : (a : Row) (rows : List Row) → el a ≡ false → AllByRecursion (λ b. is_same (sig a) b ≡ true → (el a ≡ true) × (er b ≡ true)) rows → AllByRecursion (λ b. is_same (sig a) b ≡ false) rows
    no_ones a [] e h = tt
    no_ones a (b ∷ rows) e h = (by (is_same (sig a) b) refl, no_ones a rows e h.1)
      where
        by : (s : Bool) → is_same (sig a) b ≡ s → is_same (sig a) b ≡ false
        by false is = is
        by true is = let t = (h.0 is).0 in absurd (cc)

    matches_same : (l : List Row) → AllByRecursion HasPartners l → matches op p (filter el l) (filter er r) ≡ matches op p l r
    matches_same [] h = refl
    matches_same (a ∷ l) h = by (el a) refl (matches_same l h.1)
      where
        same : match_of op p (filter er r) a ≡ match_of op p r a
        same = ap (λ rows. option_map (λ one. (sig a, pair_outcome op p a one)) (alone rows)) (kept_under er (sig a) r (right_ones a r h.0))

        by : (e : Bool) → el a ≡ e → matches op p (filter el l) (filter er r) ≡ matches op p l r → matches op p (filter el (a ∷ l)) (filter er r) ≡ matches op p (a ∷ l) r
        by true is rest = rw is (fm_same (match_of op p (filter er r)) (match_of op p r) a (filter el l) l same rest)
        by false is rest =
            rw is (rest ∙ sym (fm_none (match_of op p r) a l (ap (λ rows. option_map (λ one. (sig a, pair_outcome op p a one)) (alone rows)) (none_under (sig a) r (no_ones a r is h.0)))))

  -- ---- the step, of the pairs alone

  abbrev core : Marks → List (Names × Outcome) → Step
  core marks pairs = record {
    table = record { rows = lone_items (keyed (uncrowded p.card (left_rows pairs))) };
    marks = with_fatal marks (faults_of pairs ++ map ImplicitManyToOne (crowded p.card (left_rows pairs)) ++ clash_marks p.card (uncrowded p.card (left_rows pairs)));
  }

  core_nothing : (marks : Marks) → core marks [] ≡ step_of_rows [] marks
  unfolding gathered
  core_nothing marks = λ i. record { table = record { rows = [] }; marks = nothing_more marks i }

  no_pairs : (l : List Row) → matches op p l [] ≡ []
  no_pairs [] = refl
  no_pairs (a ∷ l) = no_pairs l

  paired_core : (l r : List Row) (a b : Marks) → duplicates p r ≡ [] → paired (step_of_rows l a) (step_of_rows r b) op p ≡ core (united a b) (matches op p l r)
  paired_core [] r a b d = sym (core_nothing (united a b))
  paired_core (x ∷ l) [] a b d = sym (ap (core (united a b)) (no_pairs (x ∷ l)) ∙ core_nothing (united a b))
  paired_core (x ∷ l) (y ∷ r) a b d =
      ap (λ names. record {
        table = record { rows = pair_rows op p (x ∷ l) (y ∷ r) };
        marks = with_fatal (united a b) (map DuplicateOneSide names ++ faults_of (matches op p (x ∷ l) (y ∷ r)) ++ map ImplicitManyToOne (crowded p.card (left_rows (matches op p (x ∷ l) (y ∷ r)))) ++ clash_marks p.card (uncrowded p.card (left_rows (matches op p (x ∷ l) (y ∷ r)))));
      }) d

  pub pairs_kept : (el er : Row → Bool) (l r : List Row) (a b : Marks) → AllByRecursion (HasPartners el er r) l → duplicates p r ≡ [] → duplicates p (filter er r) ≡ []
      → paired (step_of_rows l a) (step_of_rows r b) op p ≡ paired (step_of_rows (filter el l) a) (step_of_rows (filter er r) b) op p
  pairs_kept el er l r a b h d d' =
      paired_core l r a b d ∙ sym (ap (core (united a b)) (matches_same el er r l h)) ∙ sym (paired_core (filter el l) (filter er r) a b d')

  -- ---- signatures that differ

  abbrev pub Apart : List Row → Type 0
  Apart [] = Unit {0}
  Apart (b ∷ rows) = AllByRecursion (λ c. is_same (sig b) c ≡ false) rows × Apart rows

  pub same_of : (x y : Names) → is_at (labels_cmp x) y ≡ true → x ≡ y
  same_of x y e = by (labels_cmp x y) refl
    where
      by : (o : Ordering) → labels_cmp x y ≡ o → x ≡ y
      by Equal is = labels_cmp_ties x y is
      by Less is = absurd (let f = ap is_eq is in cc)
      by Greater is = absurd (let f = ap is_eq is in cc)

  few : (rows : List Row) → Apart rows → (n : Names) → has_several (under rows n) ≡ false
  few [] a n = refl
  few (b ∷ rows) a n = by (is_same n b) refl (few rows a.1 n)
    where
      by : (s : Bool) → is_same n b ≡ s → has_several (under rows n) ≡ false → has_several (under (b ∷ rows) n) ≡ false
      by false is rest = rw is rest
      by true is rest = rw is (ap (λ more. has_several (b ∷ more)) (none_under n rows (subst (λ m. AllByRecursion (λ c. is_same m c ≡ false) rows) (sym (same_of n (sig b) is)) a.0)))

  none_shared : (rows : List Row) (ks : List Names) → Apart rows → filter_map shared_of (map (λ n. (n, under rows n)) ks) ≡ []
  none_shared rows [] a = refl
  none_shared rows (k ∷ ks) a = fm_none shared_of (k, under rows k) (map (λ n. (n, under rows n)) ks) (ap (λ b. cond b (Some k) None) (few rows a k)) ∙ none_shared rows ks a

  pub no_duplicates : (rows : List Row) → Apart rows → duplicates p rows ≡ []
  unfolding gathered
  no_duplicates rows a = none_shared rows (names_among (by_signature p rows)) a

  filtered_all : (P : Row → Type 0) (f : Row → Bool) (rows : List Row) → AllByRecursion P rows → AllByRecursion P (filter f rows)
  filtered_all P f rows a = recursion_filter P f rows a

  pub filtered_apart : (f : Row → Bool) (rows : List Row) → Apart rows → Apart (filter f rows)
  filtered_apart f [] a = tt
  filtered_apart f (b ∷ rows) a = by (f b) refl (filtered_apart f rows a.1)
    where
      by : (s : Bool) → f b ≡ s → Apart (filter f rows) → Apart (filter f (b ∷ rows))
      by true is rest = rw is (filtered_all (λ c. is_same (sig b) c ≡ false) f rows a.0, rest)
      by false is rest = rw is rest
