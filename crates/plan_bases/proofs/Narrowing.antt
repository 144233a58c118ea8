-- The series that pass some rules and more are those that pass the first, filtered.
use Rattle.std.proofs.Common.{◌≡◌, ◌∙◌, ◌<◌, ℕ, zero, suc, arith, Bool, true, false, cond, List, [], ◌∷◌, ◌++◌, length, map, filter, get_or, Option, Some, None, Contains, slice_get, refl, sym, ap, subst, true≢false}
use Rattle.std.specs.Prelude.{◌&&◌, unwrap_or}
use Rattle.std.specs.Option.{option_map}
use Rattle.std.specs.List.{AllByRecursion, cons_option, filter_map, list_all}
use Rattle.std.specs.List.Sorted.{IsStrictlySortedBy}
use Rattle.std.proofs.lemmas.List.Elements.{All-contains, All-contains_itself, All-from_recursion, Contains-append_right, recursion_from_All}
use Rattle.std.proofs.lemmas.List.Folds.{list_all-append}
use Rattle.std.proofs.lemmas.List.Kept.{IsStrictlySortedBy-filter}
use Rattle.label_set.specs.LabelOrder.{by_labels}
use Rattle.label_set.specs.Labels.{labels_cmp, value_of}
use Rattle.label_set.specs.declared.rules.Rule.{Rule}
use Rattle.match_rule.specs.Patterns.{kind_passes, labels_pass}
use Rattle.sample_store.specs.Samples.{AllSeries, IsSelected, Names, Passes, Samples, chosen, labels_at}
use Rattle.plan_bases.specs.Bases.{AreSeries, Kept}

-- ---- lists

all_so : {X : Type 0} (P Q : X → Type 0) → ((x : X) → P x → Q x) → (xs : List X) → AllByRecursion P xs → AllByRecursion Q xs
all_so P Q so [] a = tt
all_so P Q so (x ∷ xs) a = (so x a.0, all_so P Q so xs a.1)

module _ {X : Type 0} (p : X → Bool) where
  kept_all : (P : X → Type 0) (xs : List X) → AllByRecursion P xs → AllByRecursion (λ x. P x × (p x ≡ true)) (filter p xs)
  kept_all P [] a = tt
  kept_all P (x ∷ xs) a = by (p x) refl (kept_all P xs a.1)
    where
      by : (b : Bool) → p x ≡ b → AllByRecursion (λ y. P y × (p y ≡ true)) (filter p xs) → AllByRecursion (λ y. P y × (p y ≡ true)) (cond b (x ∷ filter p xs) (filter p xs))
      by true e rest = ((a.0, e), rest)
      by false e rest = rest

  -- what is left of a list is what passes
  left_passes : (xs : List X) (x : X) → Contains (filter p xs) x → Contains xs x × (p x ≡ true)
  left_passes xs x there =
      All-contains (λ y. Contains xs y × (p y ≡ true)) (filter p xs) x
      (All-from_recursion (λ y. Contains xs y × (p y ≡ true)) (filter p xs) (kept_all (Contains xs) xs (recursion_from_All (Contains xs) xs (All-contains_itself xs)))) there

  stay : (xs : List X) → AllByRecursion (λ y. p y ≡ true → Contains (filter p xs) y) xs
  stay [] = tt
  stay (x ∷ xs) = by (p x) refl (stay xs)
    where
      by : (b : Bool) → p x ≡ b → AllByRecursion (λ y. p y ≡ true → Contains (filter p xs) y) xs → AllByRecursion (λ y. p y ≡ true → Contains (cond b (x ∷ filter p xs) (filter p xs)) y) (x ∷ xs)
      by true e rest = (λ h. (0, omega arith, refl), all_so (λ y. p y ≡ true → Contains (filter p xs) y) (λ y. p y ≡ true → Contains (x ∷ filter p xs) y) (λ y so h. Contains-append_right (x ∷ []) (filter p xs) y (so h)) xs rest)
      by false e rest = (λ h. absurd (true≢false (sym h ∙ e)), rest)

  passes_left : (xs : List X) (x : X) → Contains xs x → p x ≡ true → Contains (filter p xs) x
  passes_left xs x there = All-contains (λ y. p y ≡ true → Contains (filter p xs) y) xs x (All-from_recursion (λ y. p y ≡ true → Contains (filter p xs) y) xs (stay xs)) there

  -- one filter after another
  both_filtered : (q r : X → Bool) → ((x : X) → r x ≡ (p x && q x)) → (xs : List X) → filter r xs ≡ filter q (filter p xs)
  both_filtered q r joins [] = refl
  both_filtered q r joins (x ∷ xs) = ap (λ b. cond b (x ∷ filter r xs) (filter r xs)) (joins x) ∙ by (p x) (both_filtered q r joins xs)
    where
      by : (b : Bool) → filter r xs ≡ filter q (filter p xs) → cond (b && q x) (x ∷ filter r xs) (filter r xs) ≡ filter q (cond b (x ∷ filter p xs) (filter p xs))
      by true e = ap (λ ys. cond (q x) (x ∷ ys) ys) e
      by false e = e

named_left : {X Y : Type 0} (f : X → Y) (q : Y → Bool) (xs : List X) → map f (filter (λ x. q (f x)) xs) ≡ filter q (map f xs)
named_left f q [] = refl
named_left f q (x ∷ xs) = by (q (f x)) (named_left f q xs)
  where
    by : (b : Bool) → map f (filter (λ y. q (f y)) xs) ≡ filter q (map f xs) → map f (cond b (x ∷ filter (λ y. q (f y)) xs) (filter (λ y. q (f y)) xs)) ≡ cond b (f x ∷ filter q (map f xs)) (filter q (map f xs))
    by true e = ap (λ ys. f x ∷ ys) e
    by false e = e

both_true : (a b : Bool) → a ≡ true → b ≡ true → (a && b) ≡ true
both_true true b h k = k
both_true false b h k = absurd (true≢false (sym h))

first_true : (a b : Bool) → (a && b) ≡ true → a ≡ true
first_true true b h = refl
first_true false b h = absurd (true≢false (sym h))

second_true : (a b : Bool) → (a && b) ≡ true → b ≡ true
second_true true b h = h
second_true false b h = absurd (true≢false (sym h))

-- ---- numbers of series

-- a number that is there has its series
there_some : {A : Type 0} (xs : List A) (k : ℕ) → k < length xs → slice_get xs k ≡ None → ⊥
there_some [] k h is = omega (arith, h)
there_some (x ∷ xs) zero h is = cc
there_some (x ∷ xs) (suc k) h is = there_some xs k (let l : k < length xs = omega (arith, h) in l) is

abbrev Are : AllSeries → List ℕ → Type 0
Are samples series = AllByRecursion (λ (n : ℕ). n < length samples) series

pub are_there : (kept : Kept) (samples : AllSeries) (rules : List Rule) (series : List ℕ) → AreSeries kept samples rules series → Are samples series
are_there kept samples rules series is =
    recursion_from_All (λ (n : ℕ). n < length samples) series (λ k d w. ((is.selected.exact (get_or series k d)).0 (All-contains_itself series k d w)).0)

-- there are as many as series that pass
as_many : (samples : AllSeries) (series : List ℕ) → Are samples series → length (filter_map (slice_get samples) series) ≡ length series
as_many samples [] a = refl
as_many samples (n ∷ series) a = by (slice_get samples n) refl (as_many samples series a.1)
  where
    by : (o : Option (Names × Samples)) → slice_get samples n ≡ o → length (filter_map (slice_get samples) series) ≡ length series
        → length (cons_option o (filter_map (slice_get samples) series)) ≡ suc (length series)
    by None is rest = absurd (there_some samples n a.0 is)
    by (Some one) is rest = ap suc rest

pub counted : (kept : Kept) (samples : AllSeries) (rules : List Rule) (series : List ℕ) → AreSeries kept samples rules series → length series ≡ length (chosen kept rules samples)
counted kept samples rules series is = sym (as_many samples series (are_there kept samples rules series is)) ∙ ap length is.these

module _ (samples : AllSeries) (q : Names → Bool) where
  these_left : (series : List ℕ) → Are samples series
      → filter_map (slice_get samples) (filter (λ (n : ℕ). q (labels_at samples n)) series) ≡ filter (λ (s : Names × Samples). q s.0) (filter_map (slice_get samples) series)
  these_left [] a = refl
  these_left (n ∷ series) a = by (slice_get samples n) refl (these_left series a.1)
    where
      one : (b : Bool) (s : Names × Samples) → slice_get samples n ≡ Some s → filter_map (slice_get samples) (filter (λ (m : ℕ). q (labels_at samples m)) series) ≡ filter (λ (x : Names × Samples). q x.0) (filter_map (slice_get samples) series)
          → filter_map (slice_get samples) (cond b (n ∷ (filter (λ (m : ℕ). q (labels_at samples m)) series)) (filter (λ (m : ℕ). q (labels_at samples m)) series)) ≡ cond b (s ∷ filter (λ (x : Names × Samples). q x.0) (filter_map (slice_get samples) series)) (filter (λ (x : Names × Samples). q x.0) (filter_map (slice_get samples) series))
      one true s is rest = ap (λ (o : Option (Names × Samples)). cons_option o (filter_map (slice_get samples) (filter (λ (m : ℕ). q (labels_at samples m)) series))) is ∙ ap (λ ys. s ∷ ys) rest
      one false s is rest = rest

      by : (o : Option (Names × Samples)) → slice_get samples n ≡ o → filter_map (slice_get samples) (filter (λ (m : ℕ). q (labels_at samples m)) series) ≡ filter (λ (x : Names × Samples). q x.0) (filter_map (slice_get samples) series)
          → filter_map (slice_get samples) (cond (q (unwrap_or (option_map (λ (x : Names × Samples). x.0) o) [])) (n ∷ (filter (λ (m : ℕ). q (labels_at samples m)) series)) (filter (λ (m : ℕ). q (labels_at samples m)) series)) ≡ filter (λ (x : Names × Samples). q x.0) (cons_option o (filter_map (slice_get samples) series))
      by None is rest = absurd (there_some samples n a.0 is)
      by (Some s) is rest = one (q s.0) s is rest

module _ (kept : Kept) (samples : AllSeries) (under more : List Rule) where
  abbrev passes_more : Names → Bool
  passes_more = labels_pass kept more

  added : (names : Names) → labels_pass kept (under ++ more) names ≡ (labels_pass kept under names && labels_pass kept more names)
  added names = list_all-append (λ (rule : Rule). kind_passes kept rule.kind (value_of names rule.label)) under more

  pub narrowed : (series : List ℕ) → AreSeries kept samples under series → AreSeries kept samples (under ++ more) (filter (λ (n : ℕ). labels_pass kept more (labels_at samples n)) series)
  narrowed series is =
      let test : ℕ → Bool = λ (n : ℕ). labels_pass kept more (labels_at samples n) in
      record {
        selected = record {
          exact = λ s. (
            λ there.
                let left = left_passes test series s there in
                let base = (is.selected.exact s).0 left.0 in
                (base.0, added (labels_at samples s) ∙ both_true (labels_pass kept under (labels_at samples s)) (passes_more (labels_at samples s)) base.1 left.1),
            λ passes.
                let both : (labels_pass kept under (labels_at samples s) && passes_more (labels_at samples s)) ≡ true = sym (added (labels_at samples s)) ∙ passes.1 in
                passes_left test series s ((is.selected.exact s).1 (passes.0, first_true (labels_pass kept under (labels_at samples s)) (passes_more (labels_at samples s)) both))
                (second_true (labels_pass kept under (labels_at samples s)) (passes_more (labels_at samples s)) both),
          );
          rising = subst (IsStrictlySortedBy labels_cmp) (sym (named_left (labels_at samples) passes_more series)) (IsStrictlySortedBy-filter labels_cmp passes_more (map (labels_at samples) series) is.selected.rising);
        };
        these = these_left samples passes_more series (are_there kept samples under series is)
            ∙ ap (filter (λ (s : Names × Samples). passes_more s.0)) is.these
            ∙ sym (both_filtered (λ (s : Names × Samples). labels_pass kept under s.0) (λ (s : Names × Samples). passes_more s.0) (λ (s : Names × Samples). labels_pass kept (under ++ more) s.0) (λ s. added s.0) (by_labels samples));
      }
