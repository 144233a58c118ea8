-- Which of the series of the rows are looked at, and how many of them a selector chooses.
use Rattle.std.proofs.Common.{◌≡◌, ◌∙◌, ℕ, suc, Bool, true, false, cond, List, [], ◌∷◌, ◌++◌, filter, length, refl, sym, ap, ap₂, arith}
use Rattle.std.specs.Prelude.{◌+◌, ◌&&◌, min}
use Rattle.std.specs.BTreeMap.{insert_entry}
use Rattle.std.specs.List.{AllByRecursion}
use Rattle.std.specs.Ordering.{match_ordering}
use Rattle.std.specs.declared.cmp.Ordering.{Ordering}
use Rattle.std.specs.declared.cmp.Ordering.TheVariants.{Less, Equal, Greater}
use Rattle.label_set.specs.Entries.{all_insert, recursion_map}
use Rattle.label_set.specs.LabelOrder.{by_labels, labels_cmp_ties}
use Rattle.label_set.specs.Labels.{labels_cmp}
use Rattle.match_rule.specs.Patterns.{labels_pass}
use Rattle.plan_bases.specs.Bases.{Kept}
use Rattle.sample_store.specs.Samples.{AllSeries, Names, Pair, Samples, chosen, has_pair, looked_at, numbers_with}
use Rattle.work_rows.specs.Tests.{NoneHas, a_is_b, beside, c_is_d, more_rules, named_metric, wide_rules}

true_not_false : true ≡ false → ⊥
true_not_false e = cc

greater_not_equal : Greater ≡ Equal → ⊥
greater_not_equal e = cc

none_numbered : (pair : Pair) (n : ℕ) (series : AllSeries) → NoneHas pair series → numbers_with pair n series ≡ []
none_numbered pair n [] none = refl
none_numbered pair n (s ∷ series) none =
    ap (λ (b : Bool). cond b (n ∷ numbers_with pair (n + 1) series) (numbers_with pair (n + 1) series)) none.0 ∙ none_numbered pair (n + 1) series none.1

module _ (narrow wide : Samples) (others : AllSeries) (none : NoneHas named_metric others) where
  unnamed : length (numbers_with named_metric 2 others) ≡ 0
  unnamed = ap (λ (ns : List ℕ). length ns) (none_numbered named_metric 2 others none)

  abbrev fewest_wide : ℕ
  fewest_wide =
      min (length {A = ℕ} (0 ∷ 1 ∷ numbers_with a_is_b 2 others))
      (min (length {A = ℕ} (0 ∷ 1 ∷ numbers_with named_metric 2 others)) (length (beside narrow wide others)))

  two_fewest : fewest_wide ≡ 2
  two_fewest = omega (arith, unnamed)

  pub wide_looks : looked_at wide_rules (beside narrow wide others) ≡ 2
  wide_looks = two_fewest

  pub narrow_looks : NoneHas c_is_d others → looked_at (wide_rules ++ more_rules) (beside narrow wide others) ≡ 1
  narrow_looks lone = ap₂ (λ (ns : List ℕ) (n : ℕ). min (length (0 ∷ ns)) n) (none_numbered c_is_d 2 others lone) two_fewest

module _ {X : Type 0} (pass : Names → Bool) where
  abbrev left : List (Names × X) → List (Names × X)
  left es = filter (λ (e : Names × X). pass e.0) es

  -- none of some entries passes; none of them stands under some labels
  abbrev Fail : List (Names × X) → Type 0
  Fail es = AllByRecursion (λ (e : Names × X). pass e.0 ≡ false) es

  abbrev Differ : Names → List (Names × X) → Type 0
  Differ names es = AllByRecursion (λ (e : Names × X). labels_cmp names e.0 ≡ Equal → ⊥) es

  -- an entry that passes is one more
  one_more : (names : Names) (x : X) (es : List (Names × X)) → pass names ≡ true → Differ names es
      → length (left (insert_entry labels_cmp es names x)) ≡ suc (length (left es))
  one_more names x [] passes differ = ap (λ (b : Bool). length {A = Names × X} (cond b ((names, x) ∷ []) [])) passes
  one_more names x (e ∷ es) passes differ = by (labels_cmp names e.0) refl (one_more names x es passes differ.1)
    where
      further : (b : Bool) (more rest : List (Names × X)) → length more ≡ suc (length rest) → length (cond b (e ∷ more) more) ≡ suc (length (cond b (e ∷ rest) rest))
      further true more rest h = ap suc h
      further false more rest h = h

      by : (o : Ordering) → labels_cmp names e.0 ≡ o
          → length (left (insert_entry labels_cmp es names x)) ≡ suc (length (left es))
          → length (left (match_ordering o ((names, x) ∷ e ∷ es) ((e.0, x) ∷ es) (e ∷ insert_entry labels_cmp es names x)))
          ≡ suc (length (left (e ∷ es)))
      by Less is rest = ap (λ (b : Bool). length {A = Names × X} (cond b ((names, x) ∷ left (e ∷ es)) (left (e ∷ es)))) passes
      by Equal is rest = absurd (differ.0 is)
      by Greater is rest = further (pass e.0) (left (insert_entry labels_cmp es names x)) (left es) rest

  none_left : (es : List (Names × X)) → Fail es → left es ≡ []
  none_left [] fail = refl
  none_left (e ∷ es) fail = ap (λ (b : Bool). cond b (e ∷ left es) (left es)) fail.0 ∙ none_left es fail.1

  in_order : (es : List (Names × X)) → Fail es → Fail (by_labels es)
  in_order [] fail = tt
  in_order (e ∷ es) fail = all_insert labels_cmp (λ (e : Names × X). pass e.0 ≡ false) e.0 e.1 (by_labels es) fail.0 (λ f h. h) (in_order es fail.1)

  -- what passes has other labels than what doesn't
  apart : (names : Names) (es : List (Names × X)) → pass names ≡ true → Fail es → Differ names es
  apart names es passes fail = recursion_map (λ (e : Names × X). pass e.0 ≡ false) (λ (e : Names × X). labels_cmp names e.0 ≡ Equal → ⊥)
      (λ e fails same. true_not_false (sym passes ∙ ap pass (labels_cmp_ties names e.0 same) ∙ fails)) es fail

  -- two that pass and differ, among others that don't pass
  two_left : (a b : Names) (x y : X) (es : List (Names × X)) → pass a ≡ true → pass b ≡ true → (labels_cmp a b ≡ Equal → ⊥) → Fail es
      → length (left (by_labels ((a, x) ∷ (b, y) ∷ es))) ≡ 2
  two_left a b x y es p q differ fail =
      let fails : Fail (by_labels es) = in_order es fail in
      one_more a x (insert_entry labels_cmp (by_labels es) b y) p
      (all_insert labels_cmp (λ (e : Names × X). labels_cmp a e.0 ≡ Equal → ⊥) b y (by_labels es) differ (λ f h. h) (apart a (by_labels es) p fails))
      ∙ ap suc (one_more b y (by_labels es) q (apart b (by_labels es) q fails))
      ∙ ap (λ (es : List (Names × X)). suc (suc (length es))) (none_left (by_labels es) fails)

pub two_chosen : (kept : Kept) (narrow wide : Samples) (others : AllSeries) → NoneHas named_metric others → length (chosen kept wide_rules (beside narrow wide others)) ≡ 2
two_chosen kept narrow wide others none =
    two_left (λ (names : Names). labels_pass kept wide_rules names) (named_metric ∷ a_is_b ∷ c_is_d ∷ []) (named_metric ∷ a_is_b ∷ []) narrow wide others refl refl greater_not_equal
    (recursion_map (λ (s : Names × Samples). has_pair named_metric s.0 ≡ false) (λ (s : Names × Samples). labels_pass kept wide_rules s.0 ≡ false)
    (λ s lacks. ap (λ (b : Bool). b && (has_pair a_is_b s.0 && true)) lacks) others none)
