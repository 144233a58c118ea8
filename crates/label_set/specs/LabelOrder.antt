-- The order of labels is total and ties only equal labels, and `==` is an equivalence that tells the same: what a sort by labels and a map keyed by them rest on. Entries in this order.
use Rattle.std.proofs.Common.{◌≡◌, ℕ, List, [], ◌∷◌, ap, ◌∙◌, refl, subst, sym}
use Rattle.std.specs.BTreeMap.{insert_entry, is_at}
use Rattle.std.specs.Cmp.{IsEquivalence, IsTotalOrder}
use Rattle.std.specs.Cmp.Lexicographic.{nat_list_cmp_total}
use Rattle.std.specs.List.Sorted.{IsStrictlySortedBy}
use Rattle.std.specs.Map.{keys_of}
use Rattle.std.specs.Ordering.{is_eq}
use Rattle.std.specs.declared.cmp.Ordering.TheVariants.{Equal}
use Rattle.std.proofs.lemmas.Cmp.{eq_by_cmp_equiv, lists_total, on_total, then_total}
use Rattle.label_set.specs.Labels.{labels_cmp, labels_ties}
use Rattle.label_set.specs.LabelEquality.{labels_decide, labels_eq}
use Rattle.label_set.specs.Entries.{sorted_insert}

pub labels_cmp_total : IsTotalOrder labels_cmp
labels_cmp_total = lists_total (then_total (on_total (λ (p : List ℕ × List ℕ). p.0) nat_list_cmp_total) (on_total (λ (p : List ℕ × List ℕ). p.1) nat_list_cmp_total))

pub labels_cmp_ties : (ps qs : List (List ℕ × List ℕ)) → labels_cmp ps qs ≡ Equal → ps ≡ qs
labels_cmp_ties ps qs e = (labels_decide ps qs _ refl).0 (labels_ties ps qs ∙ ap is_eq e)

-- neither is before the other exactly where they are equal by `==`
pub labels_eq_at : (ps qs : List (List ℕ × List ℕ)) → is_at (labels_cmp ps) qs ≡ labels_eq ps qs
labels_eq_at ps qs = sym (labels_ties ps qs)

pub labels_eq_equivalence : IsEquivalence labels_eq
labels_eq_equivalence = subst IsEquivalence (λ i ps qs. labels_eq_at ps qs i) (eq_by_cmp_equiv labels_cmp_total)

module _ {X : Type 0} where
  -- entries in the order of the labels that they stand under
  abbrev pub by_labels : List (List (List ℕ × List ℕ) × X) → List (List (List ℕ × List ℕ) × X)
  by_labels [] = []
  by_labels (e ∷ es) = insert_entry labels_cmp (by_labels es) e.0 e.1

  pub by_labels_sorted : (es : List (List (List ℕ × List ℕ) × X)) → IsStrictlySortedBy labels_cmp (keys_of (by_labels es))
  unfolding IsStrictlySortedBy
  by_labels_sorted [] = tt
  by_labels_sorted (e ∷ es) = sorted_insert labels_cmp labels_cmp_total e.0 e.1 (by_labels es) (by_labels_sorted es)
