-- One more label of a printed list.
use Rattle.std.proofs.Common.{None, Some, ◌≡◌, ◌+◌, ℕ, Bool, true, false, List, [], ◌∷◌, ◌++◌, slice_get, drop, map, refl, ap, ◌∙◌, if◌then◌else◌}
use Rattle.label_set.specs.Labels.{is_named, metric_name, value_at, without}
use Rattle.label_set.specs.LabelText.{comma_list, label_text, labels_text, series_text}
use Rattle.label_set.proofs.PairSteps.{drop_at_get}

abbrev pub parts : List (List ℕ × List ℕ) → List (List ℕ)
parts ps = map label_text (without (metric_name ∷ []) ps)

module _ (started : Bool) (ps : List (List ℕ × List ℕ)) (i : ℕ) (x : List ℕ × List ℕ) (at : slice_get ps i ≡ Some x) where
  more : comma_list started (parts (drop i ps)) ≡ comma_list started (parts (x ∷ drop (i + 1) ps))
  more = ap (λ qs. comma_list started (parts qs)) (drop_at_get ps i x at)

  pub skips : is_named (metric_name ∷ []) x.0 ≡ true → comma_list started (parts (drop i ps)) ≡ comma_list started (parts (drop (i + 1) ps))
  skips e = more ∙ rw e refl

  pub prints : is_named (metric_name ∷ []) x.0 ≡ false → comma_list started (parts (drop i ps)) ≡ ((if started then 44 ∷ [] else []) ++ label_text x) ++ comma_list true (parts (drop (i + 1) ps))
  prints e = more ∙ rw e refl

pub text_of_named : (ps : List (List ℕ × List ℕ)) (name : List ℕ) → value_at ps metric_name ≡ Some name → labels_text ps ≡ series_text (Some name) (parts ps)
text_of_named ps name e = ap (λ o. series_text o (parts ps)) e

pub text_of_nameless : (ps : List (List ℕ × List ℕ)) → value_at ps metric_name ≡ None → labels_text ps ≡ series_text None (parts ps)
text_of_nameless ps e = ap (λ o. series_text o (parts ps)) e
