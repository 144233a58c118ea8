-- Labels that are taken out one after another, in either order.
use Rattle.std.proofs.Common.{◌≡◌, ◌∙◌, ℕ, Bool, true, false, cond, List, [], ◌∷◌, refl, sym, ap}
use Rattle.std.specs.Prelude.{◌&&◌, ◌||◌, filter, not, bytes_eq, if◌then◌else◌}
use Rattle.label_set.specs.Labels.{is_named, keep, signature, metric_name, without}
use Rattle.step_table.specs.Groups.{Names}

module _ {X : Type 0} where
  filter_twice : (p q : X → Bool) (xs : List X) → filter p (filter q xs) ≡ filter (λ x. q x && p x) xs
  filter_twice p q [] = refl
  filter_twice p q (x ∷ xs) =
      elim (q x) as (λ b. filter p (cond b (x ∷ filter q xs) (filter q xs)) ≡ cond (b && p x) (x ∷ filter (λ y. q y && p y) xs) (filter (λ y. q y && p y) xs)) [
        | true ↦ ap (λ ys. cond (p x) (x ∷ ys) ys) (filter_twice p q xs)
        | false ↦ filter_twice p q xs
      ]

  filters_alike : (p q r s : X → Bool) → ((x : X) → (q x && p x) ≡ (s x && r x)) → (xs : List X) → filter p (filter q xs) ≡ filter r (filter s xs)
  filters_alike p q r s same xs = filter_twice p q xs ∙ ap (λ (test : X → Bool). filter test xs) (λ i x. same x i) ∙ sym (filter_twice r s xs)

either_first : (a b : Bool) → (a && b) ≡ (b && a)
either_first true true = refl
either_first true false = refl
either_first false true = refl
either_first false false = refl

neither : (a b : Bool) → (not (a || false) && not b) ≡ (not (a || b) && not (a || false))
neither true b = refl
neither false true = refl
neither false false = refl

kept_first : (name : List ℕ) (names : List (List ℕ)) (labels : Names) → keep names (without (name ∷ []) labels) ≡ without (name ∷ []) (keep names labels)
kept_first name names labels =
    filters_alike (λ l. is_named names l.0) (λ l. not (is_named (name ∷ []) l.0)) (λ l. not (is_named (name ∷ []) l.0)) (λ l. is_named names l.0)
    (λ l. either_first (not (is_named (name ∷ []) l.0)) (is_named names l.0)) labels

left_first : (name : List ℕ) (names : List (List ℕ)) (labels : Names) → without names (without (name ∷ []) labels) ≡ without (name ∷ []) (without (name ∷ names) labels)
left_first name names labels =
    filters_alike (λ l. not (is_named names l.0)) (λ l. not (is_named (name ∷ []) l.0)) (λ l. not (is_named (name ∷ []) l.0)) (λ l. not (is_named (name ∷ names) l.0))
    (λ l. neither (bytes_eq name l.0) (is_named names l.0)) labels

-- what is matched of labels without the metric's name is the signature without it
pub matched_unnamed : (on : Bool) (names : List (List ℕ)) (labels : Names) → (if on then keep names (without (metric_name ∷ []) labels) else without names (without (metric_name ∷ []) labels)) ≡ without (metric_name ∷ []) (signature on names labels)
matched_unnamed true names labels = kept_first metric_name names labels
matched_unnamed false names labels = left_first metric_name names labels
