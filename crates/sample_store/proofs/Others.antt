-- Labels that pass one of some rules pass all of them where they pass those before it and those behind it.
use Rattle.std.proofs.Common.{◌≡◌, ◌∙◌, ℕ, zero, suc, ◌+◌, ◌-◌, length, List, [], ◌∷◌, take, drop, Some, slice_get, ap, sym, refl, subst, arith, Bool, true, false}
use Rattle.std.proofs.lemmas.List.{take_rest}
use Rattle.std.specs.Prelude.{◌&&◌}
use Rattle.std.specs.List.{list_all}
use Rattle.std.specs.Option.{option_map}
use Rattle.label_set.specs.Labels.{value_of}
use Rattle.label_set.specs.declared.rules.Rule.{Rule}
use Rattle.match_rule.specs.Patterns.{kind_passes, labels_pass}
use Rattle.sample_store.specs.Samples.{Names, PassRule}

both_then : (a b c : Bool) → (a && (b && c)) ≡ ((a && b) && c)
both_then true b c = refl
both_then false b c = refl

all_but : (p : Rule → Bool) (rules : List Rule) (i : ℕ) → option_map p (slice_get rules i) ≡ Some true → list_all p rules ≡ (list_all p (take i rules) && list_all p (drop (i + 1) rules))
all_but p [] i h = absurd (cc)
all_but p (x ∷ xs) zero h = let e : p x ≡ true = cc in ap (λ b. b && list_all p xs) e
all_but p (x ∷ xs) (suc i) h =
    let j : suc (i + 1) ≡ suc i + 1 = omega arith in
    let next : list_all p (x ∷ xs) ≡ ((p x && list_all p (take i xs)) && list_all p (drop (i + 1) xs)) =
    ap (λ b. p x && b) (all_but p xs i h) ∙ both_then (p x) (list_all p (take i xs)) (list_all p (drop (i + 1) xs)) in
    subst (λ z. list_all p (x ∷ xs) ≡ ((p x && list_all p (take i xs)) && list_all p (drop z (x ∷ xs)))) j next

module _ (kept : List (Bool × List ℕ)) (rules : List Rule) (place : ℕ) (names : Names) (passed : PassRule kept rules place names) where
  cut : labels_pass kept rules names ≡ (labels_pass kept (take place rules) names && labels_pass kept (drop (place + 1) rules) names)
  cut = all_but (λ rule. kind_passes kept rule.kind (value_of names rule.label)) rules place passed

  pub before_fails : labels_pass kept (take place rules) names ≡ false → labels_pass kept rules names ≡ false
  before_fails h = cut ∙ ap (λ b. b && labels_pass kept (drop (place + 1) rules) names) h

  pub rest_decides : labels_pass kept (take place rules) names ≡ true → labels_pass kept rules names ≡ labels_pass kept (take (length rules - (place + 1)) (drop (place + 1) rules)) names
  rest_decides h =
      cut ∙ ap (λ b. b && labels_pass kept (drop (place + 1) rules) names) h ∙ ap (λ z. labels_pass kept z names) (sym (take_rest rules (place + 1)))
