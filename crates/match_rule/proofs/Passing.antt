-- Rules one after another.
use Rattle.std.proofs.Common.{◌≡◌, ◌∙◌, ◌+◌, ◌<◌, ◌∷◌, ◌&&◌, ℕ, Bool, true, false, List, length, drop, get_or, ap, sym}
use Rattle.std.proofs.lemmas.List.{at_drop_more}
use Rattle.label_set.specs.Labels.{value_of}
use Rattle.label_set.specs.declared.rules.Rule.{Rule}
use Rattle.match_rule.specs.Patterns.{kind_passes, labels_pass}

pub dropped : (all : List Rule) (i : ℕ) (rule : Rule) → i < length all → rule ≡ get_or all i rule → drop i all ≡ rule ∷ drop (i + 1) all
dropped all i rule w here = at_drop_more (λ (rest : List Rule). rest) all i rule w ∙ ap (λ x. x ∷ drop (i + 1) all) (sym here)

module _ (kept : List (Bool × List ℕ)) (names : List (List ℕ × List ℕ)) (all : List Rule) (i : ℕ) (rule : Rule) (w : i < length all) (here : rule ≡ get_or all i rule) where
  next : labels_pass kept (drop i all) names ≡ (kind_passes kept rule.kind (value_of names rule.label) && labels_pass kept (drop (i + 1) all) names)
  next = ap (λ rules. labels_pass kept rules names) (dropped all i rule w here)

  -- a rule that is not passed ends it
  pub stops : kind_passes kept rule.kind (value_of names rule.label) ≡ false → labels_pass kept (drop i all) names ≡ false
  stops off = next ∙ ap (λ b. b && labels_pass kept (drop (i + 1) all) names) off

  -- one that is passed leaves the others
  pub goes : kind_passes kept rule.kind (value_of names rule.label) ≡ true → labels_pass kept (drop (i + 1) all) names ≡ labels_pass kept (drop i all) names
  goes on = sym (next ∙ ap (λ b. b && labels_pass kept (drop (i + 1) all) names) on)
