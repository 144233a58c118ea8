-- What passes lists of rules that make one together. (This project's own.)
use Rattle.std.proofs.Common.{◌≡◌, ◌∙◌, ℕ, List, [], ◌∷◌, ◌++◌, ap, sym, refl, Bool, true, false, cond, arith}
use Rattle.std.specs.Prelude.{◌&&◌, ◌||◌, ◌==◌, not, filter, bytes_eq}
use Rattle.std.specs.List.{list_all}
use Rattle.std.proofs.lemmas.Slice.Eq.{bytes_eq-Decides}
use Rattle.label_set.specs.Labels.{value_of}
use Rattle.label_set.specs.declared.rules.Rule.{Rule}
use Rattle.label_set.specs.declared.rules.RuleKind.{RuleKind}
use Rattle.label_set.specs.declared.rules.RuleKind.TheVariants.{Eq, Ne, Re, Nre}
use Rattle.match_rule.specs.Patterns.{kind_passes}
use Rattle.promql_meaning.specs.Selecting.{Asked}
use Rattle.plan_rewrite.specs.RuleLists.{AreTogether, has_rule, is_part, lacking, same_kind, same_rule}

left_true : (a b : Bool) → (a && b) ≡ true → a ≡ true
left_true true b e = refl
left_true false b e = e

right_true : (a b : Bool) → (a && b) ≡ true → b ≡ true
right_true true b e = e
right_true false b e = absurd (cc)

both_true : (a b : Bool) → a ≡ true → b ≡ true → (a && b) ≡ true
both_true true b e f = f
both_true false b e f = e

same_ids : (a b : ℕ) → (a == b) ≡ true → a ≡ b
same_ids a b e = grind (arith, e)

kinds_same : (a b : RuleKind) → same_kind a b ≡ true → a ≡ b
kinds_same (Eq a) (Eq b) e = ap Eq ((bytes_eq-Decides a b).0 e)
kinds_same (Ne a) (Ne b) e = ap Ne ((bytes_eq-Decides a b).0 e)
kinds_same (Re a) (Re b) e = ap (λ n. Re (record { 0 = n })) (same_ids a.0 b.0 e)
kinds_same (Nre a) (Nre b) e = ap (λ n. Nre (record { 0 = n })) (same_ids a.0 b.0 e)
kinds_same (Eq a) (Ne b) e = absurd (cc)
kinds_same (Eq a) (Re b) e = absurd (cc)
kinds_same (Eq a) (Nre b) e = absurd (cc)
kinds_same (Ne a) (Eq b) e = absurd (cc)
kinds_same (Ne a) (Re b) e = absurd (cc)
kinds_same (Ne a) (Nre b) e = absurd (cc)
kinds_same (Re a) (Eq b) e = absurd (cc)
kinds_same (Re a) (Ne b) e = absurd (cc)
kinds_same (Re a) (Nre b) e = absurd (cc)
kinds_same (Nre a) (Eq b) e = absurd (cc)
kinds_same (Nre a) (Ne b) e = absurd (cc)
kinds_same (Nre a) (Re b) e = absurd (cc)

rules_same : (a b : Rule) → same_rule a b ≡ true → a ≡ b
rules_same a b e =
    let label = (bytes_eq-Decides a.label b.label).0 (left_true (bytes_eq a.label b.label) (same_kind a.kind b.kind) e) in
    let kind = kinds_same a.kind b.kind (right_true (bytes_eq a.label b.label) (same_kind a.kind b.kind) e) in
    λ i. record { label = label i; kind = kind i }

module _ (p : Rule → Bool) where
  pub member : (rules : List Rule) (rule : Rule) → has_rule rules rule ≡ true → list_all p rules ≡ true → p rule ≡ true
  member [] rule h a = absurd (cc)
  member (r ∷ rules) rule h a = by (same_rule rule r) refl h (member rules rule)
    where
      by : (s : Bool) → same_rule rule r ≡ s → (s || has_rule rules rule) ≡ true → (has_rule rules rule ≡ true → list_all p rules ≡ true → p rule ≡ true) → p rule ≡ true
      by true is h rest = ap p (rules_same rule r is) ∙ left_true (p r) (list_all p rules) a
      by false is h rest = rest h (right_true (p r) (list_all p rules) a)

  part_passes : (a b : List Rule) → is_part a b ≡ true → list_all p b ≡ true → list_all p a ≡ true
  part_passes [] b h e = refl
  part_passes (r ∷ a) b h e =
      both_true (p r) (list_all p a) (member b r (left_true (has_rule b r) (is_part a b) h) e) (part_passes a b (right_true (has_rule b r) (is_part a b) h) e)

  pub kept_passes : (q : Rule → Bool) (rules : List Rule) → list_all p rules ≡ true → list_all p (filter q rules) ≡ true
  kept_passes q [] e = refl
  kept_passes q (r ∷ rules) e = by (q r) (kept_passes q rules (right_true (p r) (list_all p rules) e))
    where
      by : (s : Bool) → list_all p (filter q rules) ≡ true → list_all p (cond s (r ∷ filter q rules) (filter q rules)) ≡ true
      by true rest = both_true (p r) (list_all p (filter q rules)) (left_true (p r) (list_all p rules) e) rest
      by false rest = rest

  whole_passes : (a b : List Rule) → list_all p a ≡ true → list_all p (lacking a b) ≡ true → list_all p b ≡ true
  whole_passes a [] e f = refl
  whole_passes a (r ∷ b) e f = by (has_rule a r) refl f (whole_passes a b e)
    where
      by : (s : Bool) → has_rule a r ≡ s → list_all p (cond (not s) (r ∷ lacking a b) (lacking a b)) ≡ true → (list_all p (lacking a b) ≡ true → list_all p b ≡ true) → list_all p (r ∷ b) ≡ true
      by true is f rest = both_true (p r) (list_all p b) (member a r is e) (rest f)
      by false is f rest = both_true (p r) (list_all p b) (left_true (p r) (list_all p (lacking a b)) f) (rest (right_true (p r) (list_all p (lacking a b)) f))

  parts : (a b : List Rule) → is_part a b ≡ true → list_all p b ≡ (list_all p a && list_all p (lacking a b))
  parts a b h = by (list_all p b) (list_all p a) (list_all p (lacking a b)) refl refl refl
    where
      by : (x y z : Bool) → list_all p b ≡ x → list_all p a ≡ y → list_all p (lacking a b) ≡ z → list_all p b ≡ (list_all p a && list_all p (lacking a b))
      by true y z e f g = e ∙ sym (both_true (list_all p a) (list_all p (lacking a b)) (part_passes a b h e) (kept_passes (λ (rule : Rule). not (has_rule a rule)) b e))
      by false true true e f g = let t = whole_passes a b f g in absurd (cc)
      by false true false e f g = e ∙ sym (ap (λ v. v && list_all p (lacking a b)) f ∙ g)
      by false false z e f g = e ∙ sym (ap (λ v. v && list_all p (lacking a b)) f)

  pub added : (a more : List Rule) → list_all p (a ++ more) ≡ (list_all p a && list_all p more)
  added [] more = refl
  added (r ∷ a) more = ap (λ b. p r && b) (added a more) ∙ grouped (p r) (list_all p a) (list_all p more)
    where
      grouped : (x y z : Bool) → (x && (y && z)) ≡ ((x && y) && z)
      grouped true y z = refl
      grouped false y z = refl

-- rules are together what a part of them and the rest are
pub parts_together : (asked : Asked) (a b : List Rule) → is_part a b ≡ true → AreTogether asked b a (lacking a b)
parts_together asked a b h names = parts (λ (rule : Rule). kind_passes asked.kept rule.kind (value_of names rule.label)) a b h

-- two lists of rules in a row are both together
pub added_together : (asked : Asked) (a more : List Rule) → AreTogether asked (a ++ more) a more
added_together asked a more names = added (λ (rule : Rule). kind_passes asked.kept rule.kind (value_of names rule.label)) a more
