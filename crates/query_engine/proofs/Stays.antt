-- What holds of the parts of a tree while more patterns are kept.
use Rattle.std.proofs.Common.{◌≡◌, ◌<◌, ℕ, zero, suc, Bool, true, List, [], ◌∷◌, length, Option, Some, sym, subst, arith}
use Rattle.std.specs.Option.{option_map}
use Rattle.label_set.specs.Entries.{recursion_map}
use Rattle.label_set.specs.declared.rules.Rule.{Rule}
use Rattle.label_set.specs.declared.rules.RuleKind.{RuleKind}
use Rattle.label_set.specs.declared.rules.RuleKind.TheVariants.{Eq, Ne, Re as Matching, Nre}
use Rattle.match_rule.specs.Gains.{Gains}
use Rattle.match_rule.specs.Patterns.{HasItsPattern, HaveTheirPatterns, IsWholeId}
use Rattle.promql_ast.specs.Parts.{AreWithin, IsWithin, Part}

whole_within : (kept : List (Bool × List ℕ)) (id : ℕ) → IsWholeId kept id → id < length kept
whole_within [] id e = absurd (cc)
whole_within (p ∷ ps) zero e = omega arith
whole_within (p ∷ ps) (suc id) e = let h = whole_within ps id e in omega (arith, h)

module _ (a b : List (Bool × List ℕ)) (gains : Gains a b) where
  id_stays : (id : ℕ) → IsWholeId a id → IsWholeId b id
  id_stays id is = subst (λ (o : Option (Bool × List ℕ)). option_map (λ p. p.0) o ≡ Some true) (sym (gains.earlier id (whole_within a id is))) is

  kind_stays : (kind : RuleKind) → HasItsPattern a kind → HasItsPattern b kind
  kind_stays (Eq text) is = tt
  kind_stays (Ne text) is = tt
  kind_stays (Matching id) is = id_stays id.0 is
  kind_stays (Nre id) is = id_stays id.0 is

  rules_stay : (rules : List Rule) → HaveTheirPatterns a rules → HaveTheirPatterns b rules
  rules_stay rules are =
      recursion_map (λ (rule : Rule). HasItsPattern a rule.kind) (λ (rule : Rule). HasItsPattern b rule.kind) (λ rule is. kind_stays rule.kind is) rules are

  part_stays : (longest latest : ℕ) (part : Part) → IsWithin (HaveTheirPatterns a) longest latest part → IsWithin (HaveTheirPatterns b) longest latest part
  part_stays longest latest (Part.of_rules rules) is = rules_stay rules is
  part_stays longest latest (Part.of_moment moment) is = is
  part_stays longest latest (Part.of_length length) is = is

  pub parts_stay : (longest latest : ℕ) (parts : List Part) → AreWithin (HaveTheirPatterns a) longest latest parts → AreWithin (HaveTheirPatterns b) longest latest parts
  parts_stay longest latest parts are =
      recursion_map (IsWithin (HaveTheirPatterns a) longest latest) (IsWithin (HaveTheirPatterns b) longest latest) (part_stays longest latest) parts are
