-- Rules whose numbers are no part of others are no part of them, and no base for them.
use Rattle.std.proofs.Common.{◌≡◌, ◌∙◌, ℕ, List, [], ◌∷◌, map, ap, sym, refl, Bool, true, false, arith}
use Rattle.std.specs.Prelude.{Option, ◌&&◌, ◌||◌, ◌==◌, not}
use Rattle.std.specs.List.{list_all}
use Rattle.std.proofs.lemmas.Bool.{and_parts}
use Rattle.label_set.specs.declared.rules.Rule.{Rule}
use Rattle.promql_ast.specs.declared.tree.Moment.{Moment}
use Rattle.ticks.specs.declared.moment.Ms.{Ms}
use Rattle.plan_rewrite.specs.RuleLaws.{member}
use Rattle.plan_rewrite.specs.RuleLists.{has_rule, is_part}
use Rattle.opt_selects.specs.Bases.{is_base, same_moment, same_range, share_metric}
use Rattle.opt_selects.specs.RuleKeys.{has_key, has_keys, own_keys, rule_key, rule_keys, start_number}
use Rattle.opt_selects.specs.declared.found.Found.{Found}
use Rattle.opt_selects.proofs.Moments.{moment_same, range_same}

itself : (n : ℕ) → (n == n) ≡ true
itself n = grind arith

module _ (start : ℕ) where
  -- where no rule has a number, each rule has another one
  all_others : (rules : List Rule) (key : ℕ) → has_key (map (rule_key start) rules) key ≡ false → list_all (λ (rule : Rule). not (rule_key start rule == key)) rules ≡ true
  all_others [] key e = refl
  all_others (r ∷ rules) key e = by (rule_key start r == key) refl e (all_others rules key)
    where
      by : (b : Bool) → (rule_key start r == key) ≡ b → (b || has_key (map (rule_key start) rules) key) ≡ false → (has_key (map (rule_key start) rules) key ≡ false → list_all (λ (rule : Rule). not (rule_key start rule == key)) rules ≡ true) → (not b && list_all (λ (rule : Rule). not (rule_key start rule == key)) rules) ≡ true
      by true is e rest = absurd (cc)
      by false is e rest = rest e

  has_its_key : (rules : List Rule) (rule : Rule) → has_rule rules rule ≡ true → has_key (map (rule_key start) rules) (rule_key start rule) ≡ true
  has_its_key rules rule e = by (has_key (map (rule_key start) rules) (rule_key start rule)) refl
    where
      by : (b : Bool) → has_key (map (rule_key start) rules) (rule_key start rule) ≡ b → b ≡ true
      by true is = refl
      by false is =
          let other : not (rule_key start rule == rule_key start rule) ≡ true = member (λ (r : Rule). not (rule_key start r == rule_key start rule)) rules rule e (all_others rules (rule_key start rule) is) in
          let no : not true ≡ true = ap not (sym (itself (rule_key start rule))) ∙ other in
          absurd (cc)

  pub part_has_keys : (a b : List Rule) → is_part a b ≡ true → has_keys (map (rule_key start) b) (map (rule_key start) a) ≡ true
  part_has_keys [] b e = refl
  part_has_keys (r ∷ a) b e =
      let parts = and_parts (has_rule b r) (is_part a b) e in
      ap (λ x. x && has_keys (map (rule_key start) b) (map (rule_key start) a)) (has_its_key b r parts.0) ∙ part_has_keys a b parts.1

  no_part : (a b : List Rule) → has_keys (map (rule_key start) b) (map (rule_key start) a) ≡ false → is_part a b ≡ false
  no_part a b e = by (is_part a b) refl
    where
      by : (x : Bool) → is_part a b ≡ x → x ≡ false
      by true is = let yes = part_has_keys a b is in absurd (cc)
      by false is = refl

-- the numbers of a selector's rules at its own moment and over its own range
pub keys_at : (a : Found) (moment : Moment) (range : Option Ms) → same_moment a.moment moment ≡ true → same_range a.range range ≡ true → own_keys a ≡ rule_keys moment range a.rules
keys_at a moment range m r =
    let moments = moment_same a.moment moment m in
    let ranges = range_same a.range range r in
    λ i. rule_keys (moments i) (ranges i) a.rules

pub no_base : (keys : List ℕ) (rules : List Rule) (moment : Moment) (range : Option Ms) (a : Found) → keys ≡ rule_keys moment range rules → has_keys keys (own_keys a) ≡ false → is_base rules moment range a ≡ false
no_base keys rules moment range a same e = by (same_moment a.moment moment) (same_range a.range range) refl refl
  where
    last : (x : Bool) → (x && false && not (is_part rules a.rules)) ≡ false
    last true = refl
    last false = refl

    by : (x y : Bool) → same_moment a.moment moment ≡ x → same_range a.range range ≡ y → (x && y && share_metric a.rules rules && is_part a.rules rules && not (is_part rules a.rules)) ≡ false
    by false y m r = refl
    by true false m r = refl
    by true true m r =
        let others : has_keys (rule_keys moment range rules) (rule_keys moment range a.rules) ≡ false = ap (λ some. has_keys (rule_keys moment range rules) some) (sym (keys_at a moment range m r)) ∙ ap (λ ks. has_keys ks (own_keys a)) (sym same) ∙ e in
        ap (λ x. share_metric a.rules rules && x && not (is_part rules a.rules)) (no_part (start_number moment range) a.rules rules others) ∙ last (share_metric a.rules rules)
