-- Rules that are sorted beside the texts of their patterns are in their order.
use Rattle.std.proofs.Common.{◌≡◌, ◌∙◌, ℕ, Bool, List, [], ◌∷◌, map, ap, Some, None}
use Rattle.std.specs.Prelude.{fold, option_map, slice_get, Option}
use Rattle.std.specs.Cmp.{IsStrictWeakOrder, IsTotalOrder}
use Rattle.std.specs.List.{All, AllByRecursion}
use Rattle.std.specs.Ordering.{is_lt}
use Rattle.std.proofs.lemmas.Cmp.{nat_cmp_total, nat_list_cmp_total, on_total, then_total}
use Rattle.std.proofs.lemmas.List.Elements.{All-head, All-tail}
use Rattle.std.proofs.lemmas.List.MinMax.{ranks_by}
use Rattle.label_set.specs.declared.rules.PatternId.{PatternId}
use Rattle.label_set.specs.declared.rules.Rule.{Rule}
use Rattle.window_fn.specs.Aggregates.{inserted}
use Rattle.logical_plan.specs.PlanRules.{pattern_text, text_or_empty}
use Rattle.opt_matchers.specs.Keys.{IsKeyed, keyed_below, keyed_order, keyed_text}
use Rattle.opt_matchers.specs.RuleOrder.{comes_before, kind_rank, order_with, ordered_rules, pattern_of}
use Rattle.opt_matchers.specs.declared.keys.Keyed.{Keyed}
use Rattle.plan_rewrite.specs.Insertion.{map_folded}

keyed_total : IsTotalOrder keyed_order
keyed_total =
    then_total (on_total (λ (k : Keyed). k.rule.label) nat_list_cmp_total)
    (then_total (on_total (λ (k : Keyed). kind_rank k.rule.kind) nat_cmp_total) (on_total keyed_text nat_list_cmp_total))

pub keyed_weak : IsStrictWeakOrder keyed_below
keyed_weak = ranks_by keyed_total (λ (k : Keyed). k)

module _ (kept : List (Bool × List ℕ)) where
  agrees : (a b : Keyed) → IsKeyed kept a → IsKeyed kept b → keyed_below a b ≡ comes_before kept a.rule b.rule
  agrees a b pa pb =
      ap (λ p. is_lt (order_with p b.pattern.now a.rule b.rule)) pa
      ∙ ap (λ p. is_lt (order_with (pattern_of kept a.rule.kind) p a.rule b.rule)) pb

  all_from : (ks : List Keyed) → All (IsKeyed kept) ks → AllByRecursion (IsKeyed kept) ks
  all_from [] a = tt
  all_from (k ∷ ks) a = (All-head (IsKeyed kept) k ks a, all_from ks (All-tail (IsKeyed kept) k ks a))

  pub rules_in_order : (keyed : List Keyed) (rules : List Rule) → map (λ (k : Keyed). k.rule) keyed ≡ rules → All (IsKeyed kept) keyed
      → map (λ (k : Keyed). k.rule) (fold (inserted keyed_below) [] keyed) ≡ ordered_rules kept rules
  rules_in_order keyed rules same all =
      map_folded (λ (k : Keyed). k.rule) keyed_below (comes_before kept) (IsKeyed kept) agrees [] keyed tt (all_from keyed all)
      ∙ ap (fold (inserted (comes_before kept)) []) same

-- the text that stands under a number
text_found : (found : Option (Bool × List ℕ)) (text : List ℕ) → option_map (λ (p : Bool × List ℕ). p.1) found ≡ Some text → text ≡ text_or_empty found
text_found (Some p) text e = cc
text_found None text e = absurd (cc)

pub text_is : (kept : List (Bool × List ℕ)) (id : PatternId) (text : List ℕ) → option_map (λ (p : Bool × List ℕ). p.1) (slice_get kept id.0) ≡ Some text → text ≡ pattern_text kept id
text_is kept id text e = text_found (slice_get kept id.0) text e
