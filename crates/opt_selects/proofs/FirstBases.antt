-- The first base stands at the least place under the numbers of the rules.
use Rattle.std.proofs.Common.{◌≡◌, ◌∙◌, ◌≢◌, ℕ, List, [], ◌∷◌, length, ap, sym, refl, Some, None, Bor, true, slice_get}
use Rattle.std.specs.Prelude.{Option, option_map}
use Rattle.std.specs.Slice.{IsItemAt}
use Rattle.std.proofs.lemmas.Option.{slice_get_past, slice_get_read, slice_get_within}
use Rattle.label_set.specs.declared.rules.Rule.{Rule}
use Rattle.promql_ast.specs.declared.tree.Moment.{Moment}
use Rattle.ticks.specs.declared.moment.Ms.{Ms}
use Rattle.opt_selects.specs.Bases.{base_among, is_base, share_metric}
use Rattle.opt_selects.specs.Candidates.{AreUnder, is_under, least_under, passes, passes_at}
use Rattle.opt_selects.specs.RuleKeys.{has_keys, own_keys, rule_keys, start_number}
use Rattle.opt_selects.specs.declared.candidates.Placed.{Placed}
use Rattle.opt_selects.specs.declared.found.Found.{Found}
use Rattle.opt_selects.proofs.BaseParts.{base_parts}
use Rattle.opt_selects.proofs.Numbers.{keys_at, part_has_keys}
use Rattle.opt_selects.proofs.Standing.{first_found, under_more}

sharing_has_keys : (some rules : List Rule) (moment : Moment) (range : Option Ms) → share_metric some rules ≡ true → rule_keys moment range some ≢ []
sharing_has_keys [] rules moment range h e = absurd (cc)
sharing_has_keys (r ∷ some) rules moment range h e = absurd (cc)

-- what is lent at a place is what stands there
lent_at : (found : List Found) (place : ℕ) (o : Option (Bor Found)) → IsItemAt found place o → option_map (λ (a : Bor Found). a.now) o ≡ slice_get found place
lent_at found place None l = sym (slice_get_past found place l.3)
lent_at found place (Some a) l = sym (slice_get_read found (length found) place a.now refl l.3.0 l.1)

module _ (rules : List Rule) (moment : Moment) (range : Option Ms) (found : List Found) (rows : List (List Placed)) (stand : AreUnder found rows (length found)) where
  bases_stand : (n : ℕ) → passes_at (is_base rules moment range) found n ≡ true → is_under rows (rule_keys moment range rules) n ≡ true
  bases_stand n h = by (slice_get found n) refl h
    where
      by : (o : Option Found) → slice_get found n ≡ o → passes (is_base rules moment range) o ≡ true → is_under rows (rule_keys moment range rules) n ≡ true
      by None e h = absurd (cc)
      by (Some a) e h =
          let base = base_parts rules moment range a h in
          let among : has_keys (rule_keys moment range rules) (own_keys a) ≡ true =
          ap (has_keys (rule_keys moment range rules)) (keys_at a moment range base.moments base.ranges) ∙ part_has_keys (start_number moment range) a.rules rules base.part in
          under_more rows n (rule_keys moment range rules) (own_keys a) among (stand n a (slice_get_within found n a e) e (sharing_has_keys a.rules rules a.moment a.range base.metrics))

  base_is_at : option_map (λ (a : Found). a.rules) (slice_get found (least_under (passes_at (is_base rules moment range) found) rows (rule_keys moment range rules) (length found))) ≡ base_among found rules moment range
  base_is_at = ap (option_map (λ (a : Found). a.rules)) (first_found (is_base rules moment range) found rows (rule_keys moment range rules) bases_stand)

  pub base_is_lent : (keys : List ℕ) (place : ℕ) (o : Option (Bor Found)) → keys ≡ rule_keys moment range rules → place ≡ least_under (passes_at (is_base rules moment range) found) rows keys (length found) → IsItemAt found place o
      → option_map (λ (a : Found). a.rules) (option_map (λ (a : Bor Found). a.now) o) ≡ base_among found rules moment range
  base_is_lent keys place o same is l =
      ap (option_map (λ (a : Found). a.rules))
      (lent_at found place o l ∙ ap (slice_get found) (is ∙ ap (λ ks. least_under (passes_at (is_base rules moment range) found) rows ks (length found)) same))
      ∙ base_is_at
