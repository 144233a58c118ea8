-- One more selector stands under the number of one of its rules, and those that stood still do.
use Rattle.std.proofs.Common.{◌≡◌, ◌∙◌, ◌≢◌, ◌+◌, ℕ, List, [], ap, sym, refl, Some, Bool, true, false, arith, ltb-true, ltb-false, slice_get}
use Rattle.std.specs.Prelude.{nat_lt}
use Rattle.opt_selects.specs.Candidates.{AreUnder, is_under}
use Rattle.opt_selects.specs.RuleKeys.{own_keys}
use Rattle.opt_selects.specs.declared.candidates.Placed.{Placed}
use Rattle.opt_selects.specs.declared.found.Found.{Found}

module _ (found : List Found) (rows after : List (List Placed)) (many : ℕ) (a : Found) (at : slice_get found many ≡ Some a)
    (stays : (others : List ℕ) (n : ℕ) → is_under rows others n ≡ true → is_under after others n ≡ true) (stands : own_keys a ≢ [] → is_under after (own_keys a) many ≡ true) where
  pub one_more : AreUnder found rows many → AreUnder found after (many + 1)
  one_more so place b within is some = by (nat_lt place many) refl
    where
      by : (t : Bool) → nat_lt place many ≡ t → is_under after (own_keys b) place ≡ true
      by true e = stays (own_keys b) place (so place b (ltb-true place many e) is some)
      by false e =
          let over = ltb-false place many e in
          let last : place ≡ many = omega (arith, over, within) in
          let items : Some b ≡ Some a = sym is ∙ ap (slice_get found) last ∙ at in
          let same : b ≡ a = cc in
          ap (λ (f : Found). is_under after (own_keys f) place) same ∙ ap (is_under after (own_keys a)) last ∙ stands (λ empty. some (ap (λ (f : Found). own_keys f) same ∙ empty))
