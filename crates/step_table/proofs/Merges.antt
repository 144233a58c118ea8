-- Two sets that are merged.
use Rattle.std.proofs.Common.{◌≡◌, ◌∙◌, ◌<◌, ◌≤◌, true, List, [], ◌∷◌, ◌++◌, length, get_or, drop, sym, ap, append_assoc, arith}
use Rattle.std.proofs.lemmas.List.{nil_from_length}
use Rattle.std.specs.declared.cmp.Ordering.{Ordering}
use Rattle.std.specs.declared.cmp.Ordering.TheVariants.{Less, Equal, Greater}
use Rattle.std.specs.Set.{sorted_merge}
use Rattle.step_table.specs.Alike.{merged-less, merged-equal, merged-greater}
use Rattle.step_table.specs.KeySets.{merged-nil}

module _ {K : Type 0} (R : K → K → Ordering) where
  -- what is merged so far and what is still to come, before a bound and all that may follow it, are the same at both
  pub record IsSame (bound : K) (all rest all' rest' : List K) : Type 0 where
    pub at : (xs : List K) → all ++ sorted_merge R true (bound ∷ xs) rest ≡ all' ++ sorted_merge R true (bound ∷ xs) rest'

  pub head_tail : (xs : List K) (x : K) → 1 ≤ length xs → x ≡ get_or xs 0 x → xs ≡ x ∷ drop 1 xs
  head_tail [] x l e = absurd (omega arith)
  head_tail (y ∷ xs) x l e = ap (λ z. z ∷ xs) (sym e)

  module _ (bound : K) (all rest all' rest' : List K) (same : IsSame bound all rest all' rest') where
    pub ended_none : length rest < 1 → (xs : List K) → all ++ bound ∷ sorted_merge R true xs rest ≡ all' ++ sorted_merge R true (bound ∷ xs) rest'
    ended_none l xs =
        let e : rest ≡ [] = nil_from_length rest (omega arith) in
        ap (λ r. all ++ bound ∷ sorted_merge R true xs r) e ∙ ap (λ r. all ++ bound ∷ r) (merged-nil R xs) ∙ ap (λ r. all ++ sorted_merge R true (bound ∷ xs) r) (sym e) ∙ same.at xs

    module _ (y : K) (ys : List K) (is : rest ≡ y ∷ ys) where
      pub ended_less : R bound y ≡ Less → (xs : List K) → all ++ bound ∷ sorted_merge R true xs rest ≡ all' ++ sorted_merge R true (bound ∷ xs) rest'
      ended_less o xs =
          ap (λ r. all ++ bound ∷ sorted_merge R true xs r) is ∙ ap (λ r. all ++ r) (sym (merged-less R bound xs y ys o)) ∙ ap (λ r. all ++ sorted_merge R true (bound ∷ xs) r) (sym is) ∙ same.at xs

      pub ended_equal : R bound y ≡ Equal → (xs : List K) → all ++ bound ∷ sorted_merge R true xs ys ≡ all' ++ sorted_merge R true (bound ∷ xs) rest'
      ended_equal o xs =
          ap (λ r. all ++ r) (sym (merged-equal R bound xs y ys o)) ∙ ap (λ r. all ++ sorted_merge R true (bound ∷ xs) r) (sym is) ∙ same.at xs

      pub goes_on : R bound y ≡ Greater → (more : List K) → more ≡ all ++ y ∷ [] → IsSame bound more ys all' rest'
      goes_on o more e = record {
        at = λ xs. ap (λ m. m ++ sorted_merge R true (bound ∷ xs) ys) e ∙ append_assoc all (y ∷ []) (sorted_merge R true (bound ∷ xs) ys)
            ∙ ap (λ r. all ++ r) (sym (merged-greater R bound xs y ys o)) ∙ ap (λ r. all ++ sorted_merge R true (bound ∷ xs) r) (sym is) ∙ same.at xs;
      }
