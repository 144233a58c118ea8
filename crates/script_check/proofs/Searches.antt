-- Patterns that were searched, as marks keep them.
use Rattle.std.proofs.Common.{◌≡◌, ◌<◌, ◌≤◌, ◌⊎◌, ℕ, zero, suc, inl, inr, Bool, true, false, List, ◌∷◌, refl, sym, ◌∙◌, arith}
use Rattle.std.specs.Prelude.{slice_index_or}
use Rattle.std.specs.List.{list_any}
use Rattle.std.proofs.Math.ListN.{get_or-eq_default, replicate}
use Rattle.std.proofs.lemmas.List.{get_or-replicate, length-replicate}
use Rattle.script_read.specs.declared.script.Wanted.{Wanted}
use Rattle.script_check.specs.Searched.{HoldsWhereMarked}
use Rattle.script_check.specs.Verdicts.{PatternList, meets, noted_holds}

lt_or_le : (j i : ℕ) → (j < i) ⊎ (i ≤ j)
lt_or_le j zero = inr (omega arith)
lt_or_le zero (suc i) = inl (omega arith)
lt_or_le (suc j) (suc i) = elim (lt_or_le j i) [ inl less ↦ inl (omega arith) | inr from ↦ inr (omega arith) ]

unset : (n place : ℕ) → slice_index_or (replicate n false) place false ≡ false
unset n place = by n place (lt_or_le place n)
  where
    by : (m k : ℕ) → (k < m) ⊎ (m ≤ k) → slice_index_or (replicate m false) k false ≡ false
    by m k (inl below) = get_or-replicate m k false false below
    by m k (inr past) = get_or-eq_default (replicate m false) false (omega (arith, length-replicate {A = Bool} m false, past))

pub none_searched : (holds : Wanted → Bool) → HoldsWhereMarked holds (replicate 32 false)
none_searched holds = record { each = λ id h. absurd (let no : false ≡ true = sym (unset 32 id.0) ∙ h in cc) }

-- a line that holds is no reason
pub one_met : (kept : PatternList) (texts : List (List ℕ)) (line : Wanted) (lines : List Wanted) → list_any (λ text. meets kept text line) texts ≡ true → noted_holds kept lines texts ≡ noted_holds kept (line ∷ lines) texts
one_met kept texts line lines met = rw met refl
