-- Steps that are made each of one step alone, one after another.
use Rattle.std.proofs.Common.{◌≡◌, ◌∙◌, ◌+◌, ◌<◌, ℕ, zero, suc, arith, List, [], ◌∷◌, ◌++◌, length, slice_get, take, map, refl, sym, ap, Some}
use Rattle.step_table.specs.Timed.{StepAt}
use Rattle.op_rank.specs.Rules.{made_of_each}
use Rattle.step_put.specs.Feeding.{some_here}

taken_more : (make : StepAt → StepAt) (ss : List StepAt) (i : ℕ) (s : StepAt) → slice_get ss i ≡ Some s → map make (take (i + 1) ss) ≡ map make (take i ss) ++ make s ∷ []
taken_more make [] i s e = absurd (cc)
taken_more make (r ∷ ss) zero s e = let same : r ≡ s = cc in ap (λ (z : StepAt). make z ∷ []) same
taken_more make (r ∷ ss) (suc i) s e = let n : suc i + 1 ≡ suc (i + 1) = omega arith in rw n (ap (λ (w : List StepAt). make r ∷ w) (taken_more make ss i s e))

-- one step more
pub each_more : (make : StepAt → StepAt) (ss old new : List StepAt) (i : ℕ) → i < length ss → old ≡ map make (take i ss) → ((s : StepAt) → slice_get ss i ≡ Some s → new ≡ old ++ make s ∷ []) → new ≡ map make (take (i + 1) ss)
each_more make ss old new i l o n =
    let s = some_here ss i l in
    n s.0 s.1 ∙ ap (λ (w : List StepAt). w ++ make s.0 ∷ []) o ∙ sym (taken_more make ss i s.0 s.1)

-- a parameter that isn't read
pub unread : (make : StepAt → StepAt) (ps ss : List StepAt) → length ps ≡ length ss → map make ss ≡ made_of_each (λ p s. make s) ps ss
unread make [] [] e = refl
unread make [] (s ∷ ss) e = absurd (omega (arith, e))
unread make (p ∷ ps) [] e = absurd (omega (arith, e))
unread make (p ∷ ps) (s ∷ ss) e = ap (λ (w : List StepAt). make s ∷ w) (unread make ps ss (omega (arith, e)))
