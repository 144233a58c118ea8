-- Steps that are fed one after another, each beside its parameter.
use Rattle.std.proofs.Common.{◌≡◌, ◌∙◌, ◌+◌, ◌<◌, ℕ, zero, suc, arith, List, [], ◌∷◌, ◌++◌, length, slice_get, take, sym, ap, Some}
use Rattle.step_put.specs.Feeding.{some_here}
use Rattle.step_table.specs.Timed.{StepAt}
use Rattle.op_rank.specs.Rules.{made_of_each}

-- ---- what is made

-- one step more
made_more : (make : StepAt → StepAt → StepAt) (ps ss : List StepAt) (i : ℕ) (p s : StepAt) → slice_get ps i ≡ Some p → slice_get ss i ≡ Some s
    → made_of_each make (take (i + 1) ps) (take (i + 1) ss) ≡ made_of_each make (take i ps) (take i ss) ++ make p s ∷ []
made_more make [] ss i p s x y = absurd (cc)
made_more make (q ∷ ps) [] i p s x y = absurd (cc)
made_more make (q ∷ ps) (r ∷ ss) zero p s x y =
    let a : q ≡ p = cc in
    let b : r ≡ s = cc in
    λ j. make (a j) (b j) ∷ []
made_more make (q ∷ ps) (r ∷ ss) (suc i) p s x y =
    let n : suc i + 1 ≡ suc (i + 1) = omega arith in rw n (ap (λ (w : List StepAt). make q r ∷ w) (made_more make ps ss i p s x y))

pub lent_more : (make : StepAt → StepAt → StepAt) (ps ss old new : List StepAt) (i : ℕ) → i < length ps → i < length ss
    → old ≡ made_of_each make (take i ps) (take i ss) → ((p s : StepAt) → slice_get ps i ≡ Some p → slice_get ss i ≡ Some s → new ≡ old ++ make p s ∷ [])
    → new ≡ made_of_each make (take (i + 1) ps) (take (i + 1) ss)
lent_more make ps ss old new i x y o n =
    let p = some_here ps i x in
    let s = some_here ss i y in
    n p.0 s.0 p.1 s.1 ∙ ap (λ (w : List StepAt). w ++ make p.0 s.0 ∷ []) o ∙ sym (made_more make ps ss i p.0 s.0 p.1 s.1)
