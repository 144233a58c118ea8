-- Steps of a sum and of a count that are fed one after another.
use Rattle.std.proofs.Common.{◌≡◌, ◌∙◌, ◌+◌, ◌<◌, ℕ, zero, suc, arith, List, [], ◌∷◌, ◌++◌, length, slice_get, take, sym, ap, Some}
use Rattle.step_put.specs.Feeding.{some_here}
use Rattle.step_table.specs.Timed.{StepAt}
use Rattle.op_ratio.specs.Ratios.{all_ratios, ratio_at}

-- ---- what is made

-- one step more
ratios_more : (ss cs : List StepAt) (i : ℕ) (s c : StepAt) → slice_get ss i ≡ Some s → slice_get cs i ≡ Some c → all_ratios (take (i + 1) ss) (take (i + 1) cs) ≡ all_ratios (take i ss) (take i cs) ++ ratio_at s c ∷ []
ratios_more [] cs i s c x y = absurd (cc)
ratios_more (a ∷ ss) [] i s c x y = absurd (cc)
ratios_more (a ∷ ss) (b ∷ cs) zero s c x y =
    let e : a ≡ s = cc in
    let f : b ≡ c = cc in
    λ j. ratio_at (e j) (f j) ∷ []
ratios_more (a ∷ ss) (b ∷ cs) (suc i) s c x y =
    let n : suc i + 1 ≡ suc (i + 1) = omega arith in rw n (ap (λ (w : List StepAt). ratio_at a b ∷ w) (ratios_more ss cs i s c x y))

pub lent_more : (ss cs old new : List StepAt) (i : ℕ) → i < length ss → i < length cs → old ≡ all_ratios (take i ss) (take i cs)
    → ((s c : StepAt) → slice_get ss i ≡ Some s → slice_get cs i ≡ Some c → new ≡ old ++ ratio_at s c ∷ []) → new ≡ all_ratios (take (i + 1) ss) (take (i + 1) cs)
lent_more ss cs old new i x y o n =
    let s = some_here ss i x in
    let c = some_here cs i y in
    n s.0 c.0 s.1 c.1 ∙ ap (λ (w : List StepAt). w ++ ratio_at s.0 c.0 ∷ []) o ∙ sym (ratios_more ss cs i s.0 c.0 s.1 c.1)
