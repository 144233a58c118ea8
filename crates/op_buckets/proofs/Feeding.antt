-- Steps that are fed one after another, each beside its quantile.
use Rattle.std.proofs.Common.{◌≡◌, ◌∙◌, ◌+◌, ◌<◌, ℕ, zero, suc, arith, List, [], ◌∷◌, ◌++◌, length, slice_get, take, sym, ap, Some}
use Rattle.step_put.specs.Feeding.{some_here}
use Rattle.step_table.specs.Timed.{StepAt}
use Rattle.op_buckets.specs.Rules.{all_quantiles, quantiles_at}

-- ---- what is made

-- one step more
quantiles_more : (qs ss : List StepAt) (i : ℕ) (q s : StepAt) → slice_get qs i ≡ Some q → slice_get ss i ≡ Some s → all_quantiles (take (i + 1) qs) (take (i + 1) ss) ≡ all_quantiles (take i qs) (take i ss) ++ quantiles_at q s ∷ []
quantiles_more [] ss i q s x y = absurd (cc)
quantiles_more (p ∷ qs) [] i q s x y = absurd (cc)
quantiles_more (p ∷ qs) (r ∷ ss) zero q s x y =
    let a : p ≡ q = cc in
    let b : r ≡ s = cc in
    λ j. quantiles_at (a j) (b j) ∷ []
quantiles_more (p ∷ qs) (r ∷ ss) (suc i) q s x y =
    let n : suc i + 1 ≡ suc (i + 1) = omega arith in rw n (ap (λ (w : List StepAt). quantiles_at p r ∷ w) (quantiles_more qs ss i q s x y))

pub lent_more : (qs ss old new : List StepAt) (i : ℕ) → i < length qs → i < length ss
    → old ≡ all_quantiles (take i qs) (take i ss) → ((q s : StepAt) → slice_get qs i ≡ Some q → slice_get ss i ≡ Some s → new ≡ old ++ quantiles_at q s ∷ [])
    → new ≡ all_quantiles (take (i + 1) qs) (take (i + 1) ss)
lent_more qs ss old new i x y o n =
    let q = some_here qs i x in
    let s = some_here ss i y in
    n q.0 s.0 q.1 s.1 ∙ ap (λ (w : List StepAt). w ++ quantiles_at q.0 s.0 ∷ []) o ∙ sym (quantiles_more qs ss i q.0 s.0 q.1 s.1)
