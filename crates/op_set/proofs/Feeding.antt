-- Steps of both sides that are fed one after another.
use Rattle.std.proofs.Common.{◌≡◌, ◌∙◌, ◌+◌, ◌<◌, ℕ, zero, suc, arith, List, [], ◌∷◌, ◌++◌, length, slice_get, take, sym, ap, Some}
use Rattle.func_table.specs.declared.table.SetOp.{SetOp}
use Rattle.label_set.specs.declared.rules.Pairing.{Pairing}
use Rattle.step_put.specs.Feeding.{some_here}
use Rattle.step_table.specs.Timed.{StepAt}
use Rattle.op_set.specs.Combining.{all_combined, combined_at}

-- ---- what is made

-- one step more
combined_more : (op : SetOp) (p : Pairing) (ls rs : List StepAt) (i : ℕ) (l r : StepAt) → slice_get ls i ≡ Some l → slice_get rs i ≡ Some r
    → all_combined op p (take (i + 1) ls) (take (i + 1) rs) ≡ all_combined op p (take i ls) (take i rs) ++ combined_at op p l r ∷ []
combined_more op p [] rs i l r x y = absurd (cc)
combined_more op p (a ∷ ls) [] i l r x y = absurd (cc)
combined_more op p (a ∷ ls) (b ∷ rs) zero l r x y =
    let e : a ≡ l = cc in
    let f : b ≡ r = cc in
    λ j. combined_at op p (e j) (f j) ∷ []
combined_more op p (a ∷ ls) (b ∷ rs) (suc i) l r x y =
    let n : suc i + 1 ≡ suc (i + 1) = omega arith in rw n (ap (λ (w : List StepAt). combined_at op p a b ∷ w) (combined_more op p ls rs i l r x y))

pub lent_more : (op : SetOp) (p : Pairing) (ls rs old new : List StepAt) (i : ℕ) → i < length ls → i < length rs → old ≡ all_combined op p (take i ls) (take i rs)
    → ((l r : StepAt) → slice_get ls i ≡ Some l → slice_get rs i ≡ Some r → new ≡ old ++ combined_at op p l r ∷ []) → new ≡ all_combined op p (take (i + 1) ls) (take (i + 1) rs)
lent_more op p ls rs old new i x y o n =
    let l = some_here ls i x in
    let r = some_here rs i y in
    n l.0 r.0 l.1 r.1 ∙ ap (λ (w : List StepAt). w ++ combined_at op p l.0 r.0 ∷ []) o ∙ sym (combined_more op p ls rs i l.0 r.0 l.1 r.1)
