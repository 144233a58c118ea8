-- Steps that are fed one after another, in pairs of one instant.
use Rattle.std.proofs.Common.{◌≡◌, ◌∙◌, ◌+◌, ◌<◌, ℕ, zero, suc, arith, List, [], ◌∷◌, ◌++◌, length, slice_get, take, map, sym, ap, Some}
use Rattle.std.specs.Option.{option_map}
use Rattle.step_batch.specs.declared.steps.PlacedStep.{PlacedStep}
use Rattle.step_table.specs.Timed.{StepAt}
use Rattle.ticks.specs.declared.moment.Ms.{Ms}
use Rattle.label_set.specs.declared.rules.Pairing.{Pairing}
use Rattle.xfrac.specs.declared.value.PairOp.{PairOp}
use Rattle.op_match.specs.Joins.{joined, joined_at}
use Rattle.op_match.proofs.Lists.{some_there}

-- ---- what is joined

-- one step more
joined_more : (op : PairOp) (p : Pairing) (ls rs : List StepAt) (i : ℕ) (l r : StepAt) → slice_get ls i ≡ Some l → slice_get rs i ≡ Some r → joined op p (take (i + 1) ls) (take (i + 1) rs) ≡ joined op p (take i ls) (take i rs) ++ joined_at op p l r ∷ []
joined_more op p [] rs i l r x y = absurd (cc)
joined_more op p (a ∷ ls) [] i l r x y = absurd (cc)
joined_more op p (a ∷ ls) (b ∷ rs) zero l r x y =
    let e : a ≡ l = cc in
    let f : b ≡ r = cc in
    λ j. joined_at op p (e j) (f j) ∷ []
joined_more op p (a ∷ ls) (b ∷ rs) (suc i) l r x y =
    let n : suc i + 1 ≡ suc (i + 1) = omega arith in rw n (ap (λ (w : List StepAt). joined_at op p a b ∷ w) (joined_more op p ls rs i l r x y))

pub lent_more : (op : PairOp) (p : Pairing) (ls rs old new : List StepAt) (i : ℕ) → i < length ls → i < length rs → old ≡ joined op p (take i ls) (take i rs)
    → ((l r : StepAt) → slice_get ls i ≡ Some l → slice_get rs i ≡ Some r → new ≡ old ++ joined_at op p l r ∷ []) → new ≡ joined op p (take (i + 1) ls) (take (i + 1) rs)
lent_more op p ls rs old new i x y o n =
    let l = some_there ls i x in
    let r = some_there rs i y in
    n l.0 r.0 l.1 r.1 ∙ ap (λ (w : List StepAt). w ++ joined_at op p l.0 r.0 ∷ []) o ∙ sym (joined_more op p ls rs i l.0 r.0 l.1 r.1)

-- ---- both sides at one instant

took_at : (steps : List PlacedStep) (i : ℕ) (t : Ms) → option_map (λ (s : PlacedStep). s.at) (slice_get steps i) ≡ Some t → take (i + 1) (map (λ (s : PlacedStep). s.at) steps) ≡ take i (map (λ (s : PlacedStep). s.at) steps) ++ t ∷ []
took_at [] i t e = absurd (cc)
took_at (s ∷ steps) zero t e = let same : s.at ≡ t = cc in ap (λ (u : Ms). u ∷ []) same
took_at (s ∷ steps) (suc i) t e = let n : suc i + 1 ≡ suc (i + 1) = omega arith in rw n (ap (λ (ts : List Ms). s.at ∷ ts) (took_at steps i t e))

pub same_more : (xs ys : List PlacedStep) (i : ℕ) (t u : Ms) → option_map (λ (s : PlacedStep). s.at) (slice_get xs i) ≡ Some t → option_map (λ (s : PlacedStep). s.at) (slice_get ys i) ≡ Some u → t.0 ≡ u.0
    → take i (map (λ (s : PlacedStep). s.at) xs) ≡ take i (map (λ (s : PlacedStep). s.at) ys) → take (i + 1) (map (λ (s : PlacedStep). s.at) xs) ≡ take (i + 1) (map (λ (s : PlacedStep). s.at) ys)
same_more xs ys i t u a b e h =
    let same : t ≡ u = λ j. record { 0 = e j } in
    took_at xs i t a ∙ ap (λ (ts : List Ms). ts ++ t ∷ []) h ∙ ap (λ (z : Ms). take i (map (λ (s : PlacedStep). s.at) ys) ++ z ∷ []) same ∙ sym (took_at ys i u b)
