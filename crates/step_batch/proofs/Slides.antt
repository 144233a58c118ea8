-- Samples that are let go in front.
use Rattle.std.proofs.Common.{◌≡◌, ◌∙◌, ◌+◌, ◌<◌, ◌≤◌, ℕ, zero, suc, arith, true, false, List, [], ◌∷◌, length, drop, get_or, refl, sym, ap}
use Rattle.std.specs.Prelude.{ℤ, ◌<ℤ◌, ◌≤ℤ◌, int_lt}
use Rattle.std.proofs.lemmas.Int.{ints}
use Rattle.ticks.specs.declared.moment.Ms.{Ms}
use Rattle.xfrac.specs.declared.value.XFrac.{XFrac}
use Rattle.step_batch.specs.Columns.{columns_behind, columns_from, early}

abbrev nothing : {A : Type 0} → List A
nothing = []

drop_none : {A : Type 0} (n : ℕ) → drop n (nothing {A = A}) ≡ nothing {A = A}
drop_none zero = refl
drop_none (suc n) = refl

-- one more of those in front
drop_next : {A : Type 0} (i n : ℕ) (xs : List A) → drop (suc n) (drop i xs) ≡ drop n (drop (suc i) xs)
drop_next zero n [] = sym (drop_none n)
drop_next zero n (x ∷ xs) = refl
drop_next (suc i) n [] = sym (drop_none n)
drop_next (suc i) n (x ∷ xs) = drop_next i n xs

early_next : (i : ℕ) (ts : List Ms) (edge : ℤ) (d : Ms) → i < length ts → (get_or ts i d).0 ≤ℤ edge → early edge (drop i ts) ≡ suc (early edge (drop (suc i) ts))
early_next i [] edge d l h = absurd (omega arith)
early_next zero (t ∷ ts) edge d l h = let f : int_lt edge t.0 ≡ false = grind (arith, ints, h) in rw f refl
early_next (suc i) (t ∷ ts) edge d l h = early_next i ts edge d (omega arith) h

early_here : (i : ℕ) (ts : List Ms) (edge : ℤ) (d : Ms) → i < length ts → edge <ℤ (get_or ts i d).0 → early edge (drop i ts) ≡ 0
early_here i [] edge d l h = absurd (omega arith)
early_here zero (t ∷ ts) edge d l h = let f : int_lt edge t.0 ≡ true = grind (arith, ints, h) in rw f refl
early_here (suc i) (t ∷ ts) edge d l h = early_here i ts edge d (omega arith) h

early_past : (i : ℕ) (ts : List Ms) (edge : ℤ) → length ts ≤ i → early edge (drop i ts) ≡ 0
early_past zero [] edge l = refl
early_past zero (t ∷ ts) edge l = absurd (omega arith)
early_past (suc i) [] edge l = refl
early_past (suc i) (t ∷ ts) edge l = early_past i ts edge (omega arith)

-- an early sample in front may be left out before
pub goes_on : (i : ℕ) (ts : List Ms) (vs : List XFrac) (edge : ℤ) (d : Ms) → i < length ts → (get_or ts i d).0 ≤ℤ edge → columns_behind edge (columns_from (i + 1) ts vs) ≡ columns_behind edge (columns_from i ts vs)
goes_on i ts vs edge d l h =
    let n = early edge (drop (suc i) ts) in
    let next : i + 1 ≡ suc i = omega arith in
    ap (λ (k : ℕ). columns_behind edge (columns_from k ts vs)) next
    ∙ sym (ap (λ (k : ℕ). columns_from k (drop i ts) (drop i vs)) (early_next i ts edge d l h) ∙ (λ j. record { times = drop_next i n ts j; values = drop_next i n vs j }))

-- where the first one is later, or there is none, all stay
pub stops_at : (i : ℕ) (ts : List Ms) (vs : List XFrac) (edge : ℤ) (d : Ms) → i < length ts → edge <ℤ (get_or ts i d).0 → columns_from i ts vs ≡ columns_behind edge (columns_from i ts vs)
stops_at i ts vs edge d l h = sym (ap (λ (k : ℕ). columns_from k (drop i ts) (drop i vs)) (early_here i ts edge d l h))

pub ends : (i : ℕ) (ts : List Ms) (vs : List XFrac) (edge : ℤ) → length ts ≤ i → columns_from i ts vs ≡ columns_behind edge (columns_from i ts vs)
ends i ts vs edge l = sym (ap (λ (k : ℕ). columns_from k (drop i ts) (drop i vs)) (early_past i ts edge l))
