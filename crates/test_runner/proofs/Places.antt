-- Which engine a series goes to.
use Rattle.std.proofs.Common.{◌≡◌, ℕ, ◌+◌, ◌<◌, ◌&&◌, ◌∙◌, Bool, true, false, cond, suc, List, [], ◌∷◌, ap, arith, drop, length, refl, sym, Some}
use Rattle.std.specs.Prelude.{is_some, slice_get}
use Rattle.std.specs.List.{position_from}
use Rattle.std.proofs.lemmas.Iterator.Adapters.{position_from-zero}
use Rattle.std.proofs.lemmas.List.{drop_more}
use Rattle.std.proofs.lemmas.Option.{get_or_from_slice_get, slice_get_within}
use Rattle.parting_laws.specs.Parted.{has_declared, has_pair}
use Rattle.script_read.specs.Series.{LabelList}
use Rattle.test_runner.specs.Loads.{engine_of, is_placed}

-- the pair at a place, and those behind it
pub declared_step : (declared labels : LabelList) (i : ℕ) (pair : List ℕ × List ℕ) → slice_get declared i ≡ Some pair → has_declared (drop i declared) labels ≡ (has_pair labels pair && has_declared (drop (i + 1) declared) labels)
declared_step declared labels i pair at =
    ap (λ (d : LabelList). has_declared d labels) (drop_more declared i pair (slice_get_within declared i pair at) ∙ ap (λ (y : List ℕ × List ℕ). y ∷ drop (i + 1) declared) (get_or_from_slice_get declared i pair pair at))

-- ---- places

some_same : {X : Type 0} (a b : X) → Some a ≡ Some b → a ≡ b
some_same a b e = cc

found : {X : Type 0} (t : X → Bool) (xs : List X) (j i : ℕ) → position_from t j xs ≡ Some i → (k : ℕ) × (x : X) × (i ≡ j + k) × (slice_get xs k ≡ Some x) × (t x ≡ true)
found t [] j i e = absurd (cc)
found {X} t (x ∷ xs) j i e = by (t x) refl e (λ h. found t xs (j + 1) i h)
  where
    by : (b : Bool) → t x ≡ b → cond b (Some j) (position_from t (j + 1) xs) ≡ Some i
        → (position_from t (j + 1) xs ≡ Some i → (k : ℕ) × (y : X) × (i ≡ j + 1 + k) × (slice_get xs k ≡ Some y) × (t y ≡ true))
        → (k : ℕ) × (y : X) × (i ≡ j + k) × (slice_get (x ∷ xs) k ≡ Some y) × (t y ≡ true)
    by true h s later = let same : j ≡ i = some_same j i s in (0, x, omega (arith, same), refl, h)
    by false h s later = let r = later s in (suc r.0, r.1, omega (arith, r.2), r.3, r.4)

-- the labels that a series goes by
pub engine_at : (declared : List LabelList) (labels : LabelList) (i : ℕ) → engine_of declared labels ≡ Some i → (names : LabelList) × (slice_get declared i ≡ Some names) × (has_declared names labels ≡ true)
engine_at declared labels i e =
    let r = found (λ (names : LabelList). has_declared names labels) declared 0 i (sym (position_from-zero (λ (names : LabelList). has_declared names labels) declared) ∙ e) in
    let same : r.0 ≡ i = omega (arith, r.2) in
    (r.1, ap (λ k. slice_get declared k) (sym same) ∙ r.3, r.4)

pub engine_within : (declared : List LabelList) (labels : LabelList) (i : ℕ) → engine_of declared labels ≡ Some i → i < length declared
engine_within declared labels i e = let there = engine_at declared labels i e in slice_get_within declared i there.0 there.1

pub placed_some : (declared : List LabelList) (labels : LabelList) → 0 < length declared → is_placed declared labels ≡ true → is_some (engine_of declared labels) ≡ true
placed_some [] labels l e = absurd (omega (arith, l))
placed_some (names ∷ declared) labels l e = e

pub placed_empty : (declared : List LabelList) (labels : LabelList) → length declared < 1 → true ≡ is_placed declared labels
placed_empty [] labels l = refl
placed_empty (names ∷ declared) labels l = absurd (omega (arith, l))

pub placed_first : (declared : List LabelList) (labels : LabelList) → 0 < length declared → is_some (engine_of declared labels) ≡ is_placed declared labels
placed_first [] labels l = absurd (omega (arith, l))
placed_first (names ∷ declared) labels l = refl

pub empty_of : {X : Type 0} (xs : List X) → length xs < 1 → xs ≡ []
empty_of [] l = refl
empty_of (x ∷ xs) l = absurd (omega (arith, l))

pub none_below : {X : Type 0} (xs : List X) → xs ≡ [] → 0 < length xs → ⊥
none_below [] e l = omega (arith, l)
none_below (x ∷ xs) e l = cc
